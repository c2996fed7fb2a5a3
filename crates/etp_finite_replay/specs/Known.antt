-- What the lemmas of a finite proof may name.
use Rattle.std.specs.Prelude.{List, map}
use Rattle.etp_theory.specs.Trees.{Equation}
use Rattle.etp_term.specs.Laws.{equation_of}
use Rattle.etp_term.specs.Terms.{tree_of}
use Rattle.etp_cancel.specs.Cancelling.{Cancel}
use Rattle.etp_finite_replay.specs.declared.replaying.Known.{Known}
use Rattle.etp_finite_replay.specs.declared.replaying.CancelParts.{CancelParts}

abbrev pub hypothesis_in : Known → Equation
hypothesis_in known = equation_of known.hypothesis.now

abbrev pub earlier_in : Known → List Equation
earlier_in known = map equation_of known.earlier.now

-- the line that cancels
abbrev pub cancel_in : CancelParts → Cancel
cancel_in c = record {
  line = c.line;
  variable = c.variable;
  outer = tree_of c.outer.now;
  inner = tree_of c.inner.now;
}
