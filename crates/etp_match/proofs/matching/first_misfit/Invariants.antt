use Rattle.std.proofs.Common.{List, ◌++◌}
use Rattle.etp_theory.specs.Positions.{Side}
use Rattle.etp_term.specs.Terms.{tree_of}
use Rattle.etp_term.specs.Positions.{position_of}
use Rattle.etp_match.specs.Bindings.{partial_of}
use Rattle.etp_match.specs.Matching.{NoneMatches, IsFirstMisfit}
use Rattle.etp_match.proofs.matching.first_misfit.Given as goal

abbrev pub invariant-loop-inner : goal.invariant-loop-inner
invariant-loop-inner l = record {
  none : NoneMatches (tree_of l.inner) (tree_of l.subterm) (partial_of l.bindings);
  found : (q : List Side) → IsFirstMisfit (partial_of l.bindings) (tree_of l.inner) (tree_of l.subterm) q
      → IsFirstMisfit (partial_of l.fn.bindings) (tree_of l.fn.pattern) (tree_of l.fn.term) (position_of l.position ++ q);
}
