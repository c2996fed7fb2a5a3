use Rattle.std.specs.Option.{option_copied, option_map}
use Rattle.etp_term.specs.Terms.{tree_of}
use Rattle.etp_term.specs.Laws.{equation_of}
use Rattle.etp_search.specs.Spaces.{IsStepOf}
use Rattle.etp_search.specs.Levels.{IsLeastIn}
use Rattle.etp_search.proofs.nearest.nearest.Given as goal

abbrev pub invariant-loop-at : goal.invariant-loop-at
invariant-loop-at l = IsLeastIn (IsStepOf (equation_of l.space.law.now) (tree_of l.from)) l.seen l.start l.at (option_map tree_of (option_copied l.least))
