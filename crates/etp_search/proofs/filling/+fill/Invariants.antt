use Rattle.std.proofs.Common.{ℕ, ◌<◌, ◌+◌, ◌-◌, ◌*◌}
use Rattle.etp_theory.specs.Trees.{var}
use Rattle.etp_theory.specs.Substitutions.{apply}
use Rattle.etp_term.specs.Terms.{tree_of}
use Rattle.etp_search.specs.Sets.{IsJoined}
use Rattle.etp_search.specs.Filling.{at_one, IsFilled}
use Rattle.etp_search.specs.Programs.{space_of}
use Rattle.etp_search.proofs.Opening.{filled}
use Rattle.etp_search.proofs.filling.+fill.Given as goal

abbrev pub decreases-fill : goal.decreases-fill
decreases-fill l = 4 * l.space.leaves + 2 - filled (tree_of l.slotted.now)

abbrev pub invariant-loop-variable : goal.invariant-loop-variable
invariant-loop-variable l =
    IsJoined (λ t. (v : ℕ) × (v < l.variable) × IsFilled (space_of l.space) (apply (at_one l.slot (var v)) (tree_of l.slotted)) t) l.most l.initial.found l.found
