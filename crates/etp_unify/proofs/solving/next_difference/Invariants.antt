use Rattle.std.proofs.Common.{ℕ, ◌↔◌}
use Rattle.etp_theory.specs.Trees.{Tree}
use Rattle.etp_match.specs.Bindings.{partial_of}
use Rattle.etp_unify.specs.Solving.{Respects, Equates}
use Rattle.etp_unify.proofs.Pairs.{load}
use Rattle.etp_unify.proofs.solving.next_difference.Given as goal

abbrev pub invariant-loop-pair : goal.invariant-loop-pair
invariant-loop-pair l = (n : ℕ → Tree) → Respects n (partial_of l.bindings) → Equates n l.initial.pairs.items ↔ Equates n l.pairs.items

abbrev pub decreases-loop-pair : goal.decreases-loop-pair
decreases-loop-pair l = load l.bindings l.pairs.items
