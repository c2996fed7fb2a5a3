use Rattle.etp_match.specs.Bindings.{partial_of}
use Rattle.etp_unify.proofs.Rounds.{IsLeft}
use Rattle.etp_unify.proofs.Unbound.{unbound}
use Rattle.etp_unify.proofs.solving.solve.Given as goal

abbrev pub invariant-loop-left : goal.invariant-loop-left
invariant-loop-left l = IsLeft l.initial.bindings l.initial.left.items l.bindings l.left.items

abbrev pub decreases-loop-left : goal.decreases-loop-left
decreases-loop-left l = unbound (partial_of l.bindings)
