use Rattle.etp_unify.proofs.Solutions.{IsSolvedTo}
use Rattle.etp_unify.proofs.values.subst_of.Given as goal

abbrev pub invariant-loop-v : goal.invariant-loop-v
invariant-loop-v l = IsSolvedTo l.bindings l.subst l.v
