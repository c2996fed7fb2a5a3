use Rattle.etp_sweep.proofs.Sweeping.{Swept}
use Rattle.etp_sweep.proofs.sweep.profile.Given as goal

abbrev pub invariant-loop-before : goal.invariant-loop-before
invariant-loop-before l = Swept l.laws.equations l.table l.numbers l.before
