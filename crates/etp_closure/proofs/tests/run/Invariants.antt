use Rattle.std.proofs.Common.{◌≤◌, length}
use Rattle.etp_closure.proofs.tests.run.Given as goal

abbrev pub invariant-again : goal.invariant-again
invariant-again l = 60 ≤ length l.closure.duals
