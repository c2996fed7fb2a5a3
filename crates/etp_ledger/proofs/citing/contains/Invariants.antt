use Rattle.std.proofs.Common.{◌≢◌, All, take}
use Rattle.etp_ledger.proofs.citing.contains.Given as goal

abbrev pub invariant-loop-at : goal.invariant-loop-at
invariant-loop-at l = All (λ cite. cite ≢ l.name) (take l.at l.cites)
