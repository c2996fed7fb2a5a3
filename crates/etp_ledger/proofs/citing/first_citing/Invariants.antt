use Rattle.std.proofs.Common.{All, take}
use Rattle.etp_ledger.specs.Withdrawing.{Cites}
use Rattle.etp_ledger.specs.Kept.{files_of}
use Rattle.etp_ledger.proofs.citing.first_citing.Given as goal

abbrev pub invariant-loop-at : goal.invariant-loop-at
invariant-loop-at l = All (λ file. ¬ Cites l.name file) (take l.at (files_of l.files.entries))
