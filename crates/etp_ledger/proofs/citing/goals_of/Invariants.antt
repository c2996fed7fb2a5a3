use Rattle.std.proofs.Common.{◌≡◌, All, Some, map, take}
use Rattle.etp_ledger.specs.Files.{body_named, goal_in, StandsAsProof}
use Rattle.etp_ledger.specs.Kept.{files_of}
use Rattle.etp_ledger.proofs.citing.goals_of.Given as goal

abbrev pub invariant-loop-at : goal.invariant-loop-at
invariant-loop-at l = record {
  so_far : l.goals.items ≡ map (λ name. goal_in (body_named name (files_of l.files.entries))) (take l.at l.cites);
  right : All (StandsAsProof (files_of l.files.entries) (Some l.hypothesis)) (take l.at l.cites);
}
