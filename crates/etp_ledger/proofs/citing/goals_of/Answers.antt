use Rattle.std.proofs.Common.{Some}
use Rattle.etp_ledger.specs.Files.{body_named, goal_in, StandsAsProof}
use Rattle.etp_ledger.specs.Kept.{files_of}
use Rattle.etp_ledger.proofs.Lists.{all_next, map_next}
use Rattle.etp_ledger.proofs.citing.goals_of.Goals as goal

pub loop-at-preserved : goal.loop-at-preserved
loop-at-preserved c = record {
  so_far = map_next (λ name. goal_in (body_named name (files_of c.args.files.now.entries))) c.args.cites.now c.loop-at.at c.cite_at.result.now c.loop-at.goals.items c.push.new.self.items c.in_ok-goal_of.field-0 c.cite_at.ensures c.loop-at.invariant.so_far c.in_ok-goal_of.ensures.goal c.in_ok-push.ensures.items;
  right = all_next (StandsAsProof (files_of c.args.files.now.entries) (Some c.args.hypothesis)) c.args.cites.now c.loop-at.at c.cite_at.result.now c.cite_at.ensures c.loop-at.invariant.right c.in_ok-goal_of.ensures.ok;
}
