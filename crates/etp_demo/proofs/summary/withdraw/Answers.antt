use Rattle.etp_ledger.specs.Withdrawing.{without}
use Rattle.etp_ledger.proofs.Verdicts.{withdrawn_or_refused}
use Rattle.etp_demo.proofs.summary.withdraw.Goals as goal

pub unreachable-requires : goal.unreachable-requires
unreachable-requires c = withdrawn_or_refused c.args.ledger.now.files c.args.name.now (without c.args.name.now c.args.ledger.now.files) c.in-Err.field-0 c.requires c.in-Err.ensures.err
