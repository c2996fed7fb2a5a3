use Rattle.etp_gen.specs.Draws.{start}
use Rattle.etp_ledger.specs.Ledgers.{IsOver}
use Rattle.etp_demo.proofs.FilledLedgers.{HasFiles}
use Rattle.etp_demo.proofs.filling.fill.Given as goal

abbrev pub invariant-loop-k : goal.invariant-loop-k
invariant-loop-k l = IsOver l.laws l.ledger × HasFiles l.laws.equations (start l.seed) l.k l.generator l.ledger.files
