use Rattle.std.proofs.Common.{arith}
use Rattle.std.proofs.lemmas.List.{take_rest}
use Rattle.std.proofs.lemmas.Grind.{common_steps}
use Rattle.etp_io.proofs.StreamLemmas.{copied}
use Rattle.etp_io.proofs.memory.MemorySourceSource.read.Goals as goal

pub returns-clause-bytes : goal.returns-clause-bytes
returns-clause-bytes c = (
  copied c.args.self.now.bytes.items _ c.args.self.now.at _ (rw (take_rest, c.deref-2.ensures.value) at c.copy_some-count.ensures.bytes),
  λ z p. grind (arith, common_steps),
)
