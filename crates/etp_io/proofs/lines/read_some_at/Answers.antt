use Rattle.etp_io.proofs.ShelfLemmas.{some-at}
use Rattle.etp_io.proofs.lines.read_some_at.Goals as goal

pub returns-clause-bytes : goal.returns-clause-bytes
returns-clause-bytes g c = some-at c.read_at.result _ _ _ _ _ c.read_at.ensures.bound c.read_at.ensures.bytes
