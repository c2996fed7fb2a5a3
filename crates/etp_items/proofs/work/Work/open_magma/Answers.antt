use Rattle.etp_lines.specs.Said.{line_of}
use Rattle.etp_items.proofs.ModelLemmas.{magma_opens, magma_stays_shut}
use Rattle.etp_items.proofs.work.Work.open_magma.Goals as goal

pub returns-in-Some : goal.returns-in-Some
returns-in-Some c = magma_opens c.args.self.now (line_of c.args.said) c.in-Some.magma c.requires.opening c.requires.magma (rw c.in-Some.is at c.open.ensures)

pub returns-in-None : goal.returns-in-None
returns-in-None c = magma_stays_shut c.args.self.now (line_of c.args.said) c.requires.opening c.requires.magma (rw c.in-None.is at c.open.ensures)
