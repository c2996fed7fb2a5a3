use Rattle.std.proofs.Common.{[]}
use Rattle.etp_io.proofs.ShelfLemmas.{keeps-some, keeps-empty, moved-none, moved-some}
use Rattle.etp_io.proofs.shelves.SureShelfShelf.read_at.Goals as goal

pub returns-in-None-clause-bytes : goal.returns-in-None-clause-bytes
returns-in-None-clause-bytes c = keeps-empty _ [] _ (rw c.deref.ensures.value at c.in-None.ensures)

pub returns-in-None-clause-gives : goal.returns-in-None-clause-gives
returns-in-None-clause-gives c = moved-none _ _ _ (rw c.deref.ensures.value at c.in-None.ensures)

pub returns-in-Some-clause-bytes : goal.returns-in-Some-clause-bytes
returns-in-Some-clause-bytes c =
    keeps-some _ _ _ _ _ _ (rw c.deref.ensures.value at c.in-Some.ensures) c.copy_at-count.ensures.count c.copy_at-count.ensures.bytes c.requires.some

pub returns-in-Some-clause-gives : goal.returns-in-Some-clause-gives
returns-in-Some-clause-gives c = moved-some _ _ _ _ _ (rw c.deref.ensures.value at c.in-Some.ensures) c.copy_at-count.ensures.count
