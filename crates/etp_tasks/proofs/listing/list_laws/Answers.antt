use Rattle.etp_laws.proofs.TheList.{laws_upto_is}
use Rattle.etp_tasks.proofs.WritingLemmas.{writes-none}
use Rattle.etp_tasks.proofs.listing.list_laws.Goals as goal

pub returns-in-Ok-clause-laws : goal.returns-in-Ok-clause-laws
returns-in-Ok-clause-laws g c = record { laws = _; the_list = rw c.operations.ensures.value at c.in-Ok.ensures.list; writes = c.write_laws.ensures.laws }

pub returns-in-Err-clause-laws : goal.returns-in-Err-clause-laws
returns-in-Err-clause-laws g c = record { laws = _; the_list = laws_upto_is _; writes = writes-none _ _ }
