use Rattle.etp_laws.proofs.Unique.{IsTheList-unique}
use Rattle.etp_laws.proofs.theorems.the_list_is_one.Goals as goal

pub returns : goal.returns
returns c = IsTheList-unique
