use Rattle.etp_laws.proofs.DualNumbers.{one_number_of}
use Rattle.etp_laws.proofs.theorems.numbers_are_one.Goals as goal

pub returns : goal.returns
returns c = one_number_of
