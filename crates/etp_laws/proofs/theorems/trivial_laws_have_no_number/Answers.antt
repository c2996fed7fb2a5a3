use Rattle.etp_laws.proofs.ReflexiveLaw.{none_same}
use Rattle.etp_laws.proofs.theorems.trivial_laws_have_no_number.Goals as goal

pub returns : goal.returns
returns c p e trivial listed = none_same p trivial.0 trivial.1 e listed
