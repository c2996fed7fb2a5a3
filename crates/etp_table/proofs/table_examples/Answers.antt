use Rattle.std.proofs.Common.{refl}
use Rattle.etp_table.proofs.Failures.{first_of_two}
use Rattle.etp_table.proofs.table_examples.Goals as goal

pub returns : goal.returns
returns c = record { row = refl; column = refl; second = refl; value = refl; looked_at = refl; first = first_of_two }
