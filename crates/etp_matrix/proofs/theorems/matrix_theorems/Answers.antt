use Rattle.std.proofs.Common.{refl}
use Rattle.etp_matrix.specs.Sound.{closed_in}
use Rattle.etp_matrix.proofs.Magmas.{by_matrix}
use Rattle.etp_matrix.proofs.Failing.{by_form, by_matrices}
use Rattle.etp_matrix.proofs.Meaning.{not_both}
use Rattle.etp_matrix.proofs.Offences.{one_offence, in_or_out, one_out_of_range}
use Rattle.etp_matrix.proofs.theorems.matrix_theorems.Goals as goal

pub returns : goal.returns
returns c = record {
  closed = closed_in;
  by_matrix = by_matrix;
  holds = λ g ok p q. (by_form g ok p q, λ h. by_matrices g ok p q h.0 h.1);
  not_both = not_both;
  one_offence = one_offence;
  in_or_out = in_or_out;
  one_out_of_range = one_out_of_range;
  value_modulo_two = refl;
  value_modulo_five = refl;
  matrix_modulo_five = refl;
}
