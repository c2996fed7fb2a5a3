use Rattle.std.proofs.Common.{refl}
use Rattle.etp_forms.proofs.Values as Forms
use Rattle.etp_linear.specs.Magmas.{inside, times}
use Rattle.etp_linear.specs.Values.{affine}
use Rattle.etp_linear.proofs.Scalars.{linear, generate, by_coefficients}
use Rattle.etp_linear.proofs.Walks.{in_carrier}
use Rattle.etp_linear.specs.Sound.{closed_in}
use Rattle.etp_linear.proofs.Meaning.{not_both}
use Rattle.etp_linear.proofs.Offences.{one_offence, in_or_out, one_out_of_range}
use Rattle.etp_linear.proofs.theorems.linear_theorems.Goals as goal

pub returns : goal.returns
returns c = record {
  closed = closed_in;
  holds = λ l ok p q.
      let i = in_carrier l.ring l.c ok.c_in_range in
      let b = by_coefficients l ok.modulus i p q in (
        λ h. b.0 (Forms.holds_one_form (inside l.ring) (times l) (affine l) (linear l ok.modulus i) _ (generate l ok.modulus) p q h),
        λ h. Forms.one_form_holds (inside l.ring) (times l) (affine l) (linear l ok.modulus i) _ (generate l ok.modulus) p q (b.1 h),
      );
  not_both = not_both;
  one_offence = one_offence;
  in_or_out = in_or_out;
  one_out_of_range = one_out_of_range;
  value_over_integers = refl;
  value_modulo_seven = refl;
}
