use Rattle.std.proofs.Common.{refl}
use Rattle.etp_theory.proofs.RuleExamples.{backward, associative_convergent, variable_63, no_variable_64}
use Rattle.etp_theory.proofs.rule_examples.Goals as goal

pub returns : goal.returns
returns c = record {
  right_part_first = refl;
  right_position = refl;
  place_before_rule = refl;
  backward = backward;
  left_constant = refl;
  right_constant = refl;
  left_coefficient = refl;
  right_coefficient = refl;
  associative_convergent = associative_convergent;
  variable_63 = variable_63;
  no_variable_64 = no_variable_64;
}
