use Rattle.std.proofs.Common.{refl, arith}
use Rattle.etp_theory.proofs.LawExamples.{same_exchanged, by_lemma, by_cite, law_between, no_law_zero, no_law_four, own_inverse, not_inverse, not_within, dual_numbers, not_dual_numbers, right_facts, wrong_implication, wrong_refutation}
use Rattle.etp_theory.proofs.law_examples.Goals as goal

pub returns : goal.returns
returns c = record {
  same_exchanged = same_exchanged;
  dual_of_three = refl;
  word_of_three = refl;
  fewer_first = refl;
  left_part_first = refl;
  shorter_first = refl;
  left_side_first = refl;
  line_zero = refl;
  line_one = refl;
  cite_zero = refl;
  cite_one = refl;
  by_lemma = by_lemma;
  by_cite = by_cite;
  first_and_last = (law_between 1 (omega arith) (omega arith), law_between 3 (omega arith) (omega arith));
  no_law_zero = no_law_zero;
  no_law_four = no_law_four;
  own_inverse = own_inverse;
  not_inverse = not_inverse;
  not_within = not_within;
  dual_numbers = dual_numbers;
  not_dual_numbers = not_dual_numbers;
  right_facts = right_facts;
  wrong_implication = wrong_implication;
  wrong_refutation = wrong_refutation;
}
