use Rattle.std.proofs.Common.{◌≡◌, ◌∙◌, ◌+◌, ◌++◌, ◌∷◌, [], refl, ap, arith, List, ℕ}
use Rattle.std.specs.Prelude.{decimal}
use Rattle.csv.specs.Records.{fields_of}
use Rattle.etp_closure.specs.Answers.{answer_of}
use Rattle.etp_report.specs.Blocks.{answer_text}
use Rattle.etp_report.proofs.Records.{field-more}
use Rattle.etp_report.proofs.block.fill_answers.Goals as goal

pub answer-answer-requires-clause-f_in : goal.answer-answer-requires-clause-f_in
answer-answer-requires-clause-f_in c = record {
  from_one = omega (arith, c.requires.from_one);
  to_last = omega (arith, c.requires.to_last, c.loop-place-test.true);
}

pub loop-place-init : goal.loop-place-init
loop-place-init c = record {
  fields_so_far = c.in_ok-push_number.ensures.fields ∙ rw c.clear.ensures.fields refl;
  no_part = c.in_ok-push_number.ensures.no_part;
}

pub loop-place-preserved : goal.loop-place-preserved
loop-place-preserved c =
    let j = c.args.first + c.loop-place.place in
    let text : List ℕ → List (List ℕ) = λ field. fields_of c.loop-place.row ++ field ∷ [] in
    let more : fields_of c.push_field.new.self ≡ text (answer_text (answer_of c.args.closure.now c.args.e j)) =
    c.in_ok-push_field.ensures.fields ∙ rw c.loop-place.invariant.no_part refl ∙ ap text (c.as_bytes.ensures.value ∙ c.answer_word.ensures ∙ ap answer_text c.answer-answer.ensures.value) in
    record {
      fields_so_far = field-more (decimal c.args.e) (λ f. answer_text (answer_of c.args.closure.now c.args.e f)) c.args.first c.loop-place.place j (fields_of c.loop-place.row) (fields_of c.push_field.new.self) refl
          c.loop-place.invariant.fields_so_far more;
      no_part = c.in_ok-push_field.ensures.partial;
    }
