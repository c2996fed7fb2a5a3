use Rattle.std.proofs.Common.{◌≡◌, ◌∷◌, [], map}
use Rattle.std.specs.Prelude.{decimal}
use Rattle.std.specs.List.{range_with_len}
use Rattle.csv.specs.Records.{fields_of, partial_of}
use Rattle.etp_closure.specs.Answers.{answer_of}
use Rattle.etp_report.specs.Blocks.{answer_text}
use Rattle.etp_report.proofs.block.fill_answers.Given as goal

abbrev pub invariant-loop-place : goal.invariant-loop-place
invariant-loop-place l = record {
  fields_so_far : fields_of l.row ≡ decimal l.e ∷ map (λ f. answer_text (answer_of l.closure l.e f)) (range_with_len l.first l.place);
  no_part : partial_of l.row ≡ [];
}
