use Rattle.std.proofs.Common.{◌∙◌, ◌++◌, ◌<◌, ◌^◌, ap, List, ℕ, arith}
use Rattle.std.specs.Prelude.{decimal}
use Rattle.csv.specs.Records.{fields_of}
use Rattle.csv.specs.Writing as Csv
use Rattle.etp_closure.specs.Answers.{answer_of}
use Rattle.etp_report.specs.Blocks.{answer_text, record_line}
use Rattle.etp_report.proofs.Records.{many-fields, answers-plain}
use Rattle.etp_report.proofs.block.write_answers.Goals as goal

pub write_record-requires-clause-many : goal.write_record-requires-clause-many
write_record-requires-clause-many c =
    many-fields (fields_of c.fill_answers.new.row) (decimal c.args.e) (λ f. answer_text (answer_of c.args.closure.now c.args.e f)) c.args.first c.args.count c.in_ok-fill_answers.ensures c.requires.some

pub write_record-requires-clause-plain : goal.write_record-requires-clause-plain
write_record-requires-clause-plain c =
    let small : c.args.e < 2 ^ 32 = omega (arith, c.ranges.e) in
    answers-plain (fields_of c.fill_answers.new.row) (answer_of c.args.closure.now c.args.e) c.args.e c.args.first c.args.count c.in_ok-fill_answers.ensures small

pub returns-clause-text : goal.returns-clause-text
returns-clause-text c =
    let before = (Csv.writer_under c.args.writer.now).items ++ Csv.writer_pending c.args.writer.now in
    c.in_ok-write_record.ensures.text ∙ ap (λ (fields : List (List ℕ)). before ++ record_line fields) c.in_ok-fill_answers.ensures
