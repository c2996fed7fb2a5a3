use Rattle.std.proofs.Common.{◌∙◌, ◌++◌, ap, List, ℕ}
use Rattle.std.specs.Prelude.{codes, decimal}
use Rattle.csv.specs.Records.{fields_of}
use Rattle.csv.specs.Writing as Csv
use Rattle.etp_report.specs.Blocks.{record_line}
use Rattle.etp_report.proofs.Records.{many-fields, head-plain}
use Rattle.etp_report.proofs.block.write_head.Goals as goal

pub write_record-requires-clause-many : goal.write_record-requires-clause-many
write_record-requires-clause-many c = many-fields (fields_of c.fill_head.new.row) (codes "law") decimal c.args.first c.args.count c.in_ok-fill_head.ensures c.requires.some

pub write_record-requires-clause-plain : goal.write_record-requires-clause-plain
write_record-requires-clause-plain c = head-plain (fields_of c.fill_head.new.row) c.args.first c.args.count c.in_ok-fill_head.ensures c.requires.few

pub returns-clause-text : goal.returns-clause-text
returns-clause-text c =
    let before = (Csv.writer_under c.args.writer.now).items ++ Csv.writer_pending c.args.writer.now in
    c.in_ok-write_record.ensures.text ∙ ap (λ (fields : List (List ℕ)). before ++ record_line fields) c.in_ok-fill_head.ensures
