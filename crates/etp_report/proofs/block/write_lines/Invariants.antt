use Rattle.std.proofs.Common.{◌≡◌, ◌++◌, false}
use Rattle.std.specs.Prelude.{flat_map}
use Rattle.std.specs.List.{range_with_len}
use Rattle.csv.specs.Writing as Csv
use Rattle.etp_closure.specs.Answers.{answer_of}
use Rattle.etp_report.specs.Blocks.{head_line, answers_line}
use Rattle.etp_report.proofs.block.write_lines.Given as goal

abbrev pub invariant-loop-place : goal.invariant-loop-place
invariant-loop-place l = record {
  setup : Csv.writer_setup l.writer ≡ Csv.default_writer;
  fresh : Csv.fields_written l.writer ≡ 0;
  blank : Csv.has_written l.writer ≡ false;
  text_so_far : (Csv.writer_under l.writer).items ++ Csv.writer_pending l.writer
      ≡ head_line l.first l.count ++ flat_map (answers_line (answer_of l.closure) l.first l.count) (range_with_len l.first l.place);
}
