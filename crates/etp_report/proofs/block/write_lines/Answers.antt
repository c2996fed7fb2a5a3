use Rattle.std.proofs.Common.{◌∙◌, ◌++◌, ◌+◌, refl, sym, ap, arith, append-nil}
use Rattle.csv.specs.Writing as Csv
use Rattle.etp_closure.specs.Answers.{answer_of}
use Rattle.std.specs.Prelude.{flat_map}
use Rattle.std.specs.List.{range_with_len}
use Rattle.etp_report.specs.Blocks.{head_line, answers_line}
use Rattle.etp_report.proofs.Records.{line-more}
use Rattle.etp_report.proofs.block.write_lines.Goals as goal

pub loop-place-init : goal.loop-place-init
loop-place-init c =
    let from = c.from_writer-writer.ensures in
    record {
      setup = c.in_ok-write_head.ensures.setup;
      fresh = c.in_ok-write_head.ensures.fresh;
      blank = c.in_ok-write_head.ensures.blank;
      text_so_far = c.in_ok-write_head.ensures.text ∙ rw (from.wtr, c.new-2.ensures.items, from.empty) (sym (append-nil (head_line c.args.first c.args.count)));
    }

pub write_answers-requires-clause-e_in : goal.write_answers-requires-clause-e_in
write_answers-requires-clause-e_in c = record {
  from_one = omega (arith, c.requires.from_one);
  to_last = omega (arith, c.requires.to_last, c.loop-place-test.true);
}

pub loop-place-preserved : goal.loop-place-preserved
loop-place-preserved c =
    let old = c.loop-place.writer in
    let new = c.write_answers.new.writer in
    record {
      setup = c.in_ok-write_answers.ensures.setup;
      fresh = c.in_ok-write_answers.ensures.fresh;
      blank = c.in_ok-write_answers.ensures.blank;
      text_so_far = line-more (head_line c.args.first c.args.count) (answers_line (answer_of c.args.closure.now) c.args.first c.args.count) c.args.first c.loop-place.place (c.args.first + c.loop-place.place)
          ((Csv.writer_under old).items ++ Csv.writer_pending old) ((Csv.writer_under new).items ++ Csv.writer_pending new) refl c.loop-place.invariant.text_so_far c.in_ok-write_answers.ensures.text;
    }

pub returns-in-Ok : goal.returns-in-Ok
returns-in-Ok c =
    c.in-Ok.ensures.ok ∙ c.loop-place.invariant.text_so_far
    ∙ ap (λ n. head_line c.args.first c.args.count ++ flat_map (answers_line (answer_of c.args.closure.now) c.args.first c.args.count) (range_with_len c.args.first n)) (omega (arith, c.loop-place-test.false))
