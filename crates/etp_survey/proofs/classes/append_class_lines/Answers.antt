use Rattle.std.proofs.Common.{◌≡◌, ◌∙◌, ◌++◌, ap, arith, List, ℕ, take_all}
use Rattle.std.specs.Prelude.{flat_map}
use Rattle.etp_survey.specs.PairReplies.{class_line}
use Rattle.etp_survey.proofs.ReportAnswers.{lines-more}
use Rattle.etp_survey.proofs.classes.append_class_lines.Goals as goal

pub loop-class-preserved : goal.loop-class-preserved
loop-class-preserved c =
    lines-more class_line c.args.classes.now c.loop-class.class-index c.class-item.result c.args.text.now c.loop-class.text c.append_class_line.new.text c.loop-class-test.true c.class-item.is c.loop-class.invariant c.in_ok-append_class_line.ensures
