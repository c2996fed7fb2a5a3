use Rattle.std.proofs.Common.{◌≡◌}
use Rattle.etp_closure.specs.Answers.{answer_of}
use Rattle.etp_report.specs.Reports.{class_with}
use Rattle.etp_report.proofs.classes.class_of.Given as goal

abbrev pub invariant-loop-place : goal.invariant-loop-place
invariant-loop-place l = l.class ≡ class_with (answer_of l.closure) l.place l.e
