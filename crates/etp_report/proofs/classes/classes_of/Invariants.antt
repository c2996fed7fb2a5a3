use Rattle.std.proofs.Common.{◌≡◌, length}
use Rattle.std.specs.Prelude.{filter, map}
use Rattle.etp_closure.specs.Answers.{answer_of}
use Rattle.etp_report.specs.Reports.{laws_to, class_with, is_least}
use Rattle.etp_report.proofs.classes.classes_of.Given as goal

abbrev pub invariant-loop-place : goal.invariant-loop-place
invariant-loop-place l =
    l.classes ≡ map (class_with (answer_of l.closure) (length l.closure.duals)) (filter (is_least (answer_of l.closure) (length l.closure.duals)) (laws_to l.place))
