use Rattle.std.proofs.Common.{◌≡◌, ◌++◌, take}
use Rattle.std.specs.Prelude.{flat_map}
use Rattle.etp_survey.specs.PairReplies.{class_line}
use Rattle.etp_survey.proofs.classes.append_class_lines.Given as goal

abbrev pub invariant-loop-class : goal.invariant-loop-class
invariant-loop-class l = l.text ≡ l.initial.text ++ flat_map class_line (take l.class-index l.classes)
