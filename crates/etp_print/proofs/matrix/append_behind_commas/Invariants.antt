use Rattle.std.proofs.Common.{◌≡◌, ◌++◌, take}
use Rattle.etp_print.specs.RefusalTexts.{comma_behind}
use Rattle.etp_print.proofs.matrix.append_behind_commas.Given as goal

abbrev pub invariant-loop-number : goal.invariant-loop-number
invariant-loop-number l = l.text ≡ l.initial.text ++ comma_behind (take l.number-index l.numbers)
