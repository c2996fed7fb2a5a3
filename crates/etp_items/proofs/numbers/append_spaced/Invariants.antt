use Rattle.std.proofs.Common.{◌≡◌, ◌++◌, take}
use Rattle.etp_items.specs.Written.{spaced_behind}
use Rattle.etp_items.proofs.numbers.append_spaced.Given as goal

abbrev pub invariant-loop-number : goal.invariant-loop-number
invariant-loop-number l = l.text ≡ l.initial.text ++ spaced_behind (take l.number-index l.numbers)
