use Rattle.std.proofs.Common.{◌≡◌, ◌++◌, map, take}
use Rattle.etp_term.specs.Positions.{position_of}
use Rattle.etp_items.specs.Written.{side_letter}
use Rattle.etp_print.proofs.rules.append_letters.Given as goal

abbrev pub invariant-loop-side : goal.invariant-loop-side
invariant-loop-side l = l.text ≡ l.initial.text ++ map side_letter (position_of (take l.side-index l.sides))
