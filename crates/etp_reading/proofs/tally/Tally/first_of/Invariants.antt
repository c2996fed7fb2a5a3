use Rattle.std.proofs.Common.{All, take}
use Rattle.etp_theory.specs.LawNumbers.{IsLaw}
use Rattle.etp_reading.proofs.tally.Tally.first_of.Given as goal

abbrev pub invariant-loop-number : goal.invariant-loop-number
invariant-loop-number l = All (IsLaw l.self.count) (take l.number-index l.numbers)
