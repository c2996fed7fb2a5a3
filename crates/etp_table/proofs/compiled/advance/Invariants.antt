use Rattle.std.proofs.Common.{◌≡◌, ◌+◌, ◌-◌, ◌^◌, length}
use Rattle.etp_theory.specs.Tables.{place_of}
use Rattle.etp_table.specs.Digits.{AreDigits}
use Rattle.etp_table.proofs.compiled.advance.Given as goal

abbrev pub invariant-loop-at : goal.invariant-loop-at
invariant-loop-at l = record {
  digits : AreDigits l.size l.digits;
  carried : place_of l.size l.digits + l.size ^ (length l.digits - l.at) ≡ place_of l.size l.initial.digits + 1;
}
