use Rattle.std.proofs.Common.{◌≡◌, take}
use Rattle.etp_complete.proofs.rounds.copied.Given as goal

abbrev pub invariant-loop-at : goal.invariant-loop-at
invariant-loop-at l = l.rules ≡ take l.at l.fn.system.rules
