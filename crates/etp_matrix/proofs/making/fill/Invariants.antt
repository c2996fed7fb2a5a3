use Rattle.std.proofs.Common.{◌≡◌, ◌++◌, take, drop}
use Rattle.etp_matrix.proofs.making.fill.Given as goal

abbrev pub invariant-loop-n : goal.invariant-loop-n
invariant-loop-n l = l.to ≡ take l.n l.from ++ drop l.n l.initial.to
