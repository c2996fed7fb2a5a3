use Rattle.std.proofs.Common.{take}
use Rattle.std.specs.Prelude.{All}
use Rattle.etp_matrix.specs.Linears.{magma_of}
use Rattle.etp_matrix.specs.Judgements.{LawHolds}
use Rattle.etp_matrix.proofs.matrix_linear.MatrixLinear.check_holds.Given as goal

abbrev pub invariant-loop-number : goal.invariant-loop-number
invariant-loop-number l = All (LawHolds l.laws.equations (magma_of l.self)) (take l.number-index l.holds)
