use Rattle.std.proofs.lemmas.List.Elements.{All-more}
use Rattle.etp_laws.proofs.NumberLists.{all_taken}
use Rattle.etp_matrix.specs.Linears.{magma_of}
use Rattle.etp_matrix.specs.Judgements.{LawHolds}
use Rattle.etp_matrix.proofs.matrix_linear.MatrixLinear.check_holds.Goals as goal

pub loop-number-preserved : goal.loop-number-preserved
loop-number-preserved c = All-more (LawHolds c.args.laws.now.equations (magma_of c.args.self.now)) c.args.holds.now c.loop-number.number-index 0 c.loop-number-test.true c.loop-number.invariant c.in-None.ensures.none

pub returns-clause-ok : goal.returns-clause-ok
returns-clause-ok c = all_taken (LawHolds c.args.laws.now.equations (magma_of c.args.self.now)) c.args.holds.now c.loop-number.number-index c.loop-number-test.false c.loop-number.invariant
