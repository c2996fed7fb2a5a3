use Rattle.std.proofs.lemmas.List.Elements.{All-more}
use Rattle.etp_laws.proofs.NumberLists.{all_taken}
use Rattle.etp_linear.specs.Linears.{magma_of}
use Rattle.etp_linear.specs.Judgements.{LawFails}
use Rattle.etp_linear.proofs.Judged.{fails_by}
use Rattle.etp_linear.proofs.linear.Linear.check_fails.Goals as goal

pub loop-number-preserved : goal.loop-number-preserved
loop-number-preserved c = All-more (LawFails c.args.laws.now.equations (magma_of c.args.self.now)) c.args.fails.now c.loop-number.number-index 0 c.loop-number-test.true c.loop-number.invariant (fails_by c.args.laws.now.equations (magma_of c.args.self.now) _ _ c.in-Some.ensures.some)

pub returns-clause-ok : goal.returns-clause-ok
returns-clause-ok c = all_taken (LawFails c.args.laws.now.equations (magma_of c.args.self.now)) c.args.fails.now c.loop-number.number-index c.loop-number-test.false c.loop-number.invariant
