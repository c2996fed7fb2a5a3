use Rattle.etp_finite_body.proofs.WorkLemmas.{no_heading}
use Rattle.etp_finite_body.proofs.body.FiniteProof.take_said.Goals as goal

pub returns-in-Heading-clause-ok : goal.returns-in-Heading-clause-ok
returns-in-Heading-clause-ok c = no_heading c.args.self.now c.args.said c.in-Heading.is
