use Rattle.std.proofs.Common.{rules}
use Rattle.etp_finite_body.specs.FiniteBodies.{finite_body_of}
use Rattle.etp_finite_check.proofs.FiniteRights.{is_valid, says_right}
use Rattle.etp_finite_check.proofs.checking.check_finite.Goals as goal

pub returns-in-Proof-clause-valid : goal.returns-in-Proof-clause-valid
returns-in-Proof-clause-valid c =
    is_valid c.check_proof.result c.args.laws.now.equations (finite_body_of c.args.body.now) c.requires.listed c.requires.content (search rules)

pub returns-in-Table-clause-valid : goal.returns-in-Table-clause-valid
returns-in-Table-clause-valid c =
    is_valid c.check_table.result c.args.laws.now.equations (finite_body_of c.args.body.now) c.requires.listed c.requires.content (search rules)

pub returns-in-Linear-clause-valid : goal.returns-in-Linear-clause-valid
returns-in-Linear-clause-valid c =
    is_valid c.check_linear.result c.args.laws.now.equations (finite_body_of c.args.body.now) c.requires.listed c.requires.content (search rules)

pub returns-in-Proof-clause-right : goal.returns-in-Proof-clause-right
returns-in-Proof-clause-right c =
    says_right c.check_proof.result c.args.laws.now.equations (finite_body_of c.args.body.now) c.requires.listed c.requires.content (search rules)

pub returns-in-Table-clause-right : goal.returns-in-Table-clause-right
returns-in-Table-clause-right c =
    says_right c.check_table.result c.args.laws.now.equations (finite_body_of c.args.body.now) c.requires.listed c.requires.content (search rules)

pub returns-in-Linear-clause-right : goal.returns-in-Linear-clause-right
returns-in-Linear-clause-right c =
    says_right c.check_linear.result c.args.laws.now.equations (finite_body_of c.args.body.now) c.requires.listed c.requires.content (search rules)
