use Rattle.std.proofs.Common.{rules}
use Rattle.etp_items.specs.Bodies.{body_of}
use Rattle.etp_check.proofs.Rights.{says_right}
use Rattle.etp_check.proofs.checking.check.Goals as goal

pub returns-in-Proof-clause-right : goal.returns-in-Proof-clause-right
returns-in-Proof-clause-right c =
    says_right c.check_proof.result c.args.laws.now.equations (body_of c.args.body.now) c.args.cited.now c.requires.listed c.requires.content c.requires.cited (search rules)

pub returns-in-Table-clause-right : goal.returns-in-Table-clause-right
returns-in-Table-clause-right c =
    says_right c.check_table.result c.args.laws.now.equations (body_of c.args.body.now) c.args.cited.now c.requires.listed c.requires.content c.requires.cited (search rules)

pub returns-in-Linear-clause-right : goal.returns-in-Linear-clause-right
returns-in-Linear-clause-right c =
    says_right c.check_linear.result c.args.laws.now.equations (body_of c.args.body.now) c.args.cited.now c.requires.listed c.requires.content c.requires.cited (search rules)

pub returns-in-Matrix-clause-right : goal.returns-in-Matrix-clause-right
returns-in-Matrix-clause-right c =
    says_right c.check_matrix.result c.args.laws.now.equations (body_of c.args.body.now) c.args.cited.now c.requires.listed c.requires.content c.requires.cited (search rules)

pub returns-in-Rules-clause-right : goal.returns-in-Rules-clause-right
returns-in-Rules-clause-right c =
    says_right c.check_rules.result c.args.laws.now.equations (body_of c.args.body.now) c.args.cited.now c.requires.listed c.requires.content c.requires.cited (search rules)
