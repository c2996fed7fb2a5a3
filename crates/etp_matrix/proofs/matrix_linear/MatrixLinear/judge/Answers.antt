use Rattle.etp_matrix.specs.Linears.{magma_of}
use Rattle.etp_matrix.proofs.Judged.{right_fact}
use Rattle.etp_matrix.proofs.matrix_linear.MatrixLinear.judge.Goals as goal

pub returns-clause-means : goal.returns-clause-means
returns-clause-means c =
    right_fact c.args.laws.now.equations (magma_of c.args.self.now) c.args.self.now.in_range c.args.holds.now c.args.fails.now
    (record { holding = c.in_ok-check_holds.ensures.ok; failing = c.in_ok-check_fails.ensures.ok })
