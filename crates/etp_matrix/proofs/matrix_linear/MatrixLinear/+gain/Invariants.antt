use Rattle.etp_theory.specs.Trees.{ops}
use Rattle.etp_term.specs.Terms.{tree_of}
use Rattle.etp_matrix.proofs.matrix_linear.MatrixLinear.+gain.Given as goal

abbrev pub decreases-gain : goal.decreases-gain
decreases-gain l = ops (tree_of l.term.now)
