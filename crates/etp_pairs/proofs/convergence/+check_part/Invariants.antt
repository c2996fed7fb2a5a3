use Rattle.etp_theory.specs.Trees.{ops}
use Rattle.etp_term.specs.Terms.{tree_of}
use Rattle.etp_pairs.proofs.convergence.+check_part.Given as goal

abbrev pub decreases-check_part : goal.decreases-check_part
decreases-check_part l = ops (tree_of l.part.now)
