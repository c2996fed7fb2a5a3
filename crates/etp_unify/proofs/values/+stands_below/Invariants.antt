use Rattle.etp_term.specs.Terms.{tree_of}
use Rattle.etp_unify.proofs.Triangular.{weight}
use Rattle.etp_unify.proofs.values.+stands_below.Given as goal

abbrev pub decreases-stands_below : goal.decreases-stands_below
decreases-stands_below l = weight l.bindings.now (tree_of l.term.now)
