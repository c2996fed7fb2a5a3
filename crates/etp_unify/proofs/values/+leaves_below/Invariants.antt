use Rattle.etp_term.specs.Terms.{tree_of}
use Rattle.etp_unify.proofs.Triangular.{weight}
use Rattle.etp_unify.proofs.values.+leaves_below.Given as goal

abbrev pub decreases-leaves_below : goal.decreases-leaves_below
decreases-leaves_below l = weight l.bindings.now (tree_of l.term.now)
