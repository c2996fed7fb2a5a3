use Rattle.etp_term.specs.Terms.{tree_of}
use Rattle.etp_unify.proofs.Triangular.{weight}
use Rattle.etp_unify.proofs.values.+resolved.Given as goal

abbrev pub decreases-resolved : goal.decreases-resolved
decreases-resolved l = weight l.bindings.now (tree_of l.term.now)
