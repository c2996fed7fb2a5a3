use Rattle.etp_term.specs.Terms.{tree_of}
use Rattle.etp_match.specs.Bindings.{partial_of}
use Rattle.etp_unify.specs.Values.{Leads}
use Rattle.etp_unify.proofs.Triangular.{weight}
use Rattle.etp_unify.proofs.values.end_of.Given as goal

abbrev pub invariant-loop-end : goal.invariant-loop-end
invariant-loop-end l = Leads (partial_of l.bindings) (tree_of l.term) (tree_of l.end)

abbrev pub decreases-loop-end : goal.decreases-loop-end
decreases-loop-end l = weight l.bindings (tree_of l.end)
