use Rattle.etp_theory.specs.Trees.{ops}
use Rattle.etp_term.specs.Terms.{tree_of}
use Rattle.etp_search.proofs.leading.+leads.Given as goal

abbrev pub decreases-leads : goal.decreases-leads
decreases-leads l = ops (tree_of l.from.now)
