use Rattle.etp_theory.specs.Trees.{ops}
use Rattle.etp_term.specs.Terms.{tree_of}
use Rattle.etp_search.proofs.expanding.+instance.Given as goal

abbrev pub decreases-instance : goal.decreases-instance
decreases-instance l = ops (tree_of l.pattern.now)
