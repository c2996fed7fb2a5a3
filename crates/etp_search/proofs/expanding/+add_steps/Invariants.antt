use Rattle.etp_theory.specs.Trees.{ops}
use Rattle.etp_term.specs.Terms.{tree_of}
use Rattle.etp_search.proofs.expanding.+add_steps.Given as goal

abbrev pub decreases-add_steps : goal.decreases-add_steps
decreases-add_steps l = ops (tree_of l.term.now)
