use Rattle.etp_theory.specs.Trees.{ops}
use Rattle.etp_term.specs.Terms.{tree_of}
use Rattle.etp_search.proofs.leading.+find_place.Given as goal

abbrev pub decreases-find_place : goal.decreases-find_place
decreases-find_place l = ops (tree_of l.from.now)
