use Rattle.etp_theory.specs.Trees.{ops}
use Rattle.etp_term.specs.Terms.{tree_of}
use Rattle.etp_pairs.proofs.naming.+note.Given as goal

abbrev pub decreases-note : goal.decreases-note
decreases-note l = ops (tree_of l.term.now)
