-- Which term a value of the program stands for.
use Rattle.etp_theory.specs.Trees.{Tree, var, op}
use Rattle.etp_term.specs.declared.term.Term.{Term, fold-Term}
use Rattle.etp_term.specs.declared.term.Term.TheOpen.{Term-F, Var, Op}

abbrev pub tree_step : Term-F Tree → Tree
tree_step (Var v) = var v
tree_step (Op l r) = op l r

-- the term that a value of the program stands for
abbrev pub tree_of : Term → Tree
tree_of = fold-Term Tree tree_step
