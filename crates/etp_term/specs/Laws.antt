-- Which law a value of the program stands for.
use Rattle.etp_theory.specs.Trees.{Equation}
use Rattle.etp_term.specs.Terms.{tree_of}
use Rattle.etp_term.specs.declared.law.Law.{Law}

-- the equation that a value of the program stands for
abbrev pub equation_of : Law → Equation
equation_of law = record { left = tree_of law.left; right = tree_of law.right }
