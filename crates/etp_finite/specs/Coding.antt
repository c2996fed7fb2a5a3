-- Terms written as lists of numbers, from which they are read back. No clause cites it.
use Rattle.std.specs.Prelude.{refl}
use Rattle.std.specs.Coded.{Coded, code_by}
use Rattle.etp_theory.specs.Trees.{Tree, Equation}
use Rattle.etp_laws.specs.Coding.{coded_equation}

abbrev pub coded_tree : Coded Tree
coded_tree = code_by Equation coded_equation (λ t. record { left = t; right = t }) (λ e. e.left) (λ _. refl)
