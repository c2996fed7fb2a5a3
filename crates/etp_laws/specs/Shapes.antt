-- Which shapes values of the program stand for.
use Rattle.etp_theory.specs.Trees.{leaf, fork}
use Rattle.etp_theory.specs.Trees as Theory
use Rattle.etp_laws.specs.declared.shapes.Sides.{Sides}
use Rattle.etp_laws.specs.declared.shapes.Shape.{Shape, fold-Shape}
use Rattle.etp_laws.specs.declared.shapes.Shape.TheOpen.{Shape-F, Leaf, Fork}

abbrev pub shape_step : Shape-F Theory.Shape → Theory.Shape
shape_step Leaf = leaf
shape_step (Fork a b) = fork a b

-- the shape that a value of the program stands for
abbrev pub shape_from : Shape → Theory.Shape
shape_from = fold-Shape Theory.Shape shape_step

-- the shapes that a pair stands for
abbrev pub sides_from : Sides → Theory.Shape × Theory.Shape
sides_from s = (shape_from s.left, shape_from s.right)
