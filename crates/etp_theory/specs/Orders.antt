-- The orders of shapes and of laws (the Equational Theories Project's).
use Rattle.std.specs.Ordering.{nat_cmp, ordering_then}
use Rattle.std.specs.Cmp.Lexicographic.{slice_cmp}
use Rattle.std.specs.declared.cmp.Ordering.{Ordering}
use Rattle.std.specs.declared.cmp.Ordering.TheVariants.{Less, Equal, Greater}
use Rattle.etp_theory.specs.Trees.{Shape, leaf, fork, Equation, shape_of, law_word, shape_ops, law_ops}

-- by the number of operations, then the left part, then the right part
abbrev pub shape_cmp : Shape → Shape → Ordering
shape_cmp leaf leaf = Equal
shape_cmp leaf (fork c d) = Less
shape_cmp (fork a b) leaf = Greater
shape_cmp (fork a b) (fork c d) =
    ordering_then (nat_cmp (shape_ops (fork a b)) (shape_ops (fork c d)))
    (ordering_then (shape_cmp a c) (shape_cmp b d))

-- by the operations of both sides, then the left shape, then the right shape, then the word
abbrev pub law_cmp : Equation → Equation → Ordering
law_cmp p q =
    ordering_then (nat_cmp (law_ops p) (law_ops q))
    (ordering_then (shape_cmp (shape_of p.left) (shape_of q.left))
    (ordering_then (shape_cmp (shape_of p.right) (shape_of q.right))
    (slice_cmp nat_cmp (law_word p) (law_word q))))
