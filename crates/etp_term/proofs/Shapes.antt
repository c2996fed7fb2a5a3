use Rattle.std.proofs.Common.{◌≡◌, ℕ, sym, ◌∙◌}
use Rattle.std.specs.Ordering.{nat_cmp, ordering_then}
use Rattle.etp_theory.specs.Trees.{Tree, op, shape_of, ops}
use Rattle.etp_theory.specs.Orders.{shape_cmp}
use Rattle.etp_theory.proofs.Orders.{shape_counts}

-- the order of the shapes of two operations, from the operations of each
pub shape_cmp-ops : (a b c d : Tree) (m n : ℕ) → m ≡ ops (op a b) → n ≡ ops (op c d) → ordering_then (nat_cmp m n) (ordering_then (shape_cmp (shape_of a) (shape_of c)) (shape_cmp (shape_of b) (shape_of d))) ≡ shape_cmp (shape_of (op a b)) (shape_of (op c d))
shape_cmp-ops a b c d m n e f =
    λ i. ordering_then (nat_cmp ((e ∙ sym (shape_counts (op a b))) i) ((f ∙ sym (shape_counts (op c d))) i)) (ordering_then (shape_cmp (shape_of a) (shape_of c)) (shape_cmp (shape_of b) (shape_of d)))
