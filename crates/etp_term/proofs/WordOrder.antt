-- The order of the words of laws whose sides have equal shapes.
use Rattle.std.proofs.Common.{◌≡◌, ℕ, ◌+◌, ◌++◌, List, [], ◌∷◌, length, length-append, refl, sym, ◌∙◌, ap, arith}
use Rattle.std.specs.Cmp.Lexicographic.{slice_cmp}
use Rattle.std.specs.Ordering.{nat_cmp, ordering_then}
use Rattle.std.specs.declared.cmp.Ordering.{Ordering}
use Rattle.std.specs.declared.cmp.Ordering.TheVariants.{Less, Equal, Greater}
use Rattle.etp_theory.specs.Trees.{Tree, var, op, fork, Equation, shape_of, shape_leaves, word_of, law_word, law_ops}
use Rattle.etp_theory.specs.Orders.{shape_cmp, law_cmp}
use Rattle.etp_theory.proofs.Comparing.{then_assoc}
use Rattle.etp_theory.proofs.Orders.{shape_equal}

pub length-word_of : (t : Tree) → length (word_of t) ≡ shape_leaves (shape_of t)
length-word_of (var v) = refl
length-word_of (op l r) = length-append (word_of l) (word_of r) ∙ (λ i. length-word_of l i + length-word_of r i)

pub slice_cmp-append : (a c b d : List ℕ) → length a ≡ length c → slice_cmp nat_cmp (a ++ b) (c ++ d) ≡ ordering_then (slice_cmp nat_cmp a c) (slice_cmp nat_cmp b d)
slice_cmp-append [] [] b d e = refl
slice_cmp-append [] (y ∷ c) b d e = absurd (omega arith)
slice_cmp-append (x ∷ a) [] b d e = absurd (omega arith)
slice_cmp-append (x ∷ a) (y ∷ c) b d e =
    ap (ordering_then (nat_cmp x y)) (slice_cmp-append a c b d (omega arith)) ∙ sym (then_assoc (nat_cmp x y) (slice_cmp nat_cmp a c) (slice_cmp nat_cmp b d))

-- the words of two terms of one shape, and of what stands after them
pub slice_cmp-words : (a c b d : Tree) → shape_of a ≡ shape_of c → slice_cmp nat_cmp (word_of a ++ word_of b) (word_of c ++ word_of d) ≡ ordering_then (slice_cmp nat_cmp (word_of a) (word_of c)) (slice_cmp nat_cmp (word_of b) (word_of d))
slice_cmp-words a c b d e = slice_cmp-append (word_of a) (word_of c) (word_of b) (word_of d) (length-word_of a ∙ ap shape_leaves e ∙ sym (length-word_of c))

-- the order of laws from the orders of their parts; the words count where the shapes are equal
pub law_cmp-parts : (p q : Equation) (left right : Ordering)
    → (shape_of p.left ≡ shape_of q.left → left ≡ slice_cmp nat_cmp (word_of p.left) (word_of q.left))
    → (shape_of p.right ≡ shape_of q.right → right ≡ slice_cmp nat_cmp (word_of p.right) (word_of q.right))
    → ordering_then (nat_cmp (law_ops p) (law_ops q)) (ordering_then (shape_cmp (shape_of p.left) (shape_of q.left)) (ordering_then (shape_cmp (shape_of p.right) (shape_of q.right)) (ordering_then left right))) ≡ law_cmp p q
law_cmp-parts p q left right l r = ap (ordering_then (nat_cmp (law_ops p) (law_ops q))) (on_left (shape_cmp (shape_of p.left) (shape_of q.left)) refl)
  where
    on_right : (o : Ordering) → shape_cmp (shape_of p.right) (shape_of q.right) ≡ o → shape_of p.left ≡ shape_of q.left → ordering_then o (ordering_then left right) ≡ ordering_then o (slice_cmp nat_cmp (law_word p) (law_word q))
    on_right Less e s = refl
    on_right Greater e s = refl
    on_right Equal e s =
        (λ i. ordering_then (l s i) (r (shape_equal (shape_of p.right) (shape_of q.right) e) i)) ∙ sym (slice_cmp-words p.left q.left p.right q.right s)

    on_left : (o : Ordering) → shape_cmp (shape_of p.left) (shape_of q.left) ≡ o → ordering_then o (ordering_then (shape_cmp (shape_of p.right) (shape_of q.right)) (ordering_then left right)) ≡ ordering_then o (ordering_then (shape_cmp (shape_of p.right) (shape_of q.right)) (slice_cmp nat_cmp (law_word p) (law_word q)))
    on_left Less e = refl
    on_left Greater e = refl
    on_left Equal e = on_right (shape_cmp (shape_of p.right) (shape_of q.right)) refl (shape_equal (shape_of p.left) (shape_of q.left) e)

-- the order of the words of two operations, from those of their parts
pub slice_cmp-op : (s t a b c d : Tree) (left right order : Ordering) → s ≡ op a b → t ≡ op c d
    → (shape_of a ≡ shape_of c → left ≡ slice_cmp nat_cmp (word_of a) (word_of c))
    → (shape_of b ≡ shape_of d → right ≡ slice_cmp nat_cmp (word_of b) (word_of d))
    → order ≡ ordering_then left right → shape_of s ≡ shape_of t → order ≡ slice_cmp nat_cmp (word_of s) (word_of t)
slice_cmp-op s t a b c d left right order mine theirs l r e same =
    let forks : fork (shape_of a) (shape_of b) ≡ fork (shape_of c) (shape_of d) = sym (ap shape_of mine) ∙ same ∙ ap shape_of theirs in
    let lefts : shape_of a ≡ shape_of c = cc in
    let rights : shape_of b ≡ shape_of d = cc in
    e ∙ (λ i. ordering_then (l lefts i) (r rights i)) ∙ sym (slice_cmp-words a c b d lefts)
    ∙ (λ i. slice_cmp nat_cmp (word_of (sym mine i)) (word_of (sym theirs i)))
