-- The orders of shapes and of laws are total, and only equal ones compare as equal.
use Rattle.std.specs.Ordering.{nat_cmp, ordering_then, ordering_reverse}
use Rattle.std.specs.Cmp.{IsTotalOrder}
use Rattle.std.specs.Cmp.Lexicographic.{slice_cmp, on_texts}
use Rattle.std.specs.declared.cmp.Ordering.{Ordering}
use Rattle.std.specs.declared.cmp.Ordering.TheVariants.{Equal}
use Rattle.std.proofs.lemmas.Map.Lookups.{exact_bytes}
use Rattle.std.proofs.lemmas.List.{append-nil, append_assoc}
use Rattle.std.proofs.Common.{◌≡◌, ℕ, ◌+◌, List, [], ◌∷◌, ◌++◌, length, refl, sym, ap, ap₂, ◌∙◌, arith, length-append}
use Rattle.etp_theory.specs.Trees.{Tree, var, op, Shape, leaf, fork, Equation, ops, leaves, shape_of, shape_ops, word_of, law_ops, law_word}
use Rattle.etp_theory.specs.Orders.{shape_cmp, law_cmp}
use Rattle.etp_theory.proofs.Comparing.{nat_cmp-less, nat_cmp-greater, then_assoc, then_equal, then_both}
use Rattle.etp_theory.proofs.Trees.{pair_eq}

pub leaves_ops : (t : Tree) → leaves t ≡ ops t + 1
leaves_ops (var v) = refl
leaves_ops (op l r) = omega (arith, leaves_ops l, leaves_ops r)

pub shape_counts : (t : Tree) → shape_ops (shape_of t) ≡ ops t
shape_counts (var v) = refl
shape_counts (op l r) = ap₂ (λ x y. x + y + 1) (shape_counts l) (shape_counts r)

pub word_length : (t : Tree) → length (word_of t) ≡ leaves t
word_length (var v) = refl
word_length (op l r) = length-append (word_of l) (word_of r) ∙ ap₂ (λ x y. x + y) (word_length l) (word_length r)

-- a term is read back from its shape and its word
read_back : (s t : Tree) (xs ys : List ℕ) → shape_of s ≡ shape_of t → word_of s ++ xs ≡ word_of t ++ ys → (s ≡ t) × (xs ≡ ys)
read_back (var x) (var y) xs ys h k = let a : x ≡ y = cc in let b : xs ≡ ys = cc in (ap var a, b)
read_back (var x) (op c d) xs ys h k = absurd (cc)
read_back (op a b) (var y) xs ys h k = absurd (cc)
read_back (op a b) (op c d) xs ys h k =
    let hl : shape_of a ≡ shape_of c = cc in
    let hr : shape_of b ≡ shape_of d = cc in
    let i = read_back a c (word_of b ++ xs) (word_of d ++ ys) hl (sym (append_assoc (word_of a) (word_of b) xs) ∙ k ∙ append_assoc (word_of c) (word_of d) ys) in
    let j = read_back b d xs ys hr i.1 in
    (ap₂ op i.0 j.0, j.1)

pub shape_and_word : (s t : Tree) → shape_of s ≡ shape_of t → word_of s ≡ word_of t → s ≡ t
shape_and_word s t h k = (read_back s t [] [] h (append-nil (word_of s) ∙ k ∙ sym (append-nil (word_of t)))).0

-- a shape as a list of numbers whose order is the shape's
abbrev pub code : Shape → List ℕ
code leaf = 0 ∷ []
code (fork a b) = shape_ops (fork a b) ∷ (code a ++ code b)

code_cmp : (s t : Shape) (xs ys : List ℕ) → slice_cmp nat_cmp (code s ++ xs) (code t ++ ys) ≡ ordering_then (shape_cmp s t) (slice_cmp nat_cmp xs ys)
code_cmp leaf leaf xs ys = refl
code_cmp leaf (fork c d) xs ys = ap (λ o. ordering_then o (slice_cmp nat_cmp xs ((code c ++ code d) ++ ys))) (nat_cmp-less 0 (shape_ops (fork c d)) (omega arith))
code_cmp (fork a b) leaf xs ys = ap (λ o. ordering_then o (slice_cmp nat_cmp ((code a ++ code b) ++ xs) ys)) (nat_cmp-greater (shape_ops (fork a b)) 0 (omega arith))
code_cmp (fork a b) (fork c d) xs ys =
    let n = nat_cmp (shape_ops (fork a b)) (shape_ops (fork c d)) in
    let rest = slice_cmp nat_cmp xs ys in
    ap₂ (λ u v. ordering_then (nat_cmp (shape_ops (fork a b)) (shape_ops (fork c d))) (slice_cmp nat_cmp u v)) (append_assoc (code a) (code b) xs) (append_assoc (code c) (code d) ys)
    ∙ ap (ordering_then n) (code_cmp a c (code b ++ xs) (code d ++ ys) ∙ ap (ordering_then (shape_cmp a c)) (code_cmp b d xs ys))
    ∙ ap (ordering_then n) (sym (then_assoc (shape_cmp a c) (shape_cmp b d) rest))
    ∙ sym (then_assoc n (ordering_then (shape_cmp a c) (shape_cmp b d)) rest)

shape_code : (s t : Shape) → shape_cmp s t ≡ slice_cmp nat_cmp (code s) (code t)
shape_code s t =
    sym (then_equal (shape_cmp s t)) ∙ sym (code_cmp s t [] [])
    ∙ ap₂ (slice_cmp nat_cmp) (append-nil (code s)) (append-nil (code t))

abbrev pub law_code : Equation → List ℕ
law_code p = law_ops p ∷ (code (shape_of p.left) ++ (code (shape_of p.right) ++ law_word p))

law_coded : (p q : Equation) → law_cmp p q ≡ slice_cmp nat_cmp (law_code p) (law_code q)
law_coded p q =
    ap (ordering_then (nat_cmp (law_ops p) (law_ops q)))
    (ap (ordering_then (shape_cmp (shape_of p.left) (shape_of q.left))) (sym (code_cmp (shape_of p.right) (shape_of q.right) (law_word p) (law_word q)))
    ∙ sym (code_cmp (shape_of p.left) (shape_of q.left) (code (shape_of p.right) ++ law_word p) (code (shape_of q.right) ++ law_word q)))

module _ {K : Type 0} (R S : K → K → Ordering) (same : (x y : K) → R x y ≡ S x y) where
  moved : IsTotalOrder S → IsTotalOrder R
  moved t = record {
    antisymm = λ x y. same x y ∙ t.antisymm x y ∙ ap ordering_reverse (sym (same y x));
    trans = λ x y z h k. same x z ∙ t.trans x y z (sym (same x y) ∙ h) (sym (same y z) ∙ k);
    congr = λ x y z h. same x z ∙ t.congr x y z (sym (same x y) ∙ h) ∙ sym (same y z);
  }

pub shape_order : IsTotalOrder shape_cmp
shape_order = moved shape_cmp (λ s t. slice_cmp nat_cmp (code s) (code t)) shape_code (on_texts code)

pub law_order : IsTotalOrder law_cmp
law_order = moved law_cmp (λ p q. slice_cmp nat_cmp (law_code p) (law_code q)) law_coded (on_texts law_code)

pub shape_equal : (s t : Shape) → shape_cmp s t ≡ Equal → s ≡ t
shape_equal leaf leaf h = refl
shape_equal leaf (fork c d) h = absurd (cc)
shape_equal (fork a b) leaf h = absurd (cc)
shape_equal (fork a b) (fork c d) h =
    let k = then_both (nat_cmp (shape_ops (fork a b)) (shape_ops (fork c d))) (ordering_then (shape_cmp a c) (shape_cmp b d)) h in
    let l = then_both (shape_cmp a c) (shape_cmp b d) k.1 in
    ap₂ fork (shape_equal a c l.0) (shape_equal b d l.1)

pub law_equal : (p q : Equation) → law_cmp p q ≡ Equal → p ≡ q
law_equal p q h =
    let k = then_both (nat_cmp (law_ops p) (law_ops q)) _ h in
    let l = then_both (shape_cmp (shape_of p.left) (shape_of q.left)) _ k.1 in
    let r = then_both (shape_cmp (shape_of p.right) (shape_of q.right)) (slice_cmp nat_cmp (law_word p) (law_word q)) l.1 in
    let left = read_back p.left q.left (word_of p.right) (word_of q.right) (shape_equal _ _ l.0) (exact_bytes (law_word p) (law_word q) r.1) in
    pair_eq left.0 (shape_and_word p.right q.right (shape_equal _ _ r.0) left.1)
