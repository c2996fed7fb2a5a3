-- The place of a law from the parts of its two sides.
use Rattle.std.proofs.Common.{◌≡◌, ℕ, ◌++◌, List, sym, ◌∙◌, ap}
use Rattle.std.specs.Ordering.{nat_cmp, ordering_then}
use Rattle.std.specs.declared.cmp.Ordering.{Ordering}
use Rattle.std.specs.declared.cmp.Ordering.TheVariants.{Less, Equal, Greater}
use Rattle.etp_theory.specs.Trees.{Tree, Equation, shape_of, shape_ops, word_of}
use Rattle.etp_theory.specs.Orders.{shape_cmp}
use Rattle.etp_laws.specs.Occurrences.{by_occurrence}
use Rattle.etp_laws.specs.Places.{shape_rank, place_from, place_by, lesser}
use Rattle.etp_laws.proofs.ShapePlaces.{shape_cmp-ranks}

-- what the program knows of a side
pub record PartsOf (t : Tree) (i x : ℕ) (w : List ℕ) : Type 0 where
  pub ops : i ≡ shape_ops (shape_of t)
  pub place : x ≡ shape_rank (shape_of t)
  pub word : w ≡ word_of t

-- the law of two terms
abbrev pub law_of : Tree → Tree → Equation
law_of a b = record { left = a; right = b }

module _ (a b : Tree) (i j x y : ℕ) (u w : List ℕ) (l : PartsOf a i x u) (r : PartsOf b j y w) where
  order_is : ordering_then (nat_cmp i j) (nat_cmp x y) ≡ shape_cmp (shape_of a) (shape_of b)
  order_is = (λ d. ordering_then (nat_cmp (l.ops d) (r.ops d)) (nat_cmp (l.place d) (r.place d))) ∙ shape_cmp-ranks (shape_of a) (shape_of b)

  pub less_place : (z : List ℕ) (n : ℕ) (o : Ordering) → o ≡ ordering_then (nat_cmp i j) (nat_cmp x y) → o ≡ Less → z ≡ by_occurrence (u ++ w) → n ≡ place_from i j x y z → n ≡ place_by (shape_cmp (shape_of a) (shape_of b)) (law_of a b)
  less_place z n o eo is ez en =
      en ∙ (λ d. place_from (l.ops d) (r.ops d) (l.place d) (r.place d) ((ez ∙ (λ k. by_occurrence (l.word k ++ r.word k))) d))
      ∙ ap (λ q. place_by q (law_of a b)) (sym is ∙ eo ∙ order_is)

  pub greater_place : (z : List ℕ) (n : ℕ) (o : Ordering) → o ≡ ordering_then (nat_cmp i j) (nat_cmp x y) → o ≡ Greater → z ≡ by_occurrence (w ++ u) → n ≡ place_from j i y x z → n ≡ place_by (shape_cmp (shape_of a) (shape_of b)) (law_of a b)
  greater_place z n o eo is ez en =
      en ∙ (λ d. place_from (r.ops d) (l.ops d) (r.place d) (l.place d) ((ez ∙ (λ k. by_occurrence (r.word k ++ l.word k))) d))
      ∙ ap (λ q. place_by q (law_of a b)) (sym is ∙ eo ∙ order_is)

  pub equal_place : (z plain turned : List ℕ) (n : ℕ) (o : Ordering) → o ≡ ordering_then (nat_cmp i j) (nat_cmp x y) → o ≡ Equal → plain ≡ by_occurrence (u ++ w) → turned ≡ by_occurrence (w ++ u) → z ≡ lesser plain turned → n ≡ place_from i j x y z → n ≡ place_by (shape_cmp (shape_of a) (shape_of b)) (law_of a b)
  equal_place z plain turned n o eo is ep et ez en =
      en ∙ (λ d. place_from (l.ops d) (r.ops d) (l.place d) (r.place d) ((ez ∙ (λ k. lesser ((ep ∙ (λ m. by_occurrence (l.word m ++ r.word m))) k) ((et ∙ (λ m. by_occurrence (r.word m ++ l.word m))) k))) d))
      ∙ ap (λ q. place_by q (law_of a b)) (sym is ∙ eo ∙ order_is)
