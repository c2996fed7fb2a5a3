-- The variables of a listed law.
use Rattle.std.proofs.Common.{◌≡◌, ℕ, ◌+◌, ◌<◌, ◌≤◌, ◌⊎◌, inl, inr, ◌++◌, List, [], ◌∷◌, length, sym, ◌∙◌, subst, suc, max, arith}
use Rattle.std.proofs.lemmas.Bool.{cases_order}
use Rattle.etp_theory.specs.Trees.{Tree, var, op, Equation, shape_of, shape_leaves, word_of, law_word, law_ops, bound}
use Rattle.etp_term.proofs.WordOrder.{length-word_of}
use Rattle.etp_laws.specs.Occurrences.{Grows}
use Rattle.etp_laws.specs.Listing.{Listed}
use Rattle.etp_laws.specs.LawLists.{HasVariables}
use Rattle.etp_theory.proofs.Orders.{shape_counts}
use Rattle.etp_laws.proofs.Occurrences.{Grows-by_occurrence_after}
use Rattle.etp_laws.proofs.Canonical.{canonical_from_listed}
use Rattle.etp_laws.proofs.Rising.{In, Contains-from_in}
use Rattle.etp_laws.proofs.Blocks.{shape_leaves-ops}
use Rattle.etp_laws.proofs.Unique.{In-from_contains}

-- one above the greatest of the word
top : List ℕ → ℕ
top [] = 0
top (v ∷ w) = max (suc v) (top w)

top-append : (u w : List ℕ) → top (u ++ w) ≡ max (top u) (top w)
unfolding top
top-append [] w = omega arith
top-append (v ∷ u) w = let e = top-append u w in omega arith

top-word_of : (t : Tree) → top (word_of t) ≡ bound t
unfolding top
top-word_of (var v) = omega arith
top-word_of (op l r) = top-append (word_of l) (word_of r) ∙ (λ i. max (top-word_of l i) (top-word_of r i))

below_top : (v : ℕ) (w : List ℕ) → In v w → v < top w
unfolding top
below_top v [] h = absurd h
below_top v (x ∷ w) (inl e) = omega arith
below_top v (x ∷ w) (inr h) = let l = below_top v w h in omega arith

in_growing : (k v : ℕ) (w : List ℕ) → Grows k w → k ≤ v → v < top w → In v w
unfolding top
in_growing k v [] g h l = absurd (omega arith)
in_growing k v (x ∷ w) (inl g) h l = let lt : x < k = g.0 in inr (in_growing k v w g.1 h (omega arith))
in_growing k v (x ∷ w) (inr g) h l = one (cases_order v k) (λ above m. in_growing (k + 1) v w g.1 above m)
  where
    one : ((v ≡ k) ⊎ ((v < k) ⊎ (k < v))) → (k + 1 ≤ v → v < top w → In v w) → In v (x ∷ w)
    one (inl e) more = inl (e ∙ sym g.0)
    one (inr (inl e)) more = absurd (omega arith)
    one (inr (inr e)) more = let at : x ≡ k = g.0 in inr (more (omega arith) (omega arith))

top_growing : (k : ℕ) (w : List ℕ) → Grows k w → top w ≤ k + length w
unfolding top
top_growing k [] g = omega arith
top_growing k (x ∷ w) (inl g) = let lt = g.0 in let l = top_growing k w g.1 in omega arith
top_growing k (x ∷ w) (inr g) = let at = g.0 in let l = top_growing (k + 1) w g.1 in omega arith

pub growing : (p : Equation) → Listed p → Grows 0 (law_word p)
growing p listed = subst (Grows 0) (canonical_from_listed p listed).occurrences (Grows-by_occurrence_after (law_word p) [])

pub HasVariables-bound : (p : Equation) → Listed p → HasVariables p (max (bound p.left) (bound p.right))
HasVariables-bound p listed v =
    let e = top-word_of (op p.left p.right) in (
      (λ h. subst (λ n. v < n) e (below_top v (law_word p) (In-from_contains (law_word p) v h))),
      (λ h. Contains-from_in v (law_word p) (in_growing 0 v (law_word p) (growing p listed) (omega arith) (subst (λ n. v < n) (sym e) h))),
    )

pub bound-few : (p : Equation) → Listed p → max (bound p.left) (bound p.right) ≤ law_ops p + 2
bound-few p listed =
    let e : top (law_word p) ≡ max (bound p.left) (bound p.right) = top-word_of (op p.left p.right) in
    let l = top_growing 0 (law_word p) (growing p listed) in
    let n : length (law_word p) ≡ shape_leaves (shape_of p.left) + shape_leaves (shape_of p.right) = length-word_of (op p.left p.right) in
    let a = shape_leaves-ops (shape_of p.left) in
    let b = shape_leaves-ops (shape_of p.right) in
    let c = shape_counts p.left in
    let d = shape_counts p.right in
    omega arith
