-- The terms that a term with slots becomes, by the ways to fill its first slot.
use Rattle.std.proofs.Common.{◌≡◌, ◌≢◌, ◌<◌, ◌≤◌, ◌+◌, ◌-◌, ◌*◌, ◌⊎◌, ℕ, List, Option, Some, None, MatchOption, refl, inl, inr, arith, sym, ap, ◌∙◌, subst}
use Rattle.std.proofs.lemmas.Bool.{cases_eq}
use Rattle.etp_theory.specs.Trees.{Tree, var, op, leaves, Occurs}
use Rattle.etp_theory.specs.Substitutions.{apply}
use Rattle.etp_search.specs.Spaces.{Space}
use Rattle.etp_search.specs.Sets.{IsJoined, IsOneMore}
use Rattle.etp_search.specs.Filling.{at_one, IsOpen, IsFilled}
use Rattle.etp_search.proofs.Joining.{joined_both, joined_one}
use Rattle.etp_search.proofs.Opening.{filled, closed_within, leaves_applied, leaves_more, filled_more, occurs_put, unfilled, filled_variable, filled_operation, filled_closed, closed_filled}

-- the first slot of an operation whose left part has none
pub slot_of_right : (o : Option ℕ) (s a b : Tree) → s ≡ op a b → ((v : ℕ) → Occurs v a → v < 64)
    → MatchOption o ((v : ℕ) → Occurs v b → v < 64) (λ x. (64 ≤ x) × Occurs x b)
    → MatchOption o ((v : ℕ) → Occurs v s → v < 64) (λ x. (64 ≤ x) × Occurs x s)
slot_of_right None s a b e left right = λ v h. both v (subst (Occurs v) e h)
  where
    both : (v : ℕ) → Occurs v (op a b) → v < 64
    both v (inl h) = left v h
    both v (inr h) = right v h
slot_of_right (Some x) s a b e left right = (right.0, subst (Occurs x) (sym e) (inr right.1))

-- a term with too many leaves becomes none of the space
pub too_wide : (space : Space) (u t : Tree) → space.leaves < leaves u → IsFilled space u t → ⊥
too_wide space u t h f =
    let n = f.within.narrow in
    let k = leaves_applied f.by u in
    let e = ap leaves f.becomes in
    omega (arith, h, n, k, e)

-- without slots
pub without_slots : (space : Space) (n most : ℕ) (u s : Tree) (old new : List Tree) → s ≡ u → space.variables ≤ 64 → IsOpen space.variables n u → ((v : ℕ) → Occurs v u → v < 64) → leaves u ≤ space.leaves → IsOneMore s old new → IsJoined (IsFilled space u) most old new
without_slots space n most u s old new e few opened none narrow one =
    joined_one (IsFilled space u) most old new u (subst (λ t. IsOneMore t old new) e one) (closed_filled space u none known narrow) (λ t f. filled_closed space t u none f)
  where
    known : (v : ℕ) → Occurs v u → v < space.variables
    known v h = go (opened v h)
      where
        go : (v < space.variables) ⊎ ((64 ≤ v) × (v < n)) → v < space.variables
        go (inl k) = k
        go (inr k) = let a = k.0 in let b = none v h in omega (arith, a, b)

-- the slot filled by a variable
module _ (x v : ℕ) (u s : Tree) (is : s ≡ apply (at_one x (var v)) u) where
  pub variable_falls : (most : ℕ) → 64 ≤ x → Occurs x u → v < 64 → leaves u ≤ most → 4 * most + 2 - filled s < 4 * most + 2 - filled u
  variable_falls most big here small narrow =
      let a = filled_more x (var v) big (omega (arith, small)) u here in
      let b = closed_within u in
      let e = ap filled is in
      omega (arith, a, b, e, narrow)

  pub variable_open : (m n : ℕ) → v < m → IsOpen m n u → IsOpen m n s
  variable_open m n small opened y h = go (occurs_put x (var v) y u (subst (Occurs y) is h))
    where
      go : (v ≡ y) ⊎ Occurs y u → (y < m) ⊎ ((64 ≤ y) × (y < n))
      go (inl e) = inl (omega (arith, small, e))
      go (inr k) = opened y k

  pub variable_room : (m k : ℕ) → m ≤ k + leaves u → m ≤ k + leaves s
  variable_room m k h = let a = leaves_applied (at_one x (var v)) u in let e = ap leaves is in omega (arith, h, a, e)

  pub variables_more : (space : Space) (most : ℕ) (old mid new : List Tree)
      → IsJoined (λ t. (w : ℕ) × (w < v) × IsFilled space (apply (at_one x (var w)) u) t) most old mid
      → IsJoined (IsFilled space s) most mid new
      → IsJoined (λ t. (w : ℕ) × (w < v + 1) × IsFilled space (apply (at_one x (var w)) u) t) most old new
  variables_more space most old mid new p q =
      joined_both (λ t. (w : ℕ) × (w < v) × IsFilled space (apply (at_one x (var w)) u) t) (IsFilled space s) (λ t. (w : ℕ) × (w < v + 1) × IsFilled space (apply (at_one x (var w)) u) t) most old mid new p q to from
    where
      to : (t : Tree) → ((w : ℕ) × (w < v) × IsFilled space (apply (at_one x (var w)) u) t) ⊎ IsFilled space s t → (w : ℕ) × (w < v + 1) × IsFilled space (apply (at_one x (var w)) u) t
      to t (inl h) = (h.0, (let k = h.1 in omega (arith, k)), h.2)
      to t (inr f) = (v, omega arith, subst (λ r. IsFilled space r t) is f)

      from : (t : Tree) → (w : ℕ) × (w < v + 1) × IsFilled space (apply (at_one x (var w)) u) t → ((w : ℕ) × (w < v) × IsFilled space (apply (at_one x (var w)) u) t) ⊎ IsFilled space s t
      from t h = go (cases_eq h.0 v)
        where
          go : (h.0 ≡ v) ⊎ (h.0 ≢ v) → ((w : ℕ) × (w < v) × IsFilled space (apply (at_one x (var w)) u) t) ⊎ IsFilled space s t
          go (inl e) = inr (subst (λ r. IsFilled space r t) (ap (λ w. apply (at_one x (var w)) u) e ∙ sym is) h.2)
          go (inr e) = inl (h.0, (let k = h.1 in omega (arith, k, e)), h.2)

-- the slot filled by an operation of itself and a new one
module _ (x n : ℕ) (u s : Tree) (is : s ≡ apply (at_one x (op (var x) (var n))) u) where
  pub operation_falls : (most : ℕ) → 64 ≤ x → Occurs x u → leaves u ≤ most → 4 * most + 2 - filled s < 4 * most + 2 - filled u
  operation_falls most big here narrow =
      let a = filled_more x (op (var x) (var n)) big (omega arith) u here in
      let b = closed_within u in
      let e = ap filled is in
      omega (arith, a, b, e, narrow)

  pub operation_open : (m : ℕ) → 64 ≤ x → x < n → IsOpen m n u → IsOpen m (n + 1) s
  operation_open m big less opened y h = go (occurs_put x (op (var x) (var n)) y u (subst (Occurs y) is h))
    where
      further : (y < m) ⊎ ((64 ≤ y) × (y < n)) → (y < m) ⊎ ((64 ≤ y) × (y < n + 1))
      further (inl k) = inl k
      further (inr k) = inr (k.0, (let b = k.1 in omega (arith, b)))

      go : ((x ≡ y) ⊎ (n ≡ y)) ⊎ Occurs y u → (y < m) ⊎ ((64 ≤ y) × (y < n + 1))
      go (inl (inl e)) = inr (omega (arith, big, e), omega (arith, less, e))
      go (inl (inr e)) = inr (omega (arith, big, less, e), omega (arith, e))
      go (inr k) = further (opened y k)

  pub operation_room : (m k : ℕ) → Occurs x u → m ≤ k + leaves u → m + 1 ≤ k + leaves s
  operation_room m k here h = let a = leaves_more x (op (var x) (var n)) (omega arith) u here in let e = ap leaves is in omega (arith, h, a, e)

  pub slot_filled : (space : Space) (most : ℕ) (old mid new : List Tree) → space.variables ≤ 64 → 64 ≤ x → Occurs x u → ((y : ℕ) → Occurs y u → y < n)
      → IsJoined (λ t. (w : ℕ) × (w < space.variables) × IsFilled space (apply (at_one x (var w)) u) t) most old mid
      → IsJoined (IsFilled space s) most mid new
      → IsJoined (IsFilled space u) most old new
  slot_filled space most old mid new few big here below p q =
      joined_both (λ t. (w : ℕ) × (w < space.variables) × IsFilled space (apply (at_one x (var w)) u) t) (IsFilled space s) (IsFilled space u) most old mid new p q to (λ t f. from t f (f.by x) refl)
    where
      to : (t : Tree) → ((w : ℕ) × (w < space.variables) × IsFilled space (apply (at_one x (var w)) u) t) ⊎ IsFilled space s t → IsFilled space u t
      to t (inl h) = unfilled space x (var h.0) t u big h.2
      to t (inr f) = unfilled space x (op (var x) (var n)) t u big (subst (λ r. IsFilled space r t) is f)

      from : (t : Tree) (f : IsFilled space u t) (r : Tree) → f.by x ≡ r → ((w : ℕ) × (w < space.variables) × IsFilled space (apply (at_one x (var w)) u) t) ⊎ IsFilled space s t
      from t f (var w) e = let k = filled_variable space x w t u f few here e in inl (w, k.0, k.1)
      from t f (op a b) e = inr (subst (λ r. IsFilled space r t) (sym is) (filled_operation space x n a b t u f big (below x here) below e))

-- all variables and slots are below the next slot
pub all_below : (m n : ℕ) (u : Tree) → m ≤ n → IsOpen m n u → (y : ℕ) → Occurs y u → y < n
all_below m n u h opened y k = go (opened y k)
  where
    go : (y < m) ⊎ ((64 ≤ y) × (y < n)) → y < n
    go (inl a) = omega (arith, a, h)
    go (inr a) = a.1
