-- The solution of a table whose values are respected exactly by the unifiers of two terms.
use Rattle.std.proofs.Common.{◌≡◌, ℕ, ◌⊎◌, inl, inr, ◌↔◌, List, [], ◌∷◌, Option, Some, None, refl, sym, ap, ◌∙◌, subst}
use Rattle.std.specs.Option.{option_map}
use Rattle.etp_theory.specs.Trees.{Tree, var, op, Occurs}
use Rattle.etp_theory.specs.Substitutions.{apply, total, value_or}
use Rattle.etp_theory.specs.Unifiers.{IsBest, NoUnifier}
use Rattle.etp_theory.proofs.Theorems.{unification_theorems}
use Rattle.etp_theory.proofs.Unifiers.{occurs_dec}
use Rattle.etp_theory.proofs.Matching.{apply_agree}
use Rattle.etp_term.specs.Terms.{tree_of}
use Rattle.etp_match.specs.Bindings.{partial_of}
use Rattle.etp_match.specs.declared.subst.Binding.{Binding}
use Rattle.etp_unify.specs.Triangular.{IsTriangular, HasSolution, solution}
use Rattle.etp_unify.specs.Solving.{Respects, Equates, AreSolved, HaveNoSolution}
use Rattle.etp_unify.specs.declared.solving.Pair.{Pair}
use Rattle.etp_unify.specs.Unifying.{IsMost}
use Rattle.etp_unify.proofs.Singles.{in_instance}
use Rattle.etp_unify.proofs.Triangular.{solution_resolved, solution_absorbed}

module _ (s t : Tree) (bindings : List Binding) (h : IsTriangular bindings) (same : (n : ℕ → Tree) → apply n s ≡ apply n t ↔ Respects n (partial_of bindings)) where
  abbrev m : ℕ → Tree
  m = solution bindings

  unifies : apply m s ≡ apply m t
  unifies = (same m).1 (solution_resolved bindings h).bound

  absorbed : (n : ℕ → Tree) → apply n s ≡ apply n t → (v : ℕ) → apply n (m v) ≡ n v
  absorbed n e = solution_absorbed bindings h n ((same n).0 e)

  within : (v : ℕ) → (Occurs v s ⊎ Occurs v t) ⊎ ((Occurs v s → ⊥) × (Occurs v t → ⊥))
  within v = go (occurs_dec v s) (occurs_dec v t)
    where
      go : Occurs v s ⊎ (Occurs v s → ⊥) → Occurs v t ⊎ (Occurs v t → ⊥) → (Occurs v s ⊎ Occurs v t) ⊎ ((Occurs v s → ⊥) × (Occurs v t → ⊥))
      go (inl o) k = inl (inl o)
      go (inr o) (inl k) = inl (inr k)
      go (inr o) (inr k) = inr (o, k)

  -- a unifier that leaves all other variables alone
  tame : (k : ℕ → Tree) × IsBest k s t
  tame = unification_theorems.has_best s t m unifies

  -- a variable with a value is not its own value, so it stands in one of the terms
  moved : (v : ℕ) (u : Tree) → (partial_of bindings).value v ≡ Some u → Occurs v s ⊎ Occurs v t
  moved v u e = go (within v)
    where
      gone : (w : ℕ) → Occurs v (m w) → ⊥
      gone = (solution_resolved bindings h).gone v u e

      its : (Occurs v s → ⊥) → (Occurs v t → ⊥) → apply tame.0 (m v) ≡ var v
      its o k = absorbed tame.0 tame.1.unifies v ∙ tame.1.values v o k

      other : (o : Occurs v s → ⊥) (k : Occurs v t → ⊥) (w : Tree) → m v ≡ w → apply tame.0 w ≡ var v → ⊥
      other o k (op a b) q e = let f : op (apply tame.0 a) (apply tame.0 b) ≡ var v = e in cc
      other o k (var w) q e = elsewhere (tame.1.variables w v (subst (Occurs v) (sym e) refl))
        where
          elsewhere : (v ≡ w) ⊎ (Occurs v s ⊎ Occurs v t) → ⊥
          elsewhere (inl i) = gone v (subst (Occurs v) (sym q) (sym i))
          elsewhere (inr (inl i)) = o i
          elsewhere (inr (inr i)) = k i

      go : (Occurs v s ⊎ Occurs v t) ⊎ ((Occurs v s → ⊥) × (Occurs v t → ⊥)) → Occurs v s ⊎ Occurs v t
      go (inl o) = o
      go (inr k) = absurd (other k.0 k.1 (m v) refl (its k.0 k.1))

  -- and so does each variable of its value
  inside : (v y : ℕ) (u : Tree) → (partial_of bindings).value v ≡ Some u → Occurs y (m v) → Occurs y s ⊎ Occurs y t
  inside v y u e o = go (within y)
    where
      kept : (Occurs y s → ⊥) → (Occurs y t → ⊥) → Occurs y (tame.0 v)
      kept i k =
          subst (Occurs y) (absorbed tame.0 tame.1.unifies v)
          (in_instance tame.0 y y (m v) o (subst (Occurs y) (sym (tame.1.values y i k)) refl))

      either : (y ≡ v) ⊎ (Occurs y s ⊎ Occurs y t) → Occurs y s ⊎ Occurs y t
      either (inl q) = absurd ((solution_resolved bindings h).gone v u e v (subst (λ z. Occurs z (m v)) q o))
      either (inr i) = i

      go : (Occurs y s ⊎ Occurs y t) ⊎ ((Occurs y s → ⊥) × (Occurs y t → ⊥)) → Occurs y s ⊎ Occurs y t
      go (inl i) = i
      go (inr k) = either (tame.1.variables v y (kept k.0 k.1))

  module _ (most : List Binding) (solved : HasSolution bindings most) where
    total_is : (v : ℕ) → total (partial_of most) v ≡ m v
    total_is v = ap (λ o. value_or o (var v)) (solved v) ∙ go ((partial_of bindings).value v) refl
      where
        go : (o : Option Tree) → (partial_of bindings).value v ≡ o → value_or (option_map (apply m) o) (var v) ≡ m v
        go None e = sym ((solution_resolved bindings h).free v e)
        go (Some u) e = sym ((solution_resolved bindings h).bound v u e)

    applied : (u : Tree) → apply (total (partial_of most)) u ≡ apply m u
    applied u = apply_agree (total (partial_of most)) m u (λ v o. total_is v)

    -- a value of the map is one of the table with all values put in
    source : (v : ℕ) (u : Tree) → (partial_of most).value v ≡ Some u → (r : Tree) × ((partial_of bindings).value v ≡ Some r) × (m v ≡ u)
    source v u e = go ((partial_of bindings).value v) refl (sym (solved v) ∙ e)
      where
        go : (o : Option Tree) → (partial_of bindings).value v ≡ o → option_map (apply m) o ≡ Some u → (r : Tree) × ((partial_of bindings).value v ≡ Some r) × (m v ≡ u)
        go None k q = absurd (cc)
        go (Some r) k q = (r, k, (solution_resolved bindings h).bound v r k ∙ (let f : apply m r ≡ u = cc in f))

    no_value_in : (v y : ℕ) → Occurs y (m v) → (partial_of most).value y ≡ None
    no_value_in v y o = solved y ∙ go ((partial_of bindings).value y) refl
      where
        go : (o : Option Tree) → (partial_of bindings).value y ≡ o → option_map (apply m) ((partial_of bindings).value y) ≡ None
        go None e = ap (option_map (apply m)) e
        go (Some u) e = absurd ((solution_resolved bindings h).gone y u e v o)

    pub is_most : IsMost (partial_of most) s t
    is_most = record {
      general = (unification_theorems.finite (partial_of most) s t).1 (record {
        unifies = applied s ∙ unifies ∙ sym (applied t);
        factors = λ n e. (n, λ v. ap (apply n) (total_is v) ∙ absorbed n e v);
      });
      twice = λ v. applied (total (partial_of most) v) ∙ ap (apply m) (total_is v) ∙ absorbed m unifies v ∙ sym (total_is v);
      values = λ v u e. let r = source v u e in moved v r.0 r.1;
      variables = λ v y u e o.
          let r = source v u e in
          let here : Occurs y (m v) = subst (Occurs y) (sym r.2) o in
          (no_value_in v y here, inside v y r.0 r.1 here);
    }

-- where there were no values before, and one pair

none_respected : (n : ℕ → Tree) → Respects n (partial_of [])
none_respected n v t e = absurd (cc)

pub one_pair : (p : Pair) (pairs : List Pair) (earlier later : List Binding) → pairs ≡ p ∷ [] → earlier ≡ [] → AreSolved pairs earlier later → (n : ℕ → Tree) → apply n (tree_of p.left.now) ≡ apply n (tree_of p.right.now) ↔ Respects n (partial_of later)
one_pair p pairs earlier later h k a n = (
  λ e. (a.same n).0 (
    subst (λ (bs : List Binding). Respects n (partial_of bs)) (sym k) (none_respected n),
    subst (Equates n) (sym h) (e, tt),
  ),
  λ r. (subst (Equates n) h ((a.same n).1 r).1).0,
)

pub one_pair_never : (p : Pair) (pairs : List Pair) (earlier : List Binding) → pairs ≡ p ∷ [] → earlier ≡ [] → HaveNoSolution pairs earlier → NoUnifier (tree_of p.left.now) (tree_of p.right.now)
one_pair_never p pairs earlier h k a n e =
    a n (subst (λ (bs : List Binding). Respects n (partial_of bs)) (sym k) (none_respected n)) (subst (Equates n) (sym h) (e, tt))
