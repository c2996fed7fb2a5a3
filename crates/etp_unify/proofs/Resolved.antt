-- Terms with all values put in, at each kind of term.
use Rattle.std.proofs.Common.{◌≡◌, ℕ, ◌⊎◌, inl, inr, ◌<◌, ◌≤◌, Bool, true, false, List, Some, None, sym, ap, ◌∙◌, subst, arith, get_or, min, length}
use Rattle.std.proofs.Math.ListN.{set, replicate}
use Rattle.std.proofs.lemmas.List.{get_or-set_same, get_or-set_other, get_or-replicate, get_or_past, length-replicate}
use Rattle.std.proofs.lemmas.Bool.{cases_eq}
use Rattle.etp_theory.specs.Trees.{Tree, var, op, leaves, Occurs}
use Rattle.etp_theory.specs.Substitutions.{apply}
use Rattle.etp_match.specs.Bindings.{partial_of}
use Rattle.etp_match.specs.declared.subst.Binding.{Binding}
use Rattle.etp_unify.specs.Triangular.{IsTriangular, solution}
use Rattle.etp_unify.specs.Values.{AreWithout, counted, AreCounted}
use Rattle.etp_unify.proofs.Triangular.{weight, weight_op, weight_value, solution_resolved}

pub lighter_left : (bindings : List Binding) (s a b : Tree) → s ≡ op a b → weight bindings a < weight bindings s
lighter_left bindings s a b h = subst (λ t. weight bindings a < weight bindings t) (sym h) (omega (arith, weight_op bindings a b))

pub lighter_right : (bindings : List Binding) (s a b : Tree) → s ≡ op a b → weight bindings b < weight bindings s
lighter_right bindings s a b h = subst (λ t. weight bindings b < weight bindings t) (sym h) (omega (arith, weight_op bindings a b))

pub lighter_value : (bindings : List Binding) → IsTriangular bindings → (s t : Tree) (v : ℕ) → s ≡ var v → (partial_of bindings).value v ≡ Some t → weight bindings t < weight bindings s
lighter_value bindings h s t v k e = subst (λ u. weight bindings t < weight bindings u) (sym k) (weight_value bindings h v t e)

-- a variable with a value, and one without
pub of_value : (bindings : List Binding) → IsTriangular bindings → (s t : Tree) (v : ℕ) → s ≡ var v → (partial_of bindings).value v ≡ Some t → apply (solution bindings) s ≡ apply (solution bindings) t
of_value bindings h s t v k e = ap (apply (solution bindings)) k ∙ (solution_resolved bindings h).bound v t e

pub of_free : (bindings : List Binding) → IsTriangular bindings → (s : Tree) (v : ℕ) → s ≡ var v → (partial_of bindings).value v ≡ None → apply (solution bindings) s ≡ var v
of_free bindings h s v k e = ap (apply (solution bindings)) k ∙ (solution_resolved bindings h).free v e

-- where a variable stands once all values are put in

pub along : (x : ℕ) (s t : Tree) → s ≡ t → Occurs x t → Occurs x s
along x s t h o = subst (Occurs x) (sym h) o

pub against : (x : ℕ) (s t : Tree) → s ≡ t → (Occurs x t → ⊥) → Occurs x s → ⊥
against x s t h k o = k (subst (Occurs x) h o)

-- one more mark, and none

pub marked_more : (bindings : List Binding) (x : ℕ) (marks : List Bool) (w : ℕ) → AreWithout bindings x marks → (Occurs x (solution bindings w) → ⊥) → AreWithout bindings x (set marks w true)
marked_more bindings x marks w h k v m = go (cases_eq v w)
  where
    go : (v ≡ w) ⊎ (v ≡ w → ⊥) → Occurs x (solution bindings v) → ⊥
    go (inl e) = subst (λ u. Occurs x (solution bindings u) → ⊥) (sym e) k
    go (inr e) = h v (sym (get_or-set_other marks w v true false e) ∙ m)

same_everywhere : {A : Type 0} (n v : ℕ) (x : A) → get_or (replicate n x) v x ≡ x
same_everywhere n v x = go (within v n)
  where
    within : (v n : ℕ) → (v < n) ⊎ (n ≤ v)
    within v n = grind arith

    go : (v < n) ⊎ (n ≤ v) → get_or (replicate n x) v x ≡ x
    go (inl h) = get_or-replicate n v x x h
    go (inr h) = get_or_past (replicate n x) v x (omega (arith, length-replicate n x, h))

pub marked_none : (bindings : List Binding) (x : ℕ) → AreWithout bindings x (replicate 256 false)
marked_none bindings x v h = absurd (let e : false ≡ true = sym (same_everywhere 256 v false) ∙ h in cc)

-- how many leaves there are once all values are put in

leaves_one : (v : ℕ) → min (leaves (var v)) 4294967296 ≡ 1
leaves_one v = omega arith

pub counted_free : (bindings : List Binding) → IsTriangular bindings → (s : Tree) (v : ℕ) → s ≡ var v → (partial_of bindings).value v ≡ None → 1 ≡ counted bindings s
counted_free bindings h s v k e = sym (ap (λ t. min (leaves t) 4294967296) (of_free bindings h s v k e) ∙ leaves_one v)

pub counted_value : (bindings : List Binding) → IsTriangular bindings → (s t : Tree) (v : ℕ) → s ≡ var v → (partial_of bindings).value v ≡ Some t → counted bindings t ≡ counted bindings s
counted_value bindings h s t v k e = ap (λ u. min (leaves u) 4294967296) (sym (of_value bindings h s t v k e))

pub counted_more : (bindings : List Binding) (known : List ℕ) (w n : ℕ) → AreCounted bindings known → n ≡ counted bindings (var w) → w < length known → AreCounted bindings (set known w n)
counted_more bindings known w n h k l v m = go (cases_eq v w)
  where
    go : (v ≡ w) ⊎ (v ≡ w → ⊥) → get_or (set known w n) v 0 ≡ counted bindings (var v)
    go (inl e) =
        subst (λ u. get_or (set known w n) u 0 ≡ counted bindings (var u)) (sym e) (get_or-set_same known w n 0 l ∙ k)
    go (inr e) =
        let same : get_or (set known w n) v 0 ≡ get_or known v 0 = get_or-set_other known w v n 0 e in
        same ∙ h v (λ q. m (same ∙ q))

pub counted_none : (bindings : List Binding) → AreCounted bindings (replicate 256 0)
counted_none bindings v h = absurd (h (same_everywhere 256 v 0))
