-- Partial maps with the same values match alike.
use Rattle.std.proofs.Common.{◌≡◌, ℕ, Bool, true, false, cond, eqb, List, [], ◌∷◌, ◌++◌, map, Option, Some, None, refl, sym, ap, ◌∙◌, eqb-true}
use Rattle.etp_theory.specs.Trees.{Tree, var}
use Rattle.etp_theory.specs.Substitutions.{Partial, total, value_or}
use Rattle.etp_theory.specs.Positions.{Side}
use Rattle.etp_theory.specs.Strategy.{first_some}
use Rattle.etp_theory.proofs.Matching.{apply_agree}
use Rattle.etp_term.specs.Terms.{tree_of}
use Rattle.etp_match.specs.Bindings.{value_of, entry_of, HaveSameValues}
use Rattle.etp_match.specs.Matching.{NoneMatches, IsExtendedTo, MisfitAt, operation, valued, repeated, IsFirstMisfit}
use Rattle.etp_match.specs.declared.subst.Binding.{Binding}
use Rattle.etp_match.proofs.Extending.{value_after, map_after}

module _ (p t : Tree) (e f : Partial) (same : (v : ℕ) → e.value v ≡ f.value v) where
  pub extended_same : (l m : Partial) → ((v : ℕ) → l.value v ≡ m.value v) → IsExtendedTo p t e l → IsExtendedTo p t f m
  extended_same l m k x = record {
    kept = λ v u h. sym (k v) ∙ x.kept v u (same v ∙ h);
    given = λ v o. let r = x.given v o in (r.0, sym (k v) ∙ r.1);
    others = λ v o. sym (k v) ∙ x.others v o ∙ same v;
    matched = apply_agree (total m) (total l) p (λ v o. ap (λ z. value_or z (var v)) (sym (k v))) ∙ x.matched;
  }

  pub none_same : NoneMatches p t e → NoneMatches p t f
  none_same n m x = n m (λ v u h. x v u (sym (same v) ∙ h))

misfit_same : (p t : Tree) (e f : Partial) → ((v : ℕ) → e.value v ≡ f.value v) → (q : List Side) → MisfitAt e p t q → MisfitAt f p t q
misfit_same p t e f same q (operation a b v h k) = operation a b v h k
misfit_same p t e f same q (valued v t' u h k l n) = valued v t' u h k (sym (same v) ∙ l) n
misfit_same p t e f same q (repeated r v t' u i h k y z n) = repeated r v t' u i h k y z n

pub first_same : (p t : Tree) (e f : Partial) → ((v : ℕ) → e.value v ≡ f.value v) → (q : List Side) → IsFirstMisfit e p t q → IsFirstMisfit f p t q
first_same p t e f same q x = record {
  here = misfit_same p t e f same q x.here;
  first = λ r b y. x.first r b (misfit_same p t f e (λ v. sym (same v)) r y);
}

values_after : (xs ys : List Binding) (v : ℕ) → value_of (map entry_of (xs ++ ys)) v ≡ first_some (value_of (map entry_of xs) v) (value_of (map entry_of ys) v)
values_after xs ys v = ap (λ (es : List (ℕ × Tree)). value_of es v) (map_after entry_of xs ys) ∙ value_after (map entry_of xs) (map entry_of ys) v

pub same_after : (xs ys zs : List Binding) → HaveSameValues xs ys → HaveSameValues (xs ++ zs) (ys ++ zs)
same_after xs ys zs h v = values_after xs zs v ∙ ap (λ o. first_some o (value_of (map entry_of zs) v)) (h v) ∙ sym (values_after ys zs v)

-- the first value of a variable counts
pub same_passed : (xs ys : List Binding) (b : Binding) (u : Tree) → HaveSameValues xs ys → value_of (map entry_of xs) b.variable ≡ Some u → HaveSameValues xs (ys ++ b ∷ [])
same_passed xs ys b u h k v = go (eqb b.variable v) refl ∙ sym (values_after ys (b ∷ []) v)
  where
    none_after : (o : Option Tree) → o ≡ first_some o None
    none_after None = refl
    none_after (Some x) = refl

    go : (c : Bool) → eqb b.variable v ≡ c → value_of (map entry_of xs) v ≡ first_some (value_of (map entry_of ys) v) (cond c (Some (tree_of b.value)) None)
    go true e =
        let here : value_of (map entry_of xs) v ≡ Some u = ap (value_of (map entry_of xs)) (sym (eqb-true b.variable v e)) ∙ k in
        here ∙ ap (λ o. first_some o (Some (tree_of b.value))) (sym here ∙ h v)
    go false e = h v ∙ none_after (value_of (map entry_of ys) v)

pub same_next : (xs ys zs : List Binding) (b : Binding) → HaveSameValues xs ys → HaveSameValues zs (xs ++ b ∷ []) → HaveSameValues zs (ys ++ b ∷ [])
same_next xs ys zs b h k v = k v ∙ same_after xs ys (b ∷ []) h v
