-- Matching by partial maps: one part after the other, and what every other substitution then has.
use Rattle.std.proofs.Common.{◌≡◌, ℕ, ◌⊎◌, inl, inr, Bool, true, false, cond, eqb, List, [], ◌∷◌, ◌++◌, map, Option, Some, None, refl, sym, ap, ap₂, ◌∙◌, subst, eq-eqb}
use Rattle.std.proofs.lemmas.Bool.{ne_eqb}
use Rattle.etp_theory.specs.Trees.{Tree, var, op, Occurs}
use Rattle.etp_theory.specs.Substitutions.{apply, Partial, total, value_or}
use Rattle.etp_theory.specs.Strategy.{first_some}
use Rattle.etp_theory.proofs.Matching.{apply_agree, agree_of_apply}
use Rattle.etp_theory.proofs.Unifiers.{occurs_dec}
use Rattle.etp_term.specs.Terms.{tree_of}
use Rattle.etp_term.specs.declared.term.Term.{Term}
use Rattle.etp_match.specs.Bindings.{value_of, entry_of, map_of, partial_of}
use Rattle.etp_match.specs.Matching.{Extends, NoneMatches, IsExtendedTo}
use Rattle.etp_match.specs.declared.subst.Binding.{Binding}

-- a substitution with the earlier values that does the same has the later values too
pub extends_on : (p t : Tree) (e l : Partial) → IsExtendedTo p t e l → (m : ℕ → Tree) → Extends e m → apply m p ≡ t → Extends l m
extends_on p t e l x m h k v u q = go (occurs_dec v p)
  where
    go : Occurs v p ⊎ (Occurs v p → ⊥) → m v ≡ u
    go (inl o) = agree_of_apply m (total l) p (k ∙ sym x.matched) v o ∙ ap (λ z. value_or z (var v)) q
    go (inr o) = h v u (sym (x.others v o) ∙ q)

-- the later map itself is a substitution with the earlier values
pub later_extends : (p t : Tree) (e l : Partial) → IsExtendedTo p t e l → Extends e (total l)
later_extends p t e l x v u h = ap (λ z. value_or z (var v)) (x.kept v u h)

-- each substitution with the later values does what the later map does
pub still_matches : (p t : Tree) (e l : Partial) → IsExtendedTo p t e l → (m : ℕ → Tree) → Extends l m → apply m p ≡ t
still_matches p t e l x m h =
    apply_agree m (total l) p (λ v o. let g = x.given v o in h v g.0 g.1 ∙ sym (ap (λ z. value_or z (var v)) g.1)) ∙ x.matched

-- so both later maps agree on the first pattern
pub still_matched : (p t q u : Tree) (e m l : Partial) → IsExtendedTo p t e m → IsExtendedTo q u m l → apply (total l) p ≡ t
still_matched p t q u e m l x y = still_matches p t e m x (total l) (later_extends q u m l y)

pub extends_both : (s t a b c d : Tree) (e m l : Partial) → s ≡ op a b → t ≡ op c d → IsExtendedTo a c e m → IsExtendedTo b d m l → IsExtendedTo s t e l
extends_both s t a b c d e m l h k x y =
    subst (λ z. IsExtendedTo z t e l) (sym h) (subst (λ z. IsExtendedTo (op a b) z e l) (sym k) (record {
      kept = λ v t h. y.kept v t (x.kept v t h);
      given = λ v o. elim o [ inl p ↦ let g = x.given v p in (g.0, y.kept v g.0 g.1) | inr p ↦ y.given v p ];
      others = λ v o. y.others v (λ p. o (inr p)) ∙ x.others v (λ p. o (inl p));
      matched = ap₂ op (still_matched a c b d e m l x y) y.matched;
    }))

-- no substitution does it for an operation where none does it for a part
pub none_left : (s t a b c d : Tree) (e : Partial) → s ≡ op a b → t ≡ op c d → NoneMatches a c e → NoneMatches s t e
none_left s t a b c d e h k x m y z =
    let f : op (apply m a) (apply m b) ≡ op c d = ap (apply m) (sym h) ∙ z ∙ k in
    x m y (cc)

pub none_right : (s t a b c d : Tree) (e l : Partial) → s ≡ op a b → t ≡ op c d → IsExtendedTo a c e l → NoneMatches b d l → NoneMatches s t e
none_right s t a b c d e l h k w x m y z =
    let f : op (apply m a) (apply m b) ≡ op c d = ap (apply m) (sym h) ∙ z ∙ k in
    let fa : apply m a ≡ c = cc in
    x m (extends_on a c e l w m y fa) (cc)

pub none_variable : (s t a b : Tree) (v : ℕ) (e : Partial) → s ≡ op a b → t ≡ var v → NoneMatches s t e
none_variable s t a b v e h k m y z =
    let f : op (apply m a) (apply m b) ≡ var v = ap (apply m) (sym h) ∙ z ∙ k in cc

pub value_kept : (s t u : Tree) (v : ℕ) (e : Partial) → s ≡ var v → e.value v ≡ Some u → u ≡ t → IsExtendedTo s t e e
value_kept s t u v e h k q = subst (λ z. IsExtendedTo z t e e) (sym h) (record {
  kept = λ w x r. r;
  given = λ w o. (u, subst (λ x. e.value x ≡ Some u) o k);
  others = λ w o. refl;
  matched = ap (λ z. value_or z (var v)) k ∙ q;
})

pub value_other : (s t u : Tree) (v : ℕ) (e : Partial) → s ≡ var v → e.value v ≡ Some u → (u ≡ t → ⊥) → NoneMatches s t e
value_other s t u v e h k q m x y = q (sym (x v u k) ∙ ap (apply m) (sym h) ∙ y)

-- the values of one list, and after it those of another
pub value_after : (es fs : List (ℕ × Tree)) (w : ℕ) → value_of (es ++ fs) w ≡ first_some (value_of es w) (value_of fs w)
value_after [] fs w = refl
value_after (e ∷ es) fs w = go (eqb e.0 w) (value_after es fs w)
  where
    go : (b : Bool) → value_of (es ++ fs) w ≡ first_some (value_of es w) (value_of fs w) → cond b (Some e.1) (value_of (es ++ fs) w) ≡ first_some (cond b (Some e.1) (value_of es w)) (value_of fs w)
    go true k = refl
    go false k = k

first_kept : (a b : Option Tree) (u : Tree) → a ≡ Some u → first_some a b ≡ Some u
first_kept None b u h = absurd (cc)
first_kept (Some x) b u h = h

first_none : (a : Option Tree) → first_some a None ≡ a
first_none None = refl
first_none (Some x) = refl

-- one more entry, of a variable that had no value
entry_extends : (es : List (ℕ × Tree)) (v : ℕ) (t : Tree) → value_of es v ≡ None → IsExtendedTo (var v) t (map_of es) (map_of (es ++ (v, t) ∷ []))
entry_extends es v t h =
    let here : value_of (es ++ (v, t) ∷ []) v ≡ Some t =
    value_after es ((v, t) ∷ []) v ∙ ap₂ first_some h (ap (λ b. cond b (Some t) None) (eq-eqb v v refl)) in
    record {
      kept = λ w u k. value_after es ((v, t) ∷ []) w ∙ first_kept (value_of es w) (cond (eqb v w) (Some t) None) u k;
      given = λ w o. (t, subst (λ x. value_of (es ++ (v, t) ∷ []) x ≡ Some t) o here);
      others = λ w o. value_after es ((v, t) ∷ []) w ∙ ap (λ b. first_some (value_of es w) (cond b (Some t) None)) (ne_eqb v w o) ∙ first_none (value_of es w);
      matched = ap (λ z. value_or z (var v)) here;
    }

pub map_after : {A B : Type 0} (f : A → B) (xs ys : List A) → map f (xs ++ ys) ≡ map f xs ++ map f ys
map_after f [] ys = refl
map_after f (x ∷ xs) ys = ap (λ z. f x ∷ z) (map_after f xs ys)

pub value_new : (s : Tree) (t : Term) (v : ℕ) (e l : List Binding) → s ≡ var v → value_of (map entry_of e) v ≡ None → l ≡ e ++ (record { variable = v; value = t }) ∷ [] → IsExtendedTo s (tree_of t) (partial_of e) (partial_of l)
value_new s t v e l h k g =
    let more : map entry_of l ≡ map entry_of e ++ (v, tree_of t) ∷ [] = ap (map entry_of) g ∙ map_after entry_of e ((record { variable = v; value = t }) ∷ []) in
    subst (λ z. IsExtendedTo z (tree_of t) (partial_of e) (partial_of l)) (sym h)
    (subst (λ (x : List (ℕ × Tree)). IsExtendedTo (var v) (tree_of t) (partial_of e) (map_of x)) (sym more) (entry_extends (map entry_of e) v (tree_of t) k))
