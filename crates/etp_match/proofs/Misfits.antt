-- Where a pattern first doesn't match.
use Rattle.std.proofs.Common.{◌≡◌, ℕ, ◌⊎◌, inl, inr, Bool, true, false, cond, eqb, List, [], ◌∷◌, ◌++◌, Option, Some, None, refl, sym, ap, ap₂, ◌∙◌, subst, eqb-true, eq-eqb}
use Rattle.std.proofs.lemmas.Option.{same_Some}
use Rattle.etp_theory.specs.Trees.{Tree, var, op, Occurs}
use Rattle.etp_theory.specs.Substitutions.{apply, Partial, total, value_or}
use Rattle.etp_theory.specs.Positions.{Side, to_left, to_right, sub_at}
use Rattle.etp_theory.proofs.Theorems.{position_theorems}
use Rattle.etp_theory.proofs.Unifiers.{occurs_dec}
use Rattle.etp_term.specs.Positions.{side_of, position_of}
use Rattle.etp_term.specs.declared.position.Side as Program
use Rattle.etp_match.specs.Matching.{Extends, NoneMatches, IsExtendedTo, Before, MisfitAt, operation, valued, repeated, IsFirstMisfit}
use Rattle.etp_match.proofs.Extending.{later_extends, still_matches}

-- where a substitution with the earlier values takes the pattern to the term, nothing is amiss
pub no_misfit : (e : Partial) (p t : Tree) (m : ℕ → Tree) → Extends e m → apply m p ≡ t → (q : List Side) → MisfitAt e p t q → ⊥
no_misfit e p t m x h q (operation a b v y z) =
    let k : Some (apply m (op a b)) ≡ Some (var v) = sym (position_theorems.sub_at_applied q m p (op a b) y) ∙ ap (sub_at q) h ∙ z in cc
no_misfit e p t m x h q (valued v s u y z k n) =
    n (sym (x v u k) ∙ same_Some _ _ (sym (position_theorems.sub_at_applied q m p (var v) y) ∙ ap (sub_at q) h ∙ z))
no_misfit e p t m x h q (repeated r v s u b y z y' z' n) =
    n (same_Some _ _ (sym z' ∙ ap (sub_at r) (sym h) ∙ position_theorems.sub_at_applied r m p (var v) y' ∙ sym (position_theorems.sub_at_applied q m p (var v) y) ∙ ap (sub_at q) h ∙ z))

pub matched_clear : (e l : Partial) (p t : Tree) → IsExtendedTo p t e l → (q : List Side) → MisfitAt e p t q → ⊥
matched_clear e l p t x = no_misfit e p t (total l) (later_extends p t e l x) x.matched

root_clear : (e : Partial) (a b c d : Tree) → MisfitAt e (op a b) (op c d) [] → ⊥
root_clear e a b c d (operation x y v h k) = absurd (cc)
root_clear e a b c d (valued v t u h k l n) = absurd (cc)
root_clear e a b c d (repeated q v t u i h k y z n) = absurd (cc)

-- a misfit in the left part, from the whole and back
left_misfit : (e : Partial) (a b c d : Tree) (q : List Side) → MisfitAt e a c q → MisfitAt e (op a b) (op c d) (to_left ∷ q)
left_misfit e a b c d q (operation x y v h k) = operation x y v h k
left_misfit e a b c d q (valued v t u h k l n) = valued v t u h k l n
left_misfit e a b c d q (repeated r v t u i h k y z n) = repeated (to_left ∷ r) v t u i h k y z n

inside_left : (e : Partial) (a b c d : Tree) (q : List Side) → MisfitAt e (op a b) (op c d) (to_left ∷ q) → MisfitAt e a c q
inside_left e a b c d q (operation x y v h k) = operation x y v h k
inside_left e a b c d q (valued v t u h k l n) = valued v t u h k l n
inside_left e a b c d q (repeated [] v t u i h k y z n) = absurd (cc)
inside_left e a b c d q (repeated (to_left ∷ r) v t u i h k y z n) = repeated r v t u i h k y z n
inside_left e a b c d q (repeated (to_right ∷ r) v t u i h k y z n) = absurd i

occurs_at : (q : List Side) (p : Tree) (v : ℕ) → sub_at q p ≡ Some (var v) → Occurs v p
occurs_at [] (var x) v h = let k : var x ≡ var v = same_Some _ _ h in cc
occurs_at [] (op a b) v h = absurd (cc)
occurs_at (to_left ∷ q) (var x) v h = absurd (cc)
occurs_at (to_left ∷ q) (op a b) v h = inl (occurs_at q a v h)
occurs_at (to_right ∷ q) (var x) v h = absurd (cc)
occurs_at (to_right ∷ q) (op a b) v h = inr (occurs_at q b v h)

-- what stands where the pattern has a variable is that variable's value
pub value_at : {e l : Partial} {p t : Tree} → IsExtendedTo p t e l → (q : List Side) (v : ℕ) (u : Tree) → sub_at q p ≡ Some (var v) → sub_at q t ≡ Some u → l.value v ≡ Some u
value_at {l = l} {p = p} {t = t} x q v u h k =
    let g = x.given v (occurs_at q p v h) in
    g.1 ∙ sym (sym k ∙ ap (sub_at q) (sym x.matched) ∙ position_theorems.sub_at_applied q (total l) p (var v) h ∙ ap (λ z. Some (value_or z (var v))) g.1)

-- where a variable stands
place_of : (v : ℕ) (p : Tree) → Occurs v p → (q : List Side) × (sub_at q p ≡ Some (var v))
place_of v (var x) o = ([], ap (λ w. Some (var w)) o)
place_of v (op a b) (inl o) = let r = place_of v a o in (to_left ∷ r.0, r.1)
place_of v (op a b) (inr o) = let r = place_of v b o in (to_right ∷ r.0, r.1)

-- a later value is an earlier one, or stands where the pattern has the variable
data Origin (e : Partial) (p t : Tree) (v : ℕ) (u : Tree) : Type 0 where
  earlier : e.value v ≡ Some u → Origin e p t v u
  placed : (q : List Side) → sub_at q p ≡ Some (var v) → sub_at q t ≡ Some u → Origin e p t v u

origin_of : (p t : Tree) (e l : Partial) → IsExtendedTo p t e l → (v : ℕ) (u : Tree) → l.value v ≡ Some u → Origin e p t v u
origin_of p t e l x v u h = go (occurs_dec v p)
  where
    go : Occurs v p ⊎ (Occurs v p → ⊥) → Origin e p t v u
    go (inl o) =
        let r = place_of v p o in
        placed r.0 r.1 (ap (sub_at r.0) (sym x.matched) ∙ position_theorems.sub_at_applied r.0 (total l) p (var v) r.1 ∙ ap (λ z. Some (value_or z (var v))) h)
    go (inr o) = earlier (sym (x.others v o) ∙ h)

module _ (e l : Partial) (a b c d : Tree) (left : IsExtendedTo a c e l) where
  right_misfit : (q : List Side) → MisfitAt l b d q → MisfitAt e (op a b) (op c d) (to_right ∷ q)
  right_misfit q (operation x y v h k) = operation x y v h k
  right_misfit q (valued v t u h k i n) = go (origin_of a c e l left v u i)
    where
      go : Origin e a c v u → MisfitAt e (op a b) (op c d) (to_right ∷ q)
      go (earlier x) = valued v t u h k x n
      go (placed r x y) = repeated (to_left ∷ r) v t u tt h k x y n
  right_misfit q (repeated r v t u i h k y z n) = repeated (to_right ∷ r) v t u i h k y z n

  inside_right : (q : List Side) → MisfitAt e (op a b) (op c d) (to_right ∷ q) → MisfitAt l b d q
  inside_right q (operation x y v h k) = operation x y v h k
  inside_right q (valued v t u h k i n) = valued v t u h k (left.kept v u i) n
  inside_right q (repeated [] v t u i h k y z n) = absurd (cc)
  inside_right q (repeated (to_right ∷ r) v t u i h k y z n) = repeated r v t u i h k y z n
  inside_right q (repeated (to_left ∷ r) v t u i h k y z n) = valued v t u h k (value_at left r v u y z) n

-- in the left part, where that doesn't match
first_left : (e : Partial) (a b c d : Tree) (q : List Side) → IsFirstMisfit e a c q → IsFirstMisfit e (op a b) (op c d) (to_left ∷ q)
first_left e a b c d q x = record { here = left_misfit e a b c d q x.here; first = before }
  where
    before : (s : List Side) → Before s (to_left ∷ q) → MisfitAt e (op a b) (op c d) s → ⊥
    before [] k y = root_clear e a b c d y
    before (to_left ∷ s) k y = x.first s k (inside_left e a b c d s y)
    before (to_right ∷ s) k y = k

-- else in the right part, with the values that the left part gives
first_right : (e l : Partial) (a b c d : Tree) (q : List Side) → IsExtendedTo a c e l → IsFirstMisfit l b d q → IsFirstMisfit e (op a b) (op c d) (to_right ∷ q)
first_right e l a b c d q left x = record { here = right_misfit e l a b c d left q x.here; first = before }
  where
    before : (s : List Side) → Before s (to_right ∷ q) → MisfitAt e (op a b) (op c d) s → ⊥
    before [] k y = root_clear e a b c d y
    before (to_left ∷ s) k y = matched_clear e l a c left s (inside_left e a b c d s y)
    before (to_right ∷ s) k y = x.first s k (inside_right e l a b c d left s y)

module _ (e : Partial) (s t a b c d : Tree) (here : s ≡ op a b) (there : t ≡ op c d) where
  pub down_left : (q : List Side) → IsFirstMisfit e a c q → IsFirstMisfit e s t (to_left ∷ q)
  down_left q x =
      subst (λ z. IsFirstMisfit e z t (to_left ∷ q)) (sym here) (subst (λ z. IsFirstMisfit e (op a b) z (to_left ∷ q)) (sym there) (first_left e a b c d q x))

  pub down_right : (l : Partial) (q : List Side) → IsExtendedTo a c e l → IsFirstMisfit l b d q → IsFirstMisfit e s t (to_right ∷ q)
  down_right l q left x =
      subst (λ z. IsFirstMisfit e z t (to_right ∷ q)) (sym here) (subst (λ z. IsFirstMisfit e (op a b) z (to_right ∷ q)) (sym there) (first_right e l a b c d q left x))

  -- where the whole doesn't match and the left part does, the right part doesn't
  pub none_after : (l : Partial) → NoneMatches s t e → IsExtendedTo a c e l → NoneMatches b d l
  none_after l n left m x h =
      n m (λ v u k. x v u (left.kept v u k)) (ap (apply m) here ∙ ap₂ op (still_matches a c e l left m x) h ∙ sym there)

none_before : (q : List Side) → Before q [] → ⊥
none_before q b = b

pub first_operation : (e : Partial) (s t a b : Tree) (v : ℕ) → s ≡ op a b → t ≡ var v → IsFirstMisfit e s t []
first_operation e s t a b v h k = record { here = operation a b v (ap Some h) (ap Some k); first = λ q x y. none_before q x }

-- the map with one more value
with_value : Partial → ℕ → Tree → ℕ → Tree
with_value e v t w = cond (eqb v w) t (total e w)

with_extends : (e : Partial) (v : ℕ) (t : Tree) → e.value v ≡ None → Extends e (with_value e v t)
unfolding with_value
with_extends e v t h w u k = go (eqb v w) refl
  where
    go : (b : Bool) → eqb v w ≡ b → cond b t (total e w) ≡ u
    go true q = let f : None ≡ Some u = sym h ∙ ap e.value (eqb-true v w q) ∙ k in absurd (cc)
    go false q = ap (λ z. value_or z (var w)) k

with_here : (e : Partial) (v : ℕ) (t : Tree) → with_value e v t v ≡ t
unfolding with_value
with_here e v t = ap (λ b. cond b t (total e v)) (eq-eqb v v refl)

-- a variable that doesn't match has another value
pub first_value : (e : Partial) (s t : Tree) (v : ℕ) → s ≡ var v → NoneMatches s t e → IsFirstMisfit e s t []
first_value e s t v h n = go (e.value v) refl
  where
    go : (o : Option Tree) → e.value v ≡ o → IsFirstMisfit e s t []
    go None k = absurd (n (with_value e v t) (with_extends e v t k) (ap (apply (with_value e v t)) h ∙ with_here e v t))
    go (Some u) k = record {
      here = valued v t u (ap Some h) refl k (λ q. n (total e) (λ w x y. ap (λ z. value_or z (var w)) y) (ap (apply (total e)) h ∙ ap (λ z. value_or z (var v)) k ∙ q));
      first = λ q x y. none_before q x;
    }

-- a position that goes one side further down
pub further : (xs ys : List Program.Side) (d : Program.Side) (q : List Side) → ys ≡ xs ++ d ∷ [] → position_of xs ++ side_of d ∷ q ≡ position_of ys ++ q
further xs ys d q h = go xs ∙ ap (λ (zs : List Program.Side). position_of zs ++ q) (sym h)
  where
    go : (zs : List Program.Side) → position_of zs ++ side_of d ∷ q ≡ position_of (zs ++ d ∷ []) ++ q
    go [] = refl
    go (z ∷ zs) = ap (λ r. side_of z ∷ r) (go zs)
