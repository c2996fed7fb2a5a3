-- The substitution that values stand for, one after the other; and with twice each value put in, so
-- that a variable is greater than its value.
use Rattle.std.proofs.Common.{◌≡◌, ℕ, ◌⊎◌, inl, inr, ◌+◌, ◌<◌, Bool, false, cond, eqb, List, [], ◌∷◌, ◌++◌, map, Option, Some, None, refl, sym, ap, ap₂, ◌∙◌, subst, arith, eq-eqb, ne_eqb}
use Rattle.std.proofs.lemmas.Bool.{cases_eq}
use Rattle.etp_theory.specs.Trees.{Tree, var, op, ops, Occurs}
use Rattle.etp_theory.specs.Substitutions.{apply, then_apply}
use Rattle.etp_theory.specs.Unifiers.{single}
use Rattle.etp_theory.specs.Strategy.{first_some}
use Rattle.etp_theory.proofs.Trees.{composed}
use Rattle.etp_theory.proofs.Unifiers.{instance_occurs, single_at, single_other, single_absorbed, absorbed_term}
use Rattle.etp_match.specs.Bindings.{value_of, entry_of, partial_of}
use Rattle.etp_match.specs.declared.subst.Binding.{Binding}
use Rattle.etp_match.proofs.Extending.{value_after}
use Rattle.etp_unify.specs.Triangular.{with_entry, with_entries, AreTriangular, IsTriangular, solution}
use Rattle.etp_unify.proofs.Singles.{single_variables, single_unused, in_instance}

pub none_after : (xs : List (ℕ × Tree)) → xs ++ [] ≡ xs
none_after [] = refl
none_after (x ∷ xs) = ap (λ (zs : List (ℕ × Tree)). x ∷ zs) (none_after xs)

pub one_after : (xs : List (ℕ × Tree)) (y : ℕ × Tree) (ys : List (ℕ × Tree)) → (xs ++ y ∷ []) ++ ys ≡ xs ++ y ∷ ys
one_after [] y ys = refl
one_after (x ∷ xs) y ys = ap (λ (zs : List (ℕ × Tree)). x ∷ zs) (one_after xs y ys)

-- one more entry, of a variable without a value

first_other : (a : Option Tree) (b : Bool) (t : Tree) → b ≡ false → first_some a (cond b (Some t) None) ≡ a
first_other None b t h = ap (λ c. cond c (Some t) None) h
first_other (Some u) b t h = refl

pub entry_at : (seen : List (ℕ × Tree)) (x : ℕ) (t : Tree) → value_of seen x ≡ None → value_of (seen ++ (x, t) ∷ []) x ≡ Some t
entry_at seen x t h = value_after seen ((x, t) ∷ []) x ∙ ap₂ first_some h (ap (λ b. cond b (Some t) None) (eq-eqb x x refl))

pub entry_elsewhere : (seen : List (ℕ × Tree)) (x : ℕ) (t : Tree) (v : ℕ) → (v ≡ x → ⊥) → value_of (seen ++ (x, t) ∷ []) v ≡ value_of seen v
entry_elsewhere seen x t v h = value_after seen ((x, t) ∷ []) v ∙ first_other (value_of seen v) (eqb x v) t (ne_eqb x v (λ q. h (sym q)))

-- what is put in for a value: the value itself, or more than it
pub record IsFrame (frame : Tree → Tree) : Type 0 where
  pub applied : (n : ℕ → Tree) (t : Tree) → apply n (frame t) ≡ frame (apply n t)
  pub inside : (y : ℕ) (t : Tree) → Occurs y (frame t) → Occurs y t
  pub outside : (y : ℕ) (t : Tree) → Occurs y t → Occurs y (frame t)

abbrev pub plain : Tree → Tree
plain t = t

abbrev pub twice : Tree → Tree
twice t = op t t

pub plain_frame : IsFrame plain
plain_frame = record { applied = λ n t. refl; inside = λ y t o. o; outside = λ y t o. o }

either_part : {A : Type 0} → A ⊎ A → A
either_part (inl a) = a
either_part (inr a) = a

pub twice_frame : IsFrame twice
twice_frame = record { applied = λ n t. refl; inside = λ y t o. either_part o; outside = λ y t o. inl o }

module _ (frame : Tree → Tree) (f : IsFrame frame) where
  abbrev pub put_entry : (ℕ → Tree) → ℕ × Tree → ℕ → Tree
  put_entry m e = then_apply m (single e.0 (frame (apply m e.1)))

  abbrev pub put_entries : (ℕ → Tree) → List (ℕ × Tree) → ℕ → Tree
  put_entries m [] = m
  put_entries m (e ∷ es) = put_entries (put_entry m e) es

  -- variables without a value stay; the others have the instance of their values, and are gone
  pub record IsResolved (values : ℕ → Option Tree) (m : ℕ → Tree) : Type 0 where
    pub free : (v : ℕ) → values v ≡ None → m v ≡ var v
    pub bound : (v : ℕ) (t : Tree) → values v ≡ Some t → m v ≡ frame (apply m t)
    pub gone : (v : ℕ) (t : Tree) → values v ≡ Some t → (w : ℕ) → Occurs v (m w) → ⊥

  module _ (values more : ℕ → Option Tree) (m : ℕ → Tree) (x : ℕ) (t : Tree) (r : IsResolved values m) (fresh : m x ≡ var x) (apart : Occurs x (apply m t) → ⊥) (at : more x ≡ Some t) (elsewhere : (v : ℕ) → (v ≡ x → ⊥) → more v ≡ values v) where
    abbrev next : ℕ → Tree
    next = put_entry m (x, t)

    abbrev put : Tree
    put = frame (apply m t)

    put_apart : Occurs x put → ⊥
    put_apart o = apart (f.inside x (apply m t) o)

    -- the value under the later map is as under the earlier one
    value_kept : apply next t ≡ apply m t
    value_kept = sym (composed m (single x put) t) ∙ single_unused x put (apply m t) apart

    next_free : (v : ℕ) → more v ≡ None → next v ≡ var v
    next_free v h = go (cases_eq v x)
      where
        go : (v ≡ x) ⊎ (v ≡ x → ⊥) → next v ≡ var v
        go (inl q) = let e : Some t ≡ None = sym at ∙ subst (λ w. more w ≡ None) q h in absurd (cc)
        go (inr q) = ap (apply (single x put)) (r.free v (sym (elsewhere v q) ∙ h)) ∙ single_other x put v q

    next_at : next x ≡ put
    next_at = ap (apply (single x put)) fresh ∙ single_at x put

    next_bound : (v : ℕ) (u : Tree) → more v ≡ Some u → next v ≡ frame (apply next u)
    next_bound v u h = go (cases_eq v x)
      where
        go : (v ≡ x) ⊎ (v ≡ x → ⊥) → next v ≡ frame (apply next u)
        go (inl q) =
            let e : Some t ≡ Some u = sym at ∙ subst (λ w. more w ≡ Some u) q h in
            let k : t ≡ u = cc in
            subst (λ w. next w ≡ frame (apply next u)) (sym q) (subst (λ w. next x ≡ frame (apply next w)) k (next_at ∙ ap frame (sym value_kept)))
        go (inr q) =
            ap (apply (single x put)) (r.bound v u (sym (elsewhere v q) ∙ h))
            ∙ f.applied (single x put) (apply m u)
            ∙ ap frame (composed m (single x put) u)

    next_gone : (v : ℕ) (u : Tree) → more v ≡ Some u → (w : ℕ) → Occurs v (next w) → ⊥
    next_gone v u h w o = let i = instance_occurs (single x put) v (m w) o in go i.0 i.1 (single_variables x put i.0 v i.2)
      where
        in_value : Occurs v put → (v ≡ x) ⊎ (v ≡ x → ⊥) → ⊥
        in_value k (inl q) = put_apart (subst (λ z. Occurs z put) q k)
        in_value k (inr q) = let i = instance_occurs m v t (f.inside v (apply m t) k) in r.gone v u (sym (elsewhere v q) ∙ h) i.0 i.2

        go : (z : ℕ) → Occurs z (m w) → ((z ≡ x) × Occurs v put) ⊎ ((z ≡ x → ⊥) × (z ≡ v)) → ⊥
        go z k (inl q) = in_value q.1 (cases_eq v x)
        go z k (inr q) = r.gone v u (sym (elsewhere v (λ e. q.0 (q.1 ∙ e))) ∙ h) w (subst (λ y. Occurs y (m w)) q.1 k)

    pub one_more : IsResolved more next
    one_more = record { free = next_free; bound = next_bound; gone = next_gone }

  -- which variables have no value
  pub no_value : (values : ℕ → Option Tree) (m : ℕ → Tree) → IsResolved values m → (x : ℕ) → m x ≡ var x → values x ≡ None
  no_value values m r x h = go (values x) refl
    where
      go : (o : Option Tree) → values x ≡ o → o ≡ None
      go None e = refl
      go (Some t) e = absurd (r.gone x t e x (subst (Occurs x) (sym h) refl))

  -- the entries fit, one after the other
  abbrev pub AreFit : (ℕ → Tree) → List (ℕ × Tree) → Type 0
  AreFit m [] = Unit {0}
  AreFit m (e ∷ es) = (m e.0 ≡ var e.0) × (Occurs e.0 (apply m e.1) → ⊥) × AreFit (put_entry m e) es

  pub entry_resolved : (seen : List (ℕ × Tree)) (m : ℕ → Tree) (e : ℕ × Tree) → IsResolved (value_of seen) m → m e.0 ≡ var e.0 → (Occurs e.0 (apply m e.1) → ⊥) → IsResolved (value_of (seen ++ e ∷ [])) (put_entry m e)
  entry_resolved seen m e r fresh apart =
      one_more (value_of seen) (value_of (seen ++ e ∷ [])) m e.0 e.1 r fresh apart
      (entry_at seen e.0 e.1 (no_value (value_of seen) m r e.0 fresh))
      (entry_elsewhere seen e.0 e.1)

  pub entries_resolved : (seen es : List (ℕ × Tree)) (m : ℕ → Tree) → IsResolved (value_of seen) m → AreFit m es → IsResolved (value_of (seen ++ es)) (put_entries m es)
  entries_resolved seen [] m r fit = subst (λ (zs : List (ℕ × Tree)). IsResolved (value_of zs) m) (sym (none_after seen)) r
  entries_resolved seen (e ∷ es) m r fit =
      subst (λ (zs : List (ℕ × Tree)). IsResolved (value_of zs) (put_entries (put_entry m e) es)) (one_after seen e es)
      (entries_resolved (seen ++ e ∷ []) es (put_entry m e) (entry_resolved seen m e r fit.0 fit.1) fit.2)

  pub none_resolved : IsResolved (value_of []) var
  none_resolved = record { free = λ v h. refl; bound = λ v t h. absurd (cc); gone = λ v t h. absurd (cc) }

pub fit_plain : (m : ℕ → Tree) (es : List (ℕ × Tree)) → AreTriangular m es → AreFit plain plain_frame m es
fit_plain m [] h = tt
fit_plain m (e ∷ es) h = (h.0, h.1, fit_plain (with_entry m e) es h.2)

pub same_entries : (m : ℕ → Tree) (es : List (ℕ × Tree)) → put_entries plain plain_frame m es ≡ with_entries m es
same_entries m [] = refl
same_entries m (e ∷ es) = same_entries (with_entry m e) es

-- each variable of an instance is one of the other instance
abbrev pub AreAmong : (ℕ → Tree) → (ℕ → Tree) → Type 0
AreAmong m k = (w y : ℕ) → Occurs y (m w) → Occurs y (k w)

among_instances : (m k : ℕ → Tree) → AreAmong m k → (t : Tree) (y : ℕ) → Occurs y (apply m t) → Occurs y (apply k t)
among_instances m k h t y o = let i = instance_occurs m y t o in in_instance k y i.0 t i.1 (h i.0 y i.2)

among_next : (a b : Tree → Tree) (f : IsFrame a) (g : IsFrame b) (m k : ℕ → Tree) (x : ℕ) (t : Tree) → AreAmong m k → AreAmong (put_entry a f m (x, t)) (put_entry b g k (x, t))
among_next a b f g m k x t h w y o =
    let i = instance_occurs (single x (a (apply m t))) y (m w) o in
    in_instance (single x (b (apply k t))) y i.0 (k w) (h w i.0 i.1) (go i.0 (single_variables x (a (apply m t)) i.0 y i.2))
  where
    go : (z : ℕ) → ((z ≡ x) × Occurs y (a (apply m t))) ⊎ ((z ≡ x → ⊥) × (z ≡ y)) → Occurs y (single x (b (apply k t)) z)
    go z (inl q) =
        subst (λ v. Occurs y (single x (b (apply k t)) v)) (sym q.0)
        (subst (Occurs y) (sym (single_at x (b (apply k t)))) (g.outside y (apply k t) (among_instances m k h t y (f.inside y (apply m t) q.1))))
    go z (inr q) = subst (Occurs y) (sym (single_other x (b (apply k t)) z q.0)) q.1

fit_twice : (seen es : List (ℕ × Tree)) (m k : ℕ → Tree) → IsResolved plain plain_frame (value_of seen) m → IsResolved twice twice_frame (value_of seen) k → AreAmong m k → AreAmong k m → AreTriangular m es → AreFit twice twice_frame k es
fit_twice seen [] m k r s h g fit = tt
fit_twice seen (e ∷ es) m k r s h g fit =
    let fresh : k e.0 ≡ var e.0 = s.free e.0 (no_value plain plain_frame (value_of seen) m r e.0 fit.0) in
    let apart : Occurs e.0 (apply k e.1) → ⊥ = λ o. fit.1 (among_instances k m g e.1 e.0 o) in (
      fresh,
      apart,
      fit_twice (seen ++ e ∷ []) es (put_entry plain plain_frame m e) (put_entry twice twice_frame k e)
          (entry_resolved plain plain_frame seen m e r fit.0 fit.1)
          (entry_resolved twice twice_frame seen k e s fresh apart)
          (among_next plain twice plain_frame twice_frame m k e.0 e.1 h)
          (among_next twice plain twice_frame plain_frame k m e.0 e.1 g)
          fit.2,
    )

-- of the values of a table

pub solution_resolved : (bindings : List Binding) → IsTriangular bindings → IsResolved plain plain_frame (partial_of bindings).value (solution bindings)
solution_resolved bindings h =
    subst (IsResolved plain plain_frame (value_of (map entry_of bindings))) (same_entries var (map entry_of bindings))
    (entries_resolved plain plain_frame [] (map entry_of bindings) var (none_resolved plain plain_frame) (fit_plain var (map entry_of bindings) h))

pub growth : List Binding → ℕ → Tree
growth bindings = put_entries twice twice_frame var (map entry_of bindings)

pub growth_resolved : (bindings : List Binding) → IsTriangular bindings → IsResolved twice twice_frame (partial_of bindings).value (growth bindings)
unfolding growth
growth_resolved bindings h =
    entries_resolved twice twice_frame [] (map entry_of bindings) var (none_resolved twice twice_frame)
    (fit_twice [] (map entry_of bindings) var var (none_resolved plain plain_frame) (none_resolved twice twice_frame) (λ w y o. o) (λ w y o. o) h)

-- the size of a term with each value put in twice: a variable with a value is greater than it
pub weight : List Binding → Tree → ℕ
weight bindings t = ops (apply (growth bindings) t)

pub weight_op : (bindings : List Binding) (a b : Tree) → weight bindings (op a b) ≡ weight bindings a + weight bindings b + 1
unfolding weight
weight_op bindings a b = refl

pub weight_value : (bindings : List Binding) → IsTriangular bindings → (v : ℕ) (t : Tree) → (partial_of bindings).value v ≡ Some t → weight bindings t < weight bindings (var v)
unfolding weight
weight_value bindings h v t e = omega (arith, ap ops ((growth_resolved bindings h).bound v t e))

-- what respects the values is unchanged by the solution before it

absorbed_entries : (seen es : List (ℕ × Tree)) (m n : ℕ → Tree) → IsResolved plain plain_frame (value_of seen) m → AreTriangular m es → ((v : ℕ) → apply n (m v) ≡ n v) → ((v : ℕ) (t : Tree) → value_of (seen ++ es) v ≡ Some t → n v ≡ apply n t) → (v : ℕ) → apply n (with_entries m es v) ≡ n v
absorbed_entries seen [] m n r fit h k v = h v
absorbed_entries seen (e ∷ es) m n r fit h k v =
    let none : value_of seen e.0 ≡ None = no_value plain plain_frame (value_of seen) m r e.0 fit.0 in
    let here : value_of (seen ++ e ∷ es) e.0 ≡ Some e.1 =
    value_after seen (e ∷ es) e.0 ∙ ap₂ first_some none (ap (λ b. cond b (Some e.1) (value_of es e.0)) (eq-eqb e.0 e.0 refl)) in
    let equal : n e.0 ≡ apply n (apply m e.1) = k e.0 e.1 here ∙ sym (absorbed_term m n h e.1) in
    absorbed_entries (seen ++ e ∷ []) es (with_entry m e) n
    (entry_resolved plain plain_frame seen m e r fit.0 fit.1) fit.2
    (λ w. absorbed_term (single e.0 (apply m e.1)) n (single_absorbed e.0 (apply m e.1) n equal) (m w) ∙ h w)
    (λ w t q. k w t (ap (λ (zs : List (ℕ × Tree)). value_of zs w) (sym (one_after seen e es)) ∙ q))
    v

pub solution_absorbed : (bindings : List Binding) → IsTriangular bindings → (n : ℕ → Tree) → ((v : ℕ) (t : Tree) → (partial_of bindings).value v ≡ Some t → n v ≡ apply n t) → (v : ℕ) → apply n (solution bindings v) ≡ n v
solution_absorbed bindings h n k = absorbed_entries [] (map entry_of bindings) var n (none_resolved plain plain_frame) h (λ v. refl) k

-- one more value

abbrev pub free_after : (ℕ → Tree) → List (ℕ × Tree) → ℕ × Tree → Type 0
free_after m es e = (with_entries m es e.0 ≡ var e.0) × (Occurs e.0 (apply (with_entries m es) e.1) → ⊥)

pub triangular_more : (m : ℕ → Tree) (es : List (ℕ × Tree)) (e : ℕ × Tree) → AreTriangular m es → free_after m es e → AreTriangular m (es ++ e ∷ [])
triangular_more m [] e h k = (k.0, k.1, tt)
triangular_more m (x ∷ es) e h k = (h.0, h.1, triangular_more (with_entry m x) es e h.2 k)
