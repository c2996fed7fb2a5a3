use Rattle.std.proofs.Common.{◌≡◌, ℕ, List, [], ◌∷◌, Some, slice_get, refl, ap, ◌∙◌}
use Rattle.std.proofs.lemmas.Option.{same_Some}
use Rattle.etp_theory.specs.Trees.{Tree, var, op, Equation}
use Rattle.etp_theory.specs.Substitutions.{apply, then_apply}
use Rattle.etp_theory.specs.Positions.{Side, to_left, to_right, sub_at, put_at}
use Rattle.etp_theory.specs.Rewriting.{Step, at_root, in_left, in_right, StepAt, Steps, stop, more, Joinable}
use Rattle.etp_theory.proofs.Trees.{composed}

module _ (rules : List Equation) where
  -- the two ways to say one rewriting agree
  pub step_of_at : (p : List Side) (i : ℕ) (e : Equation) (m : ℕ → Tree) (s : Tree) → slice_get rules i ≡ Some e → sub_at p s ≡ Some (apply m e.left) → Step rules s (put_at p s (apply m e.right))
  step_of_at [] i e m s g h = at_root i e m g (same_Some _ _ h) refl
  step_of_at (to_left ∷ p) i e m (var x) g h = absurd (cc)
  step_of_at (to_left ∷ p) i e m (op l r) g h = in_left r (step_of_at p i e m l g h)
  step_of_at (to_right ∷ p) i e m (var x) g h = absurd (cc)
  step_of_at (to_right ∷ p) i e m (op l r) g h = in_right l (step_of_at p i e m r g h)

  pub at_of_step : {s t : Tree} → Step rules s t → StepAt rules s t
  at_of_step (at_root i e m g h k) = record { position = []; number = i; rule = e; by = m; listed = g; here = ap Some h; there = k }
  at_of_step (in_left c d) = let h = at_of_step d in record { position = to_left ∷ h.position; number = h.number; rule = h.rule; by = h.by; listed = h.listed; here = h.here; there = ap (λ x. op x c) h.there }
  at_of_step (in_right c d) = let h = at_of_step d in record { position = to_right ∷ h.position; number = h.number; rule = h.rule; by = h.by; listed = h.listed; here = h.here; there = ap (λ x. op c x) h.there }

  pub step_applied : {s t : Tree} (m : ℕ → Tree) → Step rules s t → Step rules (apply m s) (apply m t)
  step_applied m (at_root i e n g h k) = at_root i e (then_apply n m) g (ap (apply m) h ∙ composed n m e.left) (ap (apply m) k ∙ composed n m e.right)
  step_applied m (in_left c d) = in_left (apply m c) (step_applied m d)
  step_applied m (in_right c d) = in_right (apply m c) (step_applied m d)

  pub one : {s t : Tree} → Step rules s t → Steps rules s t
  one d = more d (stop _)

  pub then : {s t u : Tree} → Steps rules s t → Steps rules t u → Steps rules s u
  then (stop t) d' = d'
  then (more d d0) d' = more d (then d0 d')

  pub steps_applied : {s t : Tree} (m : ℕ → Tree) → Steps rules s t → Steps rules (apply m s) (apply m t)
  steps_applied m (stop t) = stop (apply m t)
  steps_applied m (more d d0) = more (step_applied m d) (steps_applied m d0)

  pub steps_left : {a b : Tree} (c : Tree) → Steps rules a b → Steps rules (op a c) (op b c)
  steps_left c (stop t) = stop (op t c)
  steps_left c (more d d0) = more (in_left c d) (steps_left c d0)

  pub steps_right : {a b : Tree} (c : Tree) → Steps rules a b → Steps rules (op c a) (op c b)
  steps_right c (stop t) = stop (op c t)
  steps_right c (more d d0) = more (in_right c d) (steps_right c d0)

  pub steps_both : {a b c d : Tree} → Steps rules a b → Steps rules c d → Steps rules (op a c) (op b d)
  steps_both x y = then (steps_left _ x) (steps_right _ y)

  pub steps_pointwise : (m n : ℕ → Tree) → ((v : ℕ) → Steps rules (m v) (n v)) → (t : Tree) → Steps rules (apply m t) (apply n t)
  steps_pointwise m n h (var v) = h v
  steps_pointwise m n h (op l r) = steps_both (steps_pointwise m n h l) (steps_pointwise m n h r)

  pub join_applied : {s t : Tree} (m : ℕ → Tree) → Joinable rules s t → Joinable rules (apply m s) (apply m t)
  join_applied m j = record { meet = apply m j.meet; from_left = steps_applied m j.from_left; from_right = steps_applied m j.from_right }

  pub join_swapped : {s t : Tree} → Joinable rules s t → Joinable rules t s
  join_swapped j = record { meet = j.meet; from_left = j.from_right; from_right = j.from_left }

  pub join_before : {s s' t t' : Tree} → Steps rules s s' → Steps rules t t' → Joinable rules s' t' → Joinable rules s t
  join_before d d' j = record { meet = j.meet; from_left = then d j.from_left; from_right = then d' j.from_right }

  pub join_left : {a b : Tree} (c : Tree) → Joinable rules a b → Joinable rules (op a c) (op b c)
  join_left c j = record { meet = op j.meet c; from_left = steps_left c j.from_left; from_right = steps_left c j.from_right }

  pub join_right : {a b : Tree} (c : Tree) → Joinable rules a b → Joinable rules (op c a) (op c b)
  join_right c j = record { meet = op c j.meet; from_left = steps_right c j.from_left; from_right = steps_right c j.from_right }
