use Rattle.std.proofs.Common.{◌≡◌, ◌≢◌, ℕ, zero, suc, ◌<◌, ◌≤◌, ◌+◌, ◌*◌, IsTrue, List, Option, Some, None, refl, sym, ap, ap₂, ◌∙◌, subst, arith}
use Rattle.etp_theory.specs.Trees.{Tree, var, op, Equation}
use Rattle.etp_theory.specs.Substitutions.{apply}
use Rattle.etp_theory.specs.Derivations.{Derives}
use Rattle.etp_theory.specs.Magmas.{meaning, IsClosed, Holds}
use Rattle.etp_theory.specs.Rewriting.{Step, Steps, stop, more, Joinable, IsLocallyConfluent, Convertible}
use Rattle.etp_theory.specs.Weights.{Weight, weigh, constant, AllDecrease}
use Rattle.etp_theory.specs.Strategy.{next, go_on, walk, normal_form, no_step, is_normal, normal_op}
use Rattle.etp_theory.proofs.Trees.{identity}
use Rattle.etp_theory.specs.Sound.{sound}
use Rattle.etp_theory.proofs.Rewriting.{then, steps_both, steps_applied}
use Rattle.etp_theory.proofs.Weights.{step_falls}
use Rattle.etp_theory.proofs.Newman.{confluent, convertible_join}
use Rattle.etp_theory.proofs.Matching.{next_some, next_none}

weigh_zero : (w : Weight) (t : Tree) → weigh w (λ v. 0) t ≡ constant w t
weigh_zero w (var v) = refl
weigh_zero w (op l r) = ap₂ (λ x y. w.on_left * x + w.on_right * y + w.added) (weigh_zero w l) (weigh_zero w r)

module _ (w : Weight) (rules : List Equation) (all : AllDecrease w rules) where
  pub constant_falls : {s t : Tree} → Step rules s t → constant w t < constant w s
  constant_falls {s} {t} d = omega (arith, step_falls w rules all (λ v. 0) d, weigh_zero w s, weigh_zero w t)

  end_zero : (s : Tree) (o : Option Tree) → next rules s ≡ o → constant w s ≤ 0 → next rules s ≡ None
  end_zero s None e h = e
  end_zero s (Some t) e h = absurd (omega (arith, constant_falls (next_some rules s t e)))

  end_suc : (n : ℕ) (s : Tree) (o : Option Tree) → next rules s ≡ o → constant w s ≤ suc n → ((t : Tree) → constant w t ≤ n → next rules (walk rules n t) ≡ None) → next rules (go_on o s (λ t. walk rules n t)) ≡ None
  end_suc n s None e h i = e
  end_suc n s (Some t) e h i = i t (omega (arith, constant_falls (next_some rules s t e)))

  walk_end : (n : ℕ) (s : Tree) → constant w s ≤ n → next rules (walk rules n s) ≡ None
  walk_end zero s h = end_zero s (next rules s) refl h
  walk_end (suc n) s h = end_suc n s (next rules s) refl h (walk_end n)

  steps_suc : (n : ℕ) (s : Tree) (o : Option Tree) → next rules s ≡ o → ((t : Tree) → Steps rules t (walk rules n t)) → Steps rules s (go_on o s (λ t. walk rules n t))
  steps_suc n s None e i = stop s
  steps_suc n s (Some t) e i = more (next_some rules s t e) (i t)

  walk_steps : (n : ℕ) (s : Tree) → Steps rules s (walk rules n s)
  walk_steps zero s = stop s
  walk_steps (suc n) s = steps_suc n s (next rules s) refl (walk_steps n)

  pub normal_end : (s : Tree) → next rules (normal_form w rules s) ≡ None
  normal_end s = walk_end (constant w s) s (omega arith)

  pub normal_steps : (s : Tree) → Steps rules s (normal_form w rules s)
  normal_steps s = walk_steps (constant w s) s

  pub stuck : {s t : Tree} → next rules s ≡ None → Steps rules s t → s ≡ t
  stuck h (stop t) = refl
  stuck h (more d d0) = absurd (next_none rules h d)

  var_normal : (v : ℕ) (o : Option Tree) → next rules (var v) ≡ o → next rules (var v) ≡ None
  var_normal v None e = e
  var_normal v (Some t) e = absurd (omega (arith, constant_falls (next_some rules (var v) t e)))

  pub closed : IsClosed (is_normal rules) (normal_op w rules)
  closed x y h k = let e = ap no_step (normal_end (op x y)) in subst IsTrue (sym e) refl

  is_normal_none : (o : Option Tree) → IsTrue (no_step o) → o ≡ None
  is_normal_none None h = refl
  is_normal_none (Some t) h = absurd (cc)

  module _ (local : IsLocallyConfluent rules) where
    pub normal_unique : {s a : Tree} → Steps rules s a → next rules a ≡ None → normal_form w rules s ≡ a
    normal_unique {s} {a} d e =
        let j = confluent w rules all local (normal_steps s) d in
        stuck (normal_end s) j.from_left ∙ sym (stuck e j.from_right)

    -- what has no step at all is the normal form of what leads to it
    pub normal_stuck : {s a : Tree} → Steps rules s a → ((t : Tree) → Step rules a t → ⊥) → normal_form w rules s ≡ a
    normal_stuck {s} {a} d h = normal_unique d (go (next rules a) refl)
      where
        go : (o : Option Tree) → next rules a ≡ o → next rules a ≡ None
        go None q = q
        go (Some t) q = absurd (h t (next_some rules a t q))

    pub normal_same : {s t : Tree} → Steps rules s t → normal_form w rules s ≡ normal_form w rules t
    normal_same {s} {t} d = normal_unique (then rules d (normal_steps t)) (normal_end t)

    pub normal_joined : {s t : Tree} → Joinable rules s t → normal_form w rules s ≡ normal_form w rules t
    normal_joined j = normal_same j.from_left ∙ sym (normal_same j.from_right)

    pub normal_convertible : {s t : Tree} → Convertible rules s t → normal_form w rules s ≡ normal_form w rules t
    normal_convertible c = normal_joined (convertible_join w rules all local c)

    meaning_normal : (r : ℕ → Tree) → ((v : ℕ) → IsTrue (is_normal rules (r v))) → (t : Tree) → meaning (normal_op w rules) r t ≡ normal_form w rules (apply r t)
    meaning_normal r h (var v) = sym (normal_unique (stop (r v)) (is_normal_none (next rules (r v)) (h v)))
    meaning_normal r h (op s t) =
        ap₂ (normal_op w rules) (meaning_normal r h s) (meaning_normal r h t)
        ∙ sym (normal_same (steps_both rules (normal_steps (apply r s)) (normal_steps (apply r t))))

    -- one normal form on both sides stays one under every substitution
    pub same_applied : (p q : Tree) (r : ℕ → Tree) → normal_form w rules p ≡ normal_form w rules q → normal_form w rules (apply r p) ≡ normal_form w rules (apply r q)
    same_applied p q r e =
        normal_same (steps_applied rules r (normal_steps p))
        ∙ ap (λ x. normal_form w rules (apply r x)) e
        ∙ sym (normal_same (steps_applied rules r (normal_steps q)))

    pub holds_of_same : (p q : Tree) → normal_form w rules p ≡ normal_form w rules q → Holds (is_normal rules) (normal_op w rules) p q
    holds_of_same p q e r h = meaning_normal r h p ∙ same_applied p q r e ∙ sym (meaning_normal r h q)

    pub same_of_holds : (p q : Tree) → Holds (is_normal rules) (normal_op w rules) p q → normal_form w rules p ≡ normal_form w rules q
    same_of_holds p q h =
        let v : (x : ℕ) → IsTrue (is_normal rules (var x)) = λ x. subst IsTrue (sym (ap no_step (var_normal x (next rules (var x)) refl))) refl in
        ap (normal_form w rules) (sym (identity p)) ∙ sym (meaning_normal var v p) ∙ h var v ∙ meaning_normal var v q ∙ ap (normal_form w rules) (identity q)

    pub not_derived : (e f : Equation) → normal_form w rules e.left ≡ normal_form w rules e.right → normal_form w rules f.left ≢ normal_form w rules f.right → Derives e f → ⊥
    not_derived e f h k d = k (same_of_holds f.left f.right (sound (is_normal rules) (normal_op w rules) closed e (holds_of_same e.left e.right h) d))
