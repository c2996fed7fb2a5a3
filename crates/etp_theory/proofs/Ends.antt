-- A walk has a form within the limits or passes one of them, and what is found of two terms.
use Rattle.std.proofs.Common.{◌≡◌, ℕ, suc, ◌<◌, ◌≤◌, ◌⊎◌, inl, inr, Bool, true, false, List, Option, Some, None, refl, sym, ap₂, ◌∙◌, subst, arith}
use Rattle.etp_theory.specs.Trees.{Tree, leaves, Equation}
use Rattle.etp_theory.specs.Strategy.{same, next, walk}
use Rattle.etp_theory.specs.Forms.{IsFormOf, HaveOneForm, HasForm, PassesTermLimit, PassesStepLimit}
use Rattle.etp_theory.specs.FailingOverlaps.{Finding, two_forms, term_limit, step_limit, IsFinding}
use Rattle.etp_theory.proofs.Matching.{same_eq, same_refl}
use Rattle.etp_theory.proofs.Convergent.{walks_meet}
use Rattle.etp_theory.proofs.Passing.{walk_past, form_of_walk}
use Rattle.etp_theory.proofs.Places.{first_below}

le_or_lt : (m n : ℕ) → (m ≤ n) ⊎ (n < m)
le_or_lt m n = grind arith

module _ (rules : List Equation) where
  -- no walk ends in two ways

  pub one_form : (s u v : Tree) → IsFormOf rules s u → IsFormOf rules s v → u ≡ v
  one_form s u v f g =
      sym f.reached
      ∙ walks_meet rules f.steps g.steps s (subst (λ z. next rules z ≡ None) (sym f.reached) f.ended) (subst (λ z. next rules z ≡ None) (sym g.reached) g.ended)
      ∙ g.reached

  pub form_or_wide : (s : Tree) → HasForm rules s → PassesTermLimit rules s → ⊥
  form_or_wide s f p = omega (arith, f.1.narrow p.steps, p.wide)

  pub form_or_going : (s : Tree) → HasForm rules s → PassesStepLimit rules s → ⊥
  form_or_going s f p =
      let g : IsFormOf rules s f.0 = f.1 in
      let ended : next rules (walk rules g.steps s) ≡ None = subst (λ z. next rules z ≡ None) (sym g.reached) g.ended in
      p.going (subst (λ z. next rules z ≡ None) (sym (walk_past rules g.steps p.steps s ended (omega (arith, g.few, p.all)))) ended)

  pub wide_or_going : (s : Tree) → PassesTermLimit rules s → PassesStepLimit rules s → ⊥
  wide_or_going s p q = omega (arith, q.narrow p.steps (omega (arith, p.few, q.all)), p.wide)

  -- and each ends in one

  after : (n : ℕ) → n ≡ 100000 → (s : Tree) → ((k : ℕ) → k ≤ n → leaves (walk rules k s) ≤ 512) → (o : Option Tree) → next rules (walk rules n s) ≡ o → HasForm rules s ⊎ (PassesTermLimit rules s ⊎ PassesStepLimit rules s)
  after n all s narrow None e = inl (walk rules n s, form_of_walk rules n s (omega (arith, all)) e narrow)
  after n all s narrow (Some t) e = inr (inr (record { steps = n; all = all; narrow = narrow; going = λ h. (let q : None ≡ Some t = sym h ∙ e in cc) }))

  ends_at : (n : ℕ) → n ≡ 100000 → (s : Tree) → HasForm rules s ⊎ (PassesTermLimit rules s ⊎ PassesStepLimit rules s)
  ends_at n all s = go (first_below (suc n) (λ k. leaves (walk rules k s) ≤ 512) (λ k. 512 < leaves (walk rules k s)) (λ k. le_or_lt (leaves (walk rules k s)) 512))
    where
      go : ((k : ℕ) → k < suc n → leaves (walk rules k s) ≤ 512) ⊎ ((k : ℕ) × (512 < leaves (walk rules k s)) × ((j : ℕ) → j < k → leaves (walk rules j s) ≤ 512)) → HasForm rules s ⊎ (PassesTermLimit rules s ⊎ PassesStepLimit rules s)
      go (inl narrow) = after n all s (λ k h. narrow k (omega (arith, h))) (next rules (walk rules n s)) refl
      go (inr wide) = placed (le_or_lt wide.0 n)
        where
          placed : (wide.0 ≤ n) ⊎ (n < wide.0) → HasForm rules s ⊎ (PassesTermLimit rules s ⊎ PassesStepLimit rules s)
          placed (inl few) = inr (inl (record { steps = wide.0; few = omega (arith, few, all); wide = wide.1 }))
          placed (inr late) = after n all s (λ k h. wide.2 k (omega (arith, h, late))) (next rules (walk rules n s)) refl

  pub ends : (s : Tree) → HasForm rules s ⊎ (PassesTermLimit rules s ⊎ PassesStepLimit rules s)
  ends s = ends_at 100000 refl s

  -- findings

  pub not_both : (s t : Tree) (f : Finding) → HaveOneForm rules s t → IsFinding rules s t f → ⊥
  not_both s t (two_forms u v) h k = k.2 (one_form s u h.form k.0 h.of_left ∙ one_form t h.form v h.of_right k.1)
  not_both s t term_limit h (inl p) = form_or_wide s (h.form, h.of_left) p
  not_both s t term_limit h (inr p) = form_or_wide t (h.form, h.of_right) p.1
  not_both s t step_limit h (inl p) = form_or_going s (h.form, h.of_left) p
  not_both s t step_limit h (inr p) = form_or_going t (h.form, h.of_right) p.1

  pub one_finding : (s t : Tree) (f g : Finding) → IsFinding rules s t f → IsFinding rules s t g → f ≡ g
  one_finding s t (two_forms u v) (two_forms x y) h k = ap₂ two_forms (one_form s u x h.0 k.0) (one_form t v y h.1 k.1)
  one_finding s t (two_forms u v) term_limit h (inl p) = absurd (form_or_wide s (u, h.0) p)
  one_finding s t (two_forms u v) term_limit h (inr p) = absurd (form_or_wide t (v, h.1) p.1)
  one_finding s t (two_forms u v) step_limit h (inl p) = absurd (form_or_going s (u, h.0) p)
  one_finding s t (two_forms u v) step_limit h (inr p) = absurd (form_or_going t (v, h.1) p.1)
  one_finding s t term_limit (two_forms u v) (inl p) h = absurd (form_or_wide s (u, h.0) p)
  one_finding s t term_limit (two_forms u v) (inr p) h = absurd (form_or_wide t (v, h.1) p.1)
  one_finding s t term_limit term_limit h k = refl
  one_finding s t term_limit step_limit (inl p) (inl q) = absurd (wide_or_going s p q)
  one_finding s t term_limit step_limit (inl p) (inr q) = absurd (form_or_wide s q.0 p)
  one_finding s t term_limit step_limit (inr p) (inl q) = absurd (form_or_going s p.0 q)
  one_finding s t term_limit step_limit (inr p) (inr q) = absurd (wide_or_going t p.1 q.1)
  one_finding s t step_limit (two_forms u v) (inl p) h = absurd (form_or_going s (u, h.0) p)
  one_finding s t step_limit (two_forms u v) (inr p) h = absurd (form_or_going t (v, h.1) p.1)
  one_finding s t step_limit term_limit (inl p) (inl q) = absurd (wide_or_going s q p)
  one_finding s t step_limit term_limit (inl p) (inr q) = absurd (form_or_going s q.0 p)
  one_finding s t step_limit term_limit (inr p) (inl q) = absurd (form_or_wide s p.0 q)
  one_finding s t step_limit term_limit (inr p) (inr q) = absurd (wide_or_going t q.1 p.1)
  one_finding s t step_limit step_limit h k = refl

  differ_or_same : (s t u v : Tree) → IsFormOf rules s u → IsFormOf rules t v → (b : Bool) → same u v ≡ b → HaveOneForm rules s t ⊎ ((f : Finding) × IsFinding rules s t f)
  differ_or_same s t u v f g true e = inl (record { form = u; of_left = f; of_right = subst (IsFormOf rules t) (sym (same_eq u v e)) g })
  differ_or_same s t u v f g false e = inr (two_forms u v, (f, g, λ q. (let x : false ≡ true = sym e ∙ subst (λ z. same u z ≡ true) q (same_refl u) in cc)))

  pub looked_at : (s t : Tree) → HaveOneForm rules s t ⊎ ((f : Finding) × IsFinding rules s t f)
  looked_at s t = go (ends s) (ends t)
    where
      go : HasForm rules s ⊎ (PassesTermLimit rules s ⊎ PassesStepLimit rules s) → HasForm rules t ⊎ (PassesTermLimit rules t ⊎ PassesStepLimit rules t) → HaveOneForm rules s t ⊎ ((f : Finding) × IsFinding rules s t f)
      go (inl f) (inl g) = differ_or_same s t f.0 g.0 f.1 g.1 (same f.0 g.0) refl
      go (inl f) (inr (inl p)) = inr (term_limit, inr (f, p))
      go (inl f) (inr (inr p)) = inr (step_limit, inr (f, p))
      go (inr (inl p)) e = inr (term_limit, inl p)
      go (inr (inr p)) e = inr (step_limit, inl p)
