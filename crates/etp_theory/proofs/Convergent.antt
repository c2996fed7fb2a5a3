use Rattle.std.proofs.Common.{◌≡◌, ◌≢◌, ℕ, zero, suc, List, Option, Some, None, refl, sym, ap, ◌∙◌, subst, subst₂}
use Rattle.etp_theory.specs.Trees.{Tree, Equation}
use Rattle.etp_theory.specs.Substitutions.{apply, total}
use Rattle.etp_theory.specs.Derivations.{Derives}
use Rattle.etp_theory.specs.Rewriting.{Steps, Joinable, IsLocallyConfluent}
use Rattle.etp_theory.specs.Weights.{Weight, AllDecrease}
use Rattle.etp_theory.specs.Strategy.{next, go_on, walk, normal_form}
use Rattle.etp_theory.specs.Overlaps.{outer_part, inner_part, PairsJoin, IsConvergent}
use Rattle.etp_theory.specs.Forms.{IsFormOf, HaveOneForm}
use Rattle.etp_theory.proofs.Rewriting.{join_applied}
use Rattle.etp_theory.proofs.NormalForms.{normal_steps, normal_end, not_derived}
use Rattle.etp_theory.proofs.Overlaps.{critical_pairs}
use Rattle.etp_theory.proofs.Renaming.{right_through}
use Rattle.etp_theory.proofs.Unifiers.{mgu, partial_of, total_of, partial_mgu, through, limit, finite}

pub walk_stays : (rules : List Equation) (n : ℕ) (s : Tree) → next rules s ≡ None → walk rules n s ≡ s
walk_stays rules zero s h = refl
walk_stays rules (suc n) s h = ap (λ o. go_on o s (λ t. walk rules n t)) h

-- two walks of one term that ended, ended alike
pub walks_meet : (rules : List Equation) (n k : ℕ) (s : Tree) → next rules (walk rules n s) ≡ None → next rules (walk rules k s) ≡ None → walk rules n s ≡ walk rules k s
walks_meet rules zero k s h h' = sym (walk_stays rules k s h)
walks_meet rules (suc n) zero s h h' = walk_stays rules (suc n) s h'
walks_meet rules (suc n) (suc k) s h h' = go (next rules s) (walks_meet rules n k) h h'
  where
    go : (o : Option Tree) → ((t : Tree) → next rules (walk rules n t) ≡ None → next rules (walk rules k t) ≡ None → walk rules n t ≡ walk rules k t) → next rules (go_on o s (λ t. walk rules n t)) ≡ None → next rules (go_on o s (λ t. walk rules k t)) ≡ None → go_on o s (λ t. walk rules n t) ≡ go_on o s (λ t. walk rules k t)
    go None i h h' = refl
    go (Some t) i h h' = i t h h'

module _ (w : Weight) (rules : List Equation) where
  pub form_is : AllDecrease w rules → (s u : Tree) → IsFormOf rules s u → normal_form w rules s ≡ u
  form_is all s u f =
      walks_meet rules _ f.steps s (normal_end w rules all s) (subst (λ z. next rules z ≡ None) (sym f.reached) f.ended) ∙ f.reached

  join_of_form : AllDecrease w rules → (s t : Tree) → HaveOneForm rules s t → Joinable rules s t
  join_of_form all s t h = record {
    meet = h.form;
    from_left = subst (Steps rules s) (form_is all s h.form h.of_left) (normal_steps w rules all s);
    from_right = subst (Steps rules t) (form_is all t h.form h.of_right) (normal_steps w rules all t);
  }

  pub pairs_join : IsConvergent w rules → PairsJoin rules
  pairs_join c o n e =
      let a = outer_part o in
      let b = inner_part o in
      let p = mgu a b n e in
      let m = partial_of p.by (limit a b) in
      let j = join_of_form c.decreasing _ _ (c.pairs o m (partial_mgu a b p)) in
      let g : (v : ℕ) → apply n (total m v) ≡ n v = λ v. ap (apply n) (total_of p.by (limit a b) (finite a b p) v) ∙ p.absorbed n e v in
      subst₂ (Joinable rules) (through (total m) n n g o.outer_rule.right) (right_through o (total m) n n g) (join_applied rules n j)

  pub convergent_local : IsConvergent w rules → IsLocallyConfluent rules
  convergent_local c = critical_pairs rules w c.decreasing c.small (pairs_join c)

  pub refuted : IsConvergent w rules → (e f : Equation) → normal_form w rules e.left ≡ normal_form w rules e.right → normal_form w rules f.left ≢ normal_form w rules f.right → Derives e f → ⊥
  refuted c e f h k d = not_derived w rules c.decreasing (convergent_local c) e f h k d

  pub refuted_within : IsConvergent w rules → (e f : Equation) → HaveOneForm rules e.left e.right → (u v : Tree) → IsFormOf rules f.left u → IsFormOf rules f.right v → u ≢ v → Derives e f → ⊥
  refuted_within c e f h u v a b differ d =
      let all = c.decreasing in
      let same : normal_form w rules e.left ≡ normal_form w rules e.right = form_is all e.left h.form h.of_left ∙ sym (form_is all e.right h.form h.of_right) in
      refuted c e f same (λ q. differ (sym (form_is all f.left u a) ∙ q ∙ form_is all f.right v b)) d
