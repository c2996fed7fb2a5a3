-- A substitution that another one undoes changes no walk but by itself.
use Rattle.std.proofs.Common.{◌≡◌, ℕ, zero, suc, ◌≤◌, inl, inr, cond, List, [], ◌∷◌, Option, Some, None, slice_get, refl, sym, ap, ap₂, ◌∙◌, subst, subst₂, arith}
use Rattle.etp_theory.specs.Trees.{Tree, var, op, leaves, Occurs, Equation}
use Rattle.etp_theory.specs.Substitutions.{apply, then_apply, Partial, total, raise}
use Rattle.etp_theory.specs.Positions.{put_at}
use Rattle.etp_theory.specs.Rewriting.{Step, at_root, in_left, in_right}
use Rattle.etp_theory.specs.Weights.{Weight, AllDecrease}
use Rattle.etp_theory.specs.Strategy.{same, first_some, within, matcher, try_rule, try_rules, next, go_on, walk}
use Rattle.etp_theory.specs.Overlaps.{Overlap, outer_part, inner_part, left_result, right_result}
use Rattle.etp_theory.specs.Unifiers.{IsMostGeneralPartial}
use Rattle.etp_theory.specs.Forms.{IsFormOf, HaveOneForm, HasForm, PassesTermLimit, PassesStepLimit}
use Rattle.etp_theory.specs.FailingOverlaps.{Finding, two_forms, term_limit, step_limit, IsFinding, finding_under}
use Rattle.etp_theory.proofs.Trees.{composed, sub_at_applied, put_at_applied}
use Rattle.etp_theory.proofs.Matching.{apply_agree, agree_of_apply, rule_some, rule_none, matcher_found, next_some}
use Rattle.etp_theory.proofs.Overlaps.{kept_variables}
use Rattle.etp_theory.proofs.Unifiers.{through}

abbrev pub IsUndone : (ℕ → Tree) → (ℕ → Tree) → Tree → Type 0
IsUndone k j t = apply j (apply k t) ≡ t

abbrev pub IsKept : Equation → Type 0
IsKept e = (v : ℕ) → Occurs v e.right → Occurs v e.left

op_left_eq : {a b c d : Tree} → op a b ≡ op c d → a ≡ c
op_left_eq e = cc

op_right_eq : {a b c d : Tree} → op a b ≡ op c d → b ≡ d
op_right_eq e = cc

-- a rule that matches gives what any matching substitution gives
rule_is : (e : Equation) → IsKept e → (t : Tree) (n : ℕ → Tree) → t ≡ apply n e.left → try_rule e t ≡ Some (apply n e.right)
rule_is e kept t n h =
    let b = rule_none e t n h in
    let q : apply (matcher e.left t) e.left ≡ apply n e.left = subst (λ x. apply (matcher e.left x) e.left ≡ apply n e.left) (sym h) (matcher_found n e.left) in
    let r = agree_of_apply (matcher e.left t) n e.left q in
    ap (λ c. cond c (Some (apply (matcher e.left t) e.right)) None) b ∙ ap Some (apply_agree (matcher e.left t) n e.right (λ v o. r v (kept v o)))

rule_undone : (e : Equation) → IsKept e → (k j : ℕ → Tree) (t : Tree) → IsUndone k j t → try_rule e (apply k t) ≡ within (apply k) (try_rule e t)
rule_undone e kept k j t u = go (try_rule e t) refl (try_rule e (apply k t)) refl
  where
    go : (a : Option Tree) → try_rule e t ≡ a → (b : Option Tree) → try_rule e (apply k t) ≡ b → b ≡ within (apply k) a
    go (Some x) h b h' =
        let r = rule_some e t x (same (apply (matcher e.left t) e.left) t) refl h in
        let n = matcher e.left t in
        let q = rule_is e kept (apply k t) (then_apply n k) (ap (apply k) r.0 ∙ composed n k e.left) in
        sym h' ∙ q ∙ ap Some (sym (composed n k e.right) ∙ ap (apply k) (sym r.1))
    go None h None h' = refl
    go None h (Some y) h' =
        let r = rule_some e (apply k t) y (same (apply (matcher e.left (apply k t)) e.left) (apply k t)) refl h' in
        let n = matcher e.left (apply k t) in
        let q = rule_is e kept t (then_apply n j) (sym u ∙ ap (apply j) r.0 ∙ composed n j e.left) in
        absurd (let z : None ≡ Some (apply (then_apply n j) e.right) = sym h ∙ q in cc)

first_within : (f : Tree → Tree) (a b : Option Tree) → first_some (within f a) (within f b) ≡ within f (first_some a b)
first_within f None b = refl
first_within f (Some x) b = refl

left_within : (k : ℕ → Tree) (r : Tree) (a : Option Tree) → within (λ x. op x (apply k r)) (within (apply k) a) ≡ within (apply k) (within (λ x. op x r) a)
left_within k r None = refl
left_within k r (Some x) = refl

right_within : (k : ℕ → Tree) (l : Tree) (a : Option Tree) → within (λ x. op (apply k l) x) (within (apply k) a) ≡ within (apply k) (within (λ x. op l x) a)
right_within k l None = refl
right_within k l (Some x) = refl

rules_undone : (rules : List Equation) → ((i : ℕ) (e : Equation) → slice_get rules i ≡ Some e → IsKept e) → (k j : ℕ → Tree) (t : Tree) → IsUndone k j t → try_rules rules (apply k t) ≡ within (apply k) (try_rules rules t)
rules_undone [] kept k j t u = refl
rules_undone (e ∷ rest) kept k j t u =
    ap₂ first_some (rule_undone e (kept zero e refl) k j t u) (rules_undone rest (λ i. kept (suc i)) k j t u)
    ∙ first_within (apply k) (try_rule e t) (try_rules rest t)

-- a value that is undone to a variable is one
undone_var : (j : ℕ → Tree) (v : ℕ) (t : Tree) → apply j t ≡ var v → (y : ℕ) × (t ≡ var y)
undone_var j v (var y) h = (y, refl)
undone_var j v (op a b) h = absurd (cc)

module _ (rules : List Equation) (kept : (i : ℕ) (e : Equation) → slice_get rules i ≡ Some e → IsKept e) (k j : ℕ → Tree) where
  next_var : (v y : ℕ) → k v ≡ var y → IsUndone k j (var v) → next rules (k v) ≡ within (apply k) (next rules (var v))
  next_var v y q u = ap (next rules) q ∙ ap (try_rules rules) (sym q) ∙ rules_undone rules kept k j (var v) u

  next_undone : (t : Tree) → IsUndone k j t → next rules (apply k t) ≡ within (apply k) (next rules t)
  next_undone (var v) u = let r = undone_var j v (k v) u in next_var v r.0 r.1 u
  next_undone (op l r) u =
      ap₂ first_some
      (ap (within (λ x. op x (apply k r))) (next_undone l (op_left_eq u)) ∙ left_within k r (next rules l))
      (ap₂ first_some (ap (within (λ x. op (apply k l) x)) (next_undone r (op_right_eq u)) ∙ right_within k l (next rules r)) (rules_undone rules kept k j (op l r) u)
      ∙ first_within (apply k) (within (λ x. op l x) (next rules r)) (try_rules rules (op l r)))
      ∙ first_within (apply k) (within (λ x. op x r) (next rules l)) (first_some (within (λ x. op l x) (next rules r)) (try_rules rules (op l r)))

  root_undone : (e : Equation) → IsKept e → (n : ℕ → Tree) → IsUndone k j (apply n e.left) → IsUndone k j (apply n e.right)
  root_undone e h n u =
      let three : (t : Tree) → apply j (apply k (apply n t)) ≡ apply (then_apply (then_apply n k) j) t = λ t. ap (apply j) (composed n k t) ∙ composed (then_apply n k) j t in
      let r = agree_of_apply (then_apply (then_apply n k) j) n e.left (sym (three e.left) ∙ u) in
      three e.right ∙ apply_agree (then_apply (then_apply n k) j) n e.right (λ v o. r v (h v o))

  step_undone : {t u : Tree} → Step rules t u → IsUndone k j t → IsUndone k j u
  step_undone (at_root i e n g h h') q = subst (IsUndone k j) (sym h') (root_undone e (kept i e g) n (subst (IsUndone k j) h q))
  step_undone (in_left c d) q = ap₂ op (step_undone d (op_left_eq q)) (op_right_eq q)
  step_undone (in_right c d) q = ap₂ op (op_left_eq q) (step_undone d (op_right_eq q))

  walk_undone : (n : ℕ) (t : Tree) → IsUndone k j t → (walk rules n (apply k t) ≡ apply k (walk rules n t)) × IsUndone k j (walk rules n t)
  walk_undone zero t u = (refl, u)
  walk_undone (suc n) t u =
      let r = go (next rules t) refl (walk_undone n) in
      (ap (λ o. go_on o (apply k t) (λ x. walk rules n x)) (next_undone t u) ∙ r.0, r.1)
    where
      go : (o : Option Tree) → next rules t ≡ o → ((x : Tree) → IsUndone k j x → (walk rules n (apply k x) ≡ apply k (walk rules n x)) × IsUndone k j (walk rules n x)) →
          (go_on (within (apply k) o) (apply k t) (λ x. walk rules n x) ≡ apply k (go_on o t (λ x. walk rules n x))) × IsUndone k j (go_on o t (λ x. walk rules n x))
      go None h i = (refl, u)
      go (Some x) h i = i x (step_undone (next_some rules t x h) u)

  leaves_grow : (m : ℕ → Tree) (t : Tree) → leaves t ≤ leaves (apply m t)
  leaves_grow m (var v) = leaves_pos (m v)
    where
      leaves_pos : (t : Tree) → 1 ≤ leaves t
      leaves_pos (var v) = omega arith
      leaves_pos (op a b) = omega (arith, leaves_pos a)
  leaves_grow m (op a b) = omega (arith, leaves_grow m a, leaves_grow m b)

  leaves_undone : (t : Tree) → IsUndone k j t → leaves (apply k t) ≤ leaves t
  leaves_undone t u = omega (arith, leaves_grow j (apply k t), ap leaves u)

  form_undone : (s u : Tree) → IsUndone k j s → IsFormOf rules s u → IsFormOf rules (apply k s) (apply k u)
  form_undone s u q f =
      let r = walk_undone f.steps s q in
      let qu : IsUndone k j u = subst (IsUndone k j) f.reached r.1 in
      record {
        steps = f.steps;
        few = f.few;
        reached = r.0 ∙ ap (apply k) f.reached;
        ended = next_undone u qu ∙ ap (within (apply k)) f.ended;
        narrow = λ n. let x = walk_undone n s q in omega (arith, ap leaves x.0, leaves_undone (walk rules n s) x.1, f.narrow n);
      }

  forms_undone : (s t : Tree) → IsUndone k j s → IsUndone k j t → HaveOneForm rules s t → HaveOneForm rules (apply k s) (apply k t)
  forms_undone s t qs qt h = record { form = apply k h.form; of_left = form_undone s h.form qs h.of_left; of_right = form_undone t h.form qt h.of_right }

  same_leaves : (t : Tree) → IsUndone k j t → leaves (apply k t) ≡ leaves t
  same_leaves t u = omega (arith, leaves_grow k t, leaves_undone t u)

  has_form_undone : (s : Tree) → IsUndone k j s → HasForm rules s → HasForm rules (apply k s)
  has_form_undone s u f = (apply k f.0, form_undone s f.0 u f.1)

  wide_undone : (s : Tree) → IsUndone k j s → PassesTermLimit rules s → PassesTermLimit rules (apply k s)
  wide_undone s u p =
      let r = walk_undone p.steps s u in
      record { steps = p.steps; few = p.few; wide = omega (arith, ap leaves r.0, same_leaves (walk rules p.steps s) r.1, p.wide) }

  none_within : (o : Option Tree) → within (apply k) o ≡ None → o ≡ None
  none_within None h = refl
  none_within (Some t) h = absurd (cc)

  going_undone : (s : Tree) → IsUndone k j s → PassesStepLimit rules s → PassesStepLimit rules (apply k s)
  going_undone s u p =
      let r = walk_undone p.steps s u in
      record {
        steps = p.steps;
        all = p.all;
        narrow = λ n h. let x = walk_undone n s u in omega (arith, ap leaves x.0, same_leaves (walk rules n s) x.1, p.narrow n h);
        going = λ h. p.going (none_within (next rules (walk rules p.steps s)) (sym (next_undone (walk rules p.steps s) r.1) ∙ ap (next rules) (sym r.0) ∙ h));
      }

  form_is_undone : (s u : Tree) → IsUndone k j s → IsFormOf rules s u → IsUndone k j u
  form_is_undone s u q f = subst (IsUndone k j) f.reached (walk_undone f.steps s q).1

  pub finding_undone : (s t : Tree) (f : Finding) → IsUndone k j s → IsUndone k j t → IsFinding rules s t f → IsFinding rules (apply k s) (apply k t) (finding_under k f)
  finding_undone s t (two_forms u v) qs qt h =
      (form_undone s u qs h.0, form_undone t v qt h.1, λ e. h.2 (sym (form_is_undone s u qs h.0) ∙ ap (apply j) e ∙ form_is_undone t v qt h.1))
  finding_undone s t term_limit qs qt (inl p) = inl (wide_undone s qs p)
  finding_undone s t term_limit qs qt (inr p) = inr (has_form_undone s qs p.0, wide_undone t qt p.1)
  finding_undone s t step_limit qs qt (inl p) = inl (going_undone s qs p)
  finding_undone s t step_limit qs qt (inr p) = inr (has_form_undone s qs p.0, going_undone t qt p.1)

-- decreasing rules have no new variables
pub all_kept : (w : Weight) (rules : List Equation) → AllDecrease w rules → (i : ℕ) (e : Equation) → slice_get rules i ≡ Some e → IsKept e
all_kept w rules all i e q = kept_variables w e all.left_counts all.right_counts (all.each i e q)

-- the right result where one unifier factors through another
pub right_through : {rules : List Equation} (o : Overlap rules) (m k n : ℕ → Tree) → ((v : ℕ) → apply k (m v) ≡ n v) → apply k (right_result o m) ≡ right_result o n
right_through o m k n h =
    put_at_applied o.position k (apply m o.outer_rule.left) _ (apply m (raise o.inner_rule.right)) (sub_at_applied o.position m o.outer_rule.left _ o.part)
    ∙ ap₂ (put_at o.position) (through m k n h o.outer_rule.left) (through m k n h (raise o.inner_rule.right))

-- two unifiers that factor through each other agree
pub both_ways : (w : Weight) (rules : List Equation) → AllDecrease w rules → (o : Overlap rules) (m m' k j : ℕ → Tree) → ((v : ℕ) → apply k (m v) ≡ m' v) → ((v : ℕ) → apply j (m' v) ≡ m v) →
    HaveOneForm rules (left_result o m) (right_result o m) → HaveOneForm rules (left_result o m') (right_result o m')
both_ways w rules all o m m' k j forth back h =
    let l = through m k m' forth o.outer_rule.right in
    let r = right_through o m k m' forth in
    subst₂ (HaveOneForm rules) l r
    (forms_undone rules (all_kept w rules all) k j (left_result o m) (right_result o m) (ap (apply j) l ∙ through m' j m back o.outer_rule.right) (ap (apply j) r ∙ right_through o m' j m back) h)

-- two most general unifiers of one overlap agree
pub unifiers_agree : (w : Weight) (rules : List Equation) → AllDecrease w rules → (o : Overlap rules) (m m' : Partial) → IsMostGeneralPartial m (outer_part o) (inner_part o) → IsMostGeneralPartial m' (outer_part o) (inner_part o) →
    HaveOneForm rules (left_result o (total m)) (right_result o (total m)) → HaveOneForm rules (left_result o (total m')) (right_result o (total m'))
unifiers_agree w rules all o m m' g g' h =
    let f = g.factors m' g'.unifies in
    let b = g'.factors m g.unifies in
    both_ways w rules all o (total m) (total m') (total f.0) (total b.0) f.1 b.1 h
