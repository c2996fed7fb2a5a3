-- The strategy's step with its rule and its position is the strategy's step.
use Rattle.std.proofs.Common.{◌≡◌, ℕ, suc, ◌+◌, List, [], ◌∷◌, Option, Some, None, slice_get, refl, sym, ap, ap₂, ◌∙◌, subst, arith}
use Rattle.std.proofs.lemmas.Option.{same_Some}
use Rattle.etp_theory.specs.Trees.{Tree, var, op, Equation}
use Rattle.etp_theory.specs.Substitutions.{apply}
use Rattle.etp_theory.specs.Positions.{Side, to_left, to_right, sub_at, put_at}
use Rattle.etp_theory.specs.Rewriting.{StepAt}
use Rattle.etp_theory.specs.Strategy.{same, first_some, within, matcher, try_rule, try_rules, next, Fired, fired_root, fired_inside, fired}
use Rattle.etp_theory.proofs.Matching.{rule_some}

abbrev pub result : Option Fired → Option Tree
result o = within (λ (x : Fired). x.to) o

result_first : (a b : Option Fired) → result (first_some a b) ≡ first_some (result a) (result b)
result_first None b = refl
result_first (Some x) b = refl

result_rule : (n : ℕ) (o : Option Tree) → result (within (λ x. record { number = n; position = []; to = x }) o) ≡ o
result_rule n None = refl
result_rule n (Some x) = refl

result_inside : (d : Side) (f : Tree → Tree) (o : Option Fired) → result (within (fired_inside d f) o) ≡ within f (result o)
result_inside d f None = refl
result_inside d f (Some x) = refl

root_result : (n : ℕ) (rules : List Equation) (t : Tree) → result (fired_root n rules t) ≡ try_rules rules t
root_result n [] t = refl
root_result n (e ∷ rest) t =
    result_first (within (λ x. record { number = n; position = []; to = x }) (try_rule e t)) (fired_root (suc n) rest t)
    ∙ ap₂ first_some (result_rule n (try_rule e t)) (root_result (suc n) rest t)

pub fired_next : (rules : List Equation) (s : Tree) → result (fired rules s) ≡ next rules s
fired_next rules (var v) = root_result 0 rules (var v)
fired_next rules (op l r) =
    let a = within (fired_inside to_left (λ x. op x r)) (fired rules l) in
    let b = within (fired_inside to_right (λ x. op l x)) (fired rules r) in
    let c = fired_root 0 rules (op l r) in
    result_first a (first_some b c)
    ∙ ap₂ first_some (result_inside to_left (λ x. op x r) (fired rules l) ∙ ap (within (λ x. op x r)) (fired_next rules l))
    (result_first b c ∙ ap₂ first_some (result_inside to_right (λ x. op l x) (fired rules r) ∙ ap (within (λ x. op l x)) (fired_next rules r)) (root_result 0 rules (op l r)))

-- what is known of a step that was fired
pub record FiredAt (rules : List Equation) (s : Tree) (x : Fired) : Type 0 where
  pub rule : Equation
  pub by : ℕ → Tree
  pub listed : slice_get rules x.number ≡ Some rule
  pub here : sub_at x.position s ≡ Some (apply by rule.left)
  pub there : x.to ≡ put_at x.position s (apply by rule.right)

-- rules that follow the first `n` of all
abbrev pub Following : ℕ → List Equation → List Equation → Type 0
Following n all rest = (i : ℕ) → slice_get rest i ≡ slice_get all (n + i)

following_rest : (n : ℕ) (all : List Equation) (e : Equation) (rest : List Equation) → Following n all (e ∷ rest) → Following (suc n) all rest
following_rest n all e rest h i = h (suc i) ∙ ap (slice_get all) (let q : n + suc i ≡ suc n + i = omega arith in q)

root_at : (all : List Equation) (n : ℕ) (rest : List Equation) → Following n all rest → (t : Tree) (x : Fired) → fired_root n rest t ≡ Some x → FiredAt all t x
root_at all n [] f t x h = absurd (cc)
root_at all n (e ∷ rest) f t x h = go (try_rule e t) refl h (root_at all (suc n) rest (following_rest n all e rest f) t x)
  where
    go : (o : Option Tree) → try_rule e t ≡ o → first_some (within (λ y. record { number = n; position = []; to = y }) o) (fired_root (suc n) rest t) ≡ Some x → (fired_root (suc n) rest t ≡ Some x → FiredAt all t x) → FiredAt all t x
    go None q k later = later k
    go (Some y) q k later =
        let r = rule_some e t y (same (apply (matcher e.left t) e.left) t) refl q in
        let listed : slice_get all n ≡ Some e = ap (slice_get all) (let z : n ≡ n + 0 = omega arith in z) ∙ sym (f 0) in
        subst (FiredAt all t) (same_Some _ _ k) (record { rule = e; by = matcher e.left t; listed = listed; here = ap Some r.0; there = r.1 })

fired_facts : (rules : List Equation) (s : Tree) (x : Fired) → fired rules s ≡ Some x → FiredAt rules s x
fired_facts rules (var v) x h = root_at rules 0 rules (λ i. ap (slice_get rules) (let q : i ≡ 0 + i = omega arith in q)) (var v) x h
fired_facts rules (op l r) x h = go (fired rules l) refl (fired rules r) refl h (fired_facts rules l) (fired_facts rules r)
  where
    go : (a : Option Fired) → fired rules l ≡ a → (b : Option Fired) → fired rules r ≡ b →
        first_some (within (fired_inside to_left (λ z. op z r)) a) (first_some (within (fired_inside to_right (λ z. op l z)) b) (fired_root 0 rules (op l r))) ≡ Some x →
        ((y : Fired) → fired rules l ≡ Some y → FiredAt rules l y) → ((y : Fired) → fired rules r ≡ Some y → FiredAt rules r y) → FiredAt rules (op l r) x
    go (Some y) q b p k f g =
        let u = f y q in
        subst (FiredAt rules (op l r)) (same_Some _ _ k) (record { rule = u.rule; by = u.by; listed = u.listed; here = u.here; there = ap (λ z. op z r) u.there })
    go None q (Some y) p k f g =
        let u = g y p in
        subst (FiredAt rules (op l r)) (same_Some _ _ k) (record { rule = u.rule; by = u.by; listed = u.listed; here = u.here; there = ap (λ z. op l z) u.there })
    go None q None p k f g = root_at rules 0 rules (λ i. ap (slice_get rules) (let z : i ≡ 0 + i = omega arith in z)) (op l r) x k

pub fired_at : (rules : List Equation) (s : Tree) (x : Fired) → fired rules s ≡ Some x → (h : StepAt rules s x.to) × (h.number ≡ x.number) × (h.position ≡ x.position)
fired_at rules s x h =
    let u = fired_facts rules s x h in
    (record { position = x.position; number = x.number; rule = u.rule; by = u.by; listed = u.listed; here = u.here; there = u.there }, refl, refl)
