-- A backward step, and the associative law as a convergent rule.
use Rattle.std.proofs.Common.{◌≡◌, ℕ, zero, suc, ◌≤◌, Bool, true, false, cond, eqb, eqb-true, List, [], ◌∷◌, Some, slice_get, refl, sym, ap, ◌∙◌, subst, arith}
use Rattle.etp_theory.specs.Trees.{Tree, var, op, leaves, bound, Equation}
use Rattle.etp_theory.specs.Substitutions.{apply}
use Rattle.etp_theory.specs.Positions.{Side, to_left, to_right, sub_at}
use Rattle.etp_theory.specs.Rewriting.{at_root, Convertible, here, forth, back}
use Rattle.etp_theory.specs.Weights.{IsDecreasing, AllDecrease}
use Rattle.etp_theory.specs.Strategy.{walk}
use Rattle.etp_theory.specs.Forms.{HaveOneForm}
use Rattle.etp_theory.specs.Unifiers.{IsMostGeneral}
use Rattle.etp_theory.specs.Overlaps.{Overlap, outer_part, inner_part, HasSmallVariables, IsConvergent, PairPasses}
use Rattle.etp_theory.specs.FailingOverlaps.{IsCriticalPair}
use Rattle.etp_theory.specs.Examples.{left_projection}
use Rattle.etp_theory.specs.RuleExamples.{associative, left_weight, idempotent_at}
use Rattle.etp_theory.proofs.Passing.{convergent_of, form_of_walk}
use Rattle.etp_theory.proofs.Failing.{alike, passes_alike, one_pair_tells}

-- x ◇ y and x ◇ z both step to x
pub backward : Convertible (left_projection ∷ []) (op (var 0) (var 1)) (op (var 0) (var 2))
backward = forth (at_root 0 left_projection var refl refl refl) (back (at_root 0 left_projection (λ v. cond (eqb v 1) (var 2) (var v)) refl refl refl) (here (op (var 0) (var 2))))

abbrev system : List Equation
system = associative ∷ []

listed : (i : ℕ) (e : Equation) → slice_get system i ≡ Some e → (i ≡ 0) × (associative ≡ e)
listed zero e h = (refl, cc)
listed (suc i) e h = absurd (cc)

falls : IsDecreasing left_weight associative
falls = record { coefficients = λ x. omega arith; constants = omega arith }

all_decrease : AllDecrease left_weight system
all_decrease = record { left_counts = omega arith; right_counts = omega arith; each = λ i e h. subst (IsDecreasing left_weight) (listed i e h).1 falls }

small : HasSmallVariables system
small i e h = subst (λ (r : Equation). (bound r.left ≤ 64) × (bound r.right ≤ 64)) (listed i e h).1 (omega arith, omega arith)

-- the one overlap, in the left part

not_root : ◌≡◌ {A = List Side} (to_left ∷ []) [] → ◌≡◌ {A = ℕ} 0 0 → ⊥
not_root h e = absurd (cc)

abbrev own_overlap : Overlap system
own_overlap = record {
  outer = 0;
  inner = 0;
  outer_rule = associative;
  inner_rule = associative;
  position = to_left ∷ [];
  part_left = var 0;
  part_right = var 1;
  outer_listed = refl;
  inner_listed = refl;
  part = refl;
  apart = not_root;
}

root_or_left : (p : List Side) (x y : Tree) → sub_at p associative.left ≡ Some (op x y) → (p ≡ [] → ⊥) → p ≡ to_left ∷ []
root_or_left [] x y h k = absurd (k refl)
root_or_left (to_left ∷ []) x y h k = refl
root_or_left (to_left ∷ (to_left ∷ [])) x y h k = absurd (cc)
root_or_left (to_left ∷ (to_left ∷ (to_left ∷ p))) x y h k = absurd (cc)
root_or_left (to_left ∷ (to_left ∷ (to_right ∷ p))) x y h k = absurd (cc)
root_or_left (to_left ∷ (to_right ∷ [])) x y h k = absurd (cc)
root_or_left (to_left ∷ (to_right ∷ (to_left ∷ p))) x y h k = absurd (cc)
root_or_left (to_left ∷ (to_right ∷ (to_right ∷ p))) x y h k = absurd (cc)
root_or_left (to_right ∷ []) x y h k = absurd (cc)
root_or_left (to_right ∷ (to_left ∷ p)) x y h k = absurd (cc)
root_or_left (to_right ∷ (to_right ∷ p)) x y h k = absurd (cc)

-- x ◇ y against (x' ◇ y') ◇ z'
abbrev unifier : ℕ → Tree
unifier v = cond (eqb v 0) (op (var 64) (var 65)) (cond (eqb v 1) (var 66) (var v))

module _ (n : ℕ → Tree) (e : apply n (op (var 0) (var 1)) ≡ apply n (op (op (var 64) (var 65)) (var 66))) where
  first : op (n 64) (n 65) ≡ n 0
  first = cc

  second : n 66 ≡ n 1
  second = cc

  factored : (v : ℕ) → apply n (unifier v) ≡ n v
  factored v = at_0 (eqb v 0) refl
    where
      at_1 : (b : Bool) → eqb v 1 ≡ b → apply n (cond b (var 66) (var v)) ≡ n v
      at_1 true q = second ∙ ap n (sym (eqb-true v 1 q))
      at_1 false q = refl

      at_0 : (b : Bool) → eqb v 0 ≡ b → apply n (cond b (op (var 64) (var 65)) (cond (eqb v 1) (var 66) (var v))) ≡ n v
      at_0 true q = first ∙ ap n (sym (eqb-true v 0 q))
      at_0 false q = at_1 (eqb v 1) refl

general : IsMostGeneral unifier (outer_part own_overlap) (inner_part own_overlap)
general = record { unifies = refl; factors = λ n e. (n, factored n e) }

-- (x ◇ y) ◇ (z ◇ u) and (x ◇ (y ◇ z)) ◇ u have the form x ◇ (y ◇ (z ◇ u))

abbrev left_term : Tree
left_term = op (op (var 64) (var 65)) (op (var 66) (var 2))

abbrev right_term : Tree
right_term = op (op (var 64) (op (var 65) (var 66))) (var 2)

pair : IsCriticalPair own_overlap left_term right_term
pair = record { unifier = unifier; general = general; left = refl; right = refl }

left_narrow : (k : ℕ) → k ≤ 1 → leaves (walk system k left_term) ≤ 512
left_narrow zero h = omega arith
left_narrow (suc zero) h = omega arith
left_narrow (suc (suc k)) h = absurd (omega (arith, h))

right_narrow : (k : ℕ) → k ≤ 2 → leaves (walk system k right_term) ≤ 512
right_narrow zero h = omega arith
right_narrow (suc zero) h = omega arith
right_narrow (suc (suc zero)) h = omega arith
right_narrow (suc (suc (suc k))) h = absurd (omega (arith, h))

one_form : HaveOneForm system left_term right_term
one_form = record {
  form = op (var 64) (op (var 65) (op (var 66) (var 2)));
  of_left = form_of_walk system 1 left_term (omega arith) refl left_narrow;
  of_right = form_of_walk system 2 right_term (omega arith) refl right_narrow;
}

passes : (o : Overlap system) → PairPasses system o
passes o =
    let a = listed o.outer o.outer_rule o.outer_listed in
    let b = listed o.inner o.inner_rule o.inner_listed in
    let h = subst (λ (e : Equation). sub_at o.position e.left ≡ Some (op o.part_left o.part_right)) (sym a.1) o.part in
    let p = root_or_left o.position o.part_left o.part_right h (λ q. o.apart q (a.0 ∙ sym b.0)) in
    passes_alike system own_overlap o (alike system own_overlap o (sym a.0) (sym p) (sym b.0)) ((one_pair_tells system left_weight all_decrease own_overlap left_term right_term pair).1 one_form)

pub associative_convergent : IsConvergent left_weight system
associative_convergent = convergent_of left_weight system all_decrease small passes

-- variables of rules

pub variable_63 : HasSmallVariables (idempotent_at 63 ∷ [])
variable_63 zero e h = subst (λ (r : Equation). (bound r.left ≤ 64) × (bound r.right ≤ 64)) (let q : idempotent_at 63 ≡ e = cc in q) (omega arith, omega arith)
variable_63 (suc i) e h = absurd (cc)

pub no_variable_64 : HasSmallVariables (idempotent_at 64 ∷ []) → ⊥
no_variable_64 h = omega (arith, (h 0 (idempotent_at 64) refl).1)
