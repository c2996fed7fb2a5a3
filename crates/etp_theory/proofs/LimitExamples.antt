-- Walks at the limits.
use Rattle.std.proofs.Common.{◌≡◌, ◌≢◌, ℕ, zero, suc, ◌+◌, ◌^◌, ◌≤◌, inl, inr, List, [], ◌∷◌, Option, Some, None, refl, sym, subst, arith}
use Rattle.etp_theory.specs.Trees.{Tree, var, op, leaves, Equation}
use Rattle.etp_theory.specs.Strategy.{first_some, within, next, walk}
use Rattle.etp_theory.specs.Forms.{IsFormOf, HasForm, PassesTermLimit, PassesStepLimit}
use Rattle.etp_theory.specs.FailingOverlaps.{term_limit, step_limit, IsFinding}
use Rattle.etp_theory.specs.Examples.{product}
use Rattle.etp_theory.specs.LimitExamples.{commutative, full, too_wide}
use Rattle.etp_theory.proofs.Convergent.{walk_stays}
use Rattle.etp_theory.proofs.Ends.{form_or_wide, form_or_going, wide_or_going}

-- wide terms

doubled : (k : ℕ) → 2 ^ (suc k) ≡ 2 ^ k + 2 ^ k
doubled k = omega arith

leaves_of_full : (k : ℕ) → leaves (full k) ≡ 2 ^ k
unfolding full
leaves_of_full zero = refl
leaves_of_full (suc k) = omega (arith, leaves_of_full k, doubled k)

pub full_leaves : leaves (full 9) ≡ 512
full_leaves = leaves_of_full 9

pub wide_leaves : leaves too_wide ≡ 513
unfolding too_wide
wide_leaves = omega (arith, full_leaves)

full_stays : (k : ℕ) → next [] (full k) ≡ None
unfolding full
full_stays zero = refl
full_stays (suc k) = go (next [] (full k)) (full_stays k)
  where
    go : (o : Option Tree) → o ≡ None → first_some (within (λ x. op x (full k)) o) (first_some (within (λ x. op (full k) x) o) None) ≡ None
    go None h = refl
    go (Some x) h = absurd (cc)

pub widest_form : IsFormOf [] (full 9) (full 9)
widest_form = record {
  steps = 0;
  few = omega arith;
  reached = refl;
  ended = full_stays 9;
  narrow = λ k. subst (λ s. leaves s ≤ 512) (sym (walk_stays [] k (full 9) (full_stays 9))) (omega (arith, full_leaves));
}

pub passes_wide : (rules : List Equation) → PassesTermLimit rules too_wide
passes_wide rules = record { steps = 0; few = omega arith; wide = omega (arith, wide_leaves) }

pub no_wide_form : HasForm [] too_wide → ⊥
no_wide_form h = form_or_wide [] too_wide h (passes_wide [])

-- a walk without an end

abbrev system : List Equation
system = commutative ∷ []

abbrev turned : Tree
turned = op (var 1) (var 0)

two_leaves : (n : ℕ) → (leaves (walk system n product) ≡ 2) × (leaves (walk system n turned) ≡ 2)
two_leaves zero = (refl, refl)
two_leaves (suc n) = let h = two_leaves n in (h.1, h.0)

goes_on : (n : ℕ) → (next system (walk system n product) ≢ None) × (next system (walk system n turned) ≢ None)
goes_on zero = (λ h. cc, λ h. cc)
goes_on (suc n) = let h = goes_on n in (h.1, h.0)

endless_at : (n : ℕ) → n ≡ 100000 → (h : PassesStepLimit system product) × (h.steps ≡ 100000)
endless_at n e = (
  record {
    steps = n;
    all = e;
    narrow = λ k l. omega (arith, (two_leaves k).0);
    going = (goes_on n).0;
  },
  e,
)

pub endless : (h : PassesStepLimit system product) × (h.steps ≡ 100000)
endless = endless_at 100000 refl

-- the left term's limit is found

pub left_endless_only : IsFinding system product too_wide term_limit → ⊥
left_endless_only (inl p) = wide_or_going system product p endless.0
left_endless_only (inr p) = form_or_going system product p.0 endless.0

pub left_wide_only : IsFinding system too_wide product step_limit → ⊥
left_wide_only (inl p) = wide_or_going system too_wide (passes_wide system) p
left_wide_only (inr p) = form_or_wide system too_wide p.0 (passes_wide system)
