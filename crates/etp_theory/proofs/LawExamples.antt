-- Proofs of laws and facts about laws.
use Rattle.std.proofs.Common.{◌≡◌, ℕ, zero, suc, ◌+◌, ◌≤◌, ◌⊎◌, inl, inr, false, [], ◌∷◌, Contains, Some, refl, sym, ap, subst, subst₂, arith}
use Rattle.etp_theory.specs.Trees.{var, op, Equation, law_dual, law_renamed, exchanged}
use Rattle.etp_theory.specs.Positions.{to_right}
use Rattle.etp_theory.specs.Sameness.{Same}
use Rattle.etp_theory.specs.Derivations.{Derives, by_law}
use Rattle.etp_theory.specs.Proofs.{IsRightStep, IsStepBy, IsValidProof}
use Rattle.etp_theory.specs.Reach.{Fact, implies, refutes}
use Rattle.etp_theory.specs.LawNumbers.{law_numbered, dual_number, IsLaw, IsOwnInverse}
use Rattle.etp_theory.specs.RightFacts.{Refutes, IsRightFact, AreDualNumbers, AreRightFacts}
use Rattle.etp_theory.specs.Examples.{square, idempotent, left_projection, right_projection, plain_weight}
use Rattle.etp_theory.specs.LawExamples.{turned_projection, squared, square_lemma, squared_lemma, citing_lemma, three_laws}
use Rattle.etp_theory.proofs.Sameness.{reflexive as same_refl, swap, swap_injective}
use Rattle.etp_theory.proofs.Convergent.{refuted}
use Rattle.etp_theory.proofs.Examples.{system, convergent, not_derived}

pub same_exchanged : Same left_projection turned_projection
same_exchanged = (λ v. v + 3, λ x y h. omega (arith, h), inr refl)

-- proofs

square_step : IsRightStep left_projection [] [] square (record { to = var 0; line = 0; cited = false; reversed = false; position = [] })
square_step = record {
  equation = left_projection;
  named = refl;
  right = record { by = λ v. var 0; before = refl; after = refl; outside = λ u. refl };
}

squared_step : IsStepBy (exchanged idempotent) (to_right ∷ []) squared.left squared.right
squared_step = record { by = λ v. var 1; before = refl; after = refl; outside = λ u. refl }

pub by_lemma : IsValidProof left_projection squared [] (square_lemma ∷ squared_lemma ∷ [])
by_lemma = record {
  right = ((square_step, tt), ((record { equation = idempotent; named = refl; right = squared_step }, tt), tt));
  final = squared_lemma;
  last = refl;
  reached = same_refl squared;
}

pub by_cite : IsValidProof left_projection squared (idempotent ∷ []) (citing_lemma ∷ [])
by_cite = record {
  right = ((record { equation = idempotent; named = refl; right = squared_step }, tt), tt);
  final = citing_lemma;
  last = refl;
  reached = same_refl squared;
}

-- dual numbers

dual_of : (p q : Equation) → Same (law_dual p) q → (n : ℕ) → law_numbered three_laws n ≡ Some q → (p' : Equation) → p ≡ p' → (q' : Equation) × (law_numbered three_laws n ≡ Some q') × Same (law_dual p') q'
dual_of p q s n h p' e = subst (λ (x : Equation). (q' : Equation) × (law_numbered three_laws n ≡ Some q') × Same (law_dual x) q') e (q, h, s)

pub dual_numbers : AreDualNumbers three_laws (2 ∷ 1 ∷ 3 ∷ [])
dual_numbers zero p h = absurd (cc)
dual_numbers (suc zero) p h = dual_of left_projection right_projection (swap 0 1, swap_injective 0 1, inl refl) 2 refl p (cc)
dual_numbers (suc (suc zero)) p h = dual_of right_projection left_projection (swap 0 1, swap_injective 0 1, inl refl) 1 refl p (cc)
dual_numbers (suc (suc (suc zero))) p h = dual_of idempotent idempotent (same_refl idempotent) 3 refl p (cc)
dual_numbers (suc (suc (suc (suc n)))) p h = absurd (cc)

not_self_dual : Same (law_dual left_projection) left_projection → ⊥
not_self_dual s = go s.2
  where
    go : (law_renamed s.0 (law_dual left_projection) ≡ left_projection) ⊎ (law_renamed s.0 (law_dual left_projection) ≡ exchanged left_projection) → ⊥
    go (inl e) =
        let a : op (var (s.0 1)) (var (s.0 0)) ≡ op (var 0) (var 1) = ap (λ (z : Equation). z.left) e in
        let b : var (s.0 0) ≡ var 0 = ap (λ (z : Equation). z.right) e in
        let c : s.0 0 ≡ 1 = cc in
        let d : s.0 0 ≡ 0 = cc in
        omega (arith, c, d)
    go (inr e) = let h : op (var (s.0 1)) (var (s.0 0)) ≡ var 0 = ap (λ (z : Equation). z.left) e in cc

pub not_dual_numbers : AreDualNumbers three_laws (1 ∷ 2 ∷ 3 ∷ []) → ⊥
not_dual_numbers h =
    let x = h 1 left_projection refl in
    let e : left_projection ≡ x.0 = let f : Some left_projection ≡ Some x.0 = x.1 in cc in
    not_self_dual (subst (Same (law_dual left_projection)) (sym e) x.2)

-- facts

by_projection : Derives left_projection idempotent
by_projection = by_law (λ v. var 0)

not_right : Derives idempotent right_projection → ⊥
not_right = refuted plain_weight system convergent idempotent right_projection refl (λ h. cc)

right_implication : IsRightFact three_laws (implies 1 3)
right_implication = record { hypothesis = left_projection; goal = idempotent; hypothesis_listed = refl; goal_listed = refl; derived = by_projection }

only_one : (a x : ℕ) → Contains (a ∷ []) x → a ≡ x
only_one a x (zero, l, h) = h
only_one a x (suc k, l, h) = absurd (omega (arith, l))

one_of_two : (a b x : ℕ) → Contains (a ∷ b ∷ []) x → (a ≡ x) ⊎ (b ≡ x)
one_of_two a b x (zero, l, h) = inl h
one_of_two a b x (suc zero, l, h) = inr h
one_of_two a b x (suc (suc k), l, h) = absurd (omega (arith, l))

pub right_refutation : IsRightFact three_laws (refutes (3 ∷ []) (1 ∷ 2 ∷ []))
right_refutation e f h k = go (one_of_two 1 2 f k)
  where
    go : (1 ≡ f) ⊎ (2 ≡ f) → Refutes three_laws e f
    go (inl q) = subst₂ (Refutes three_laws) (only_one 3 e h) q (record { holding = idempotent; failing = left_projection; holding_listed = refl; failing_listed = refl; apart = not_derived })
    go (inr q) = subst₂ (Refutes three_laws) (only_one 3 e h) q (record { holding = idempotent; failing = right_projection; holding_listed = refl; failing_listed = refl; apart = not_right })

pub right_facts : AreRightFacts three_laws (2 ∷ 1 ∷ 3 ∷ []) (implies 1 3 ∷ refutes (3 ∷ []) (1 ∷ 2 ∷ []) ∷ [])
right_facts = record { dual_numbers = dual_numbers; each = each }
  where
    each : (x : Fact) → Contains (implies 1 3 ∷ refutes (3 ∷ []) (1 ∷ 2 ∷ []) ∷ []) x → IsRightFact three_laws x
    each x (zero, l, h) = subst (IsRightFact three_laws) h right_implication
    each x (suc zero, l, h) = subst (IsRightFact three_laws) h right_refutation
    each x (suc (suc k), l, h) = absurd (omega (arith, l))

pub wrong_implication : IsRightFact three_laws (implies 3 1) → ⊥
wrong_implication h =
    let a : idempotent ≡ h.hypothesis = let q : Some idempotent ≡ Some h.hypothesis = h.hypothesis_listed in cc in
    let b : left_projection ≡ h.goal = let q : Some left_projection ≡ Some h.goal = h.goal_listed in cc in
    not_derived (subst₂ Derives (sym a) (sym b) h.derived)

pub wrong_refutation : IsRightFact three_laws (refutes (1 ∷ []) (3 ∷ [])) → ⊥
wrong_refutation h =
    let r = h 1 3 (0, omega arith, refl) (0, omega arith, refl) in
    let a : left_projection ≡ r.holding = let q : Some left_projection ≡ Some r.holding = r.holding_listed in cc in
    let b : idempotent ≡ r.failing = let q : Some idempotent ≡ Some r.failing = r.failing_listed in cc in
    r.apart (subst₂ Derives a b by_projection)

-- numbers of laws

pub law_between : (n : ℕ) → 1 ≤ n → n ≤ 3 → IsLaw 3 n
law_between n h k = record { from_one = h; to_last = k }

pub no_law_zero : IsLaw 3 0 → ⊥
no_law_zero h = omega (arith, h.from_one)

pub no_law_four : IsLaw 3 4 → ⊥
no_law_four h = omega (arith, h.to_last)

own_within : (n : ℕ) → IsLaw 3 n → IsLaw 3 (dual_number (2 ∷ 1 ∷ 3 ∷ []) n)
own_within zero h = absurd (no_law_zero h)
own_within (suc zero) h = record { from_one = omega arith; to_last = omega arith }
own_within (suc (suc zero)) h = record { from_one = omega arith; to_last = omega arith }
own_within (suc (suc (suc zero))) h = record { from_one = omega arith; to_last = omega arith }
own_within (suc (suc (suc (suc n)))) h = absurd (omega (arith, h.to_last))

own_twice : (n : ℕ) → IsLaw 3 n → dual_number (2 ∷ 1 ∷ 3 ∷ []) (dual_number (2 ∷ 1 ∷ 3 ∷ []) n) ≡ n
own_twice zero h = absurd (no_law_zero h)
own_twice (suc zero) h = refl
own_twice (suc (suc zero)) h = refl
own_twice (suc (suc (suc zero))) h = refl
own_twice (suc (suc (suc (suc n)))) h = absurd (omega (arith, h.to_last))

pub own_inverse : IsOwnInverse (2 ∷ 1 ∷ 3 ∷ [])
own_inverse = record { within = own_within; twice = own_twice }

pub not_inverse : IsOwnInverse (2 ∷ 3 ∷ 1 ∷ []) → ⊥
not_inverse h = let e : ◌≡◌ {A = ℕ} 3 1 = h.twice 1 (law_between 1 (omega arith) (omega arith)) in omega (arith, e)

pub not_within : IsOwnInverse (2 ∷ []) → ⊥
not_within h = let e : 2 ≤ 1 = (h.within 1 (record { from_one = omega arith; to_last = omega arith })).to_last in omega (arith, e)
