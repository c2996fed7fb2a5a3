-- One thing fails first, in one way, and none does where all have one form.
use Rattle.std.proofs.Common.{◌≡◌, ◌≢◌, ℕ, ◌≤◌, List, Some, sym, ap, ◌∙◌, subst, subst₂}
use Rattle.std.proofs.lemmas.Option.{same_Some}
use Rattle.etp_theory.specs.Trees.{Tree, Equation, bound}
use Rattle.etp_theory.specs.LawNumbers.{law_numbered}
use Rattle.etp_theory.specs.Weights.{AllDecrease}
use Rattle.etp_theory.specs.Forms.{IsFormOf}
use Rattle.etp_theory.specs.FailingOverlaps.{Finding, two_forms, term_limit, step_limit, IsFinding}
use Rattle.etp_theory.proofs.Ends.{one_form, not_both, one_finding}
use Rattle.etp_term.specs.Terms.{tree_of}
use Rattle.etp_term.specs.Positions.{position_of}
use Rattle.etp_term.specs.declared.position.Side.{Side}
use Rattle.etp_pairs.specs.Refusals.{IsFirstAt, IsRefused}
use Rattle.etp_pairs.specs.declared.refusal.PairsRefusal.{PairsRefusal}
use Rattle.etp_pairs.specs.declared.refusal.PairsRefusal.TheVariants as Refusal
use Rattle.etp_pairs.proofs.Terms.{term_of, stands_for}
use Rattle.etp_pairs.proofs.Forms.{form_small}
use Rattle.etp_pairs.proofs.Unique.{passes, one_refusal}
use Rattle.etp_canonical.specs.Judgements.{LawHolds, IsFoundOf, IsFormOfBoth}
use Rattle.etp_complete.specs.Completions.{Problem, weight_of, FailsFirst, IsComplete}
use Rattle.etp_complete.specs.declared.answer.Origin.{Origin}
use Rattle.etp_complete.specs.declared.answer.Origin.TheVariants.{Law, Pair}

-- what is found of the law of a number

module _ (laws rules : List Equation) (n : ℕ) where
  found_there : (law : Equation) (f : Finding) → law_numbered laws n ≡ Some law → IsFoundOf laws rules n f → IsFinding rules law.left law.right f
  found_there law f listed h = subst (λ (e : Equation). IsFinding rules e.left e.right f) (same_Some h.law law (sym h.listed ∙ listed)) h.found

  pub one_found : (f g : Finding) → IsFoundOf laws rules n f → IsFoundOf laws rules n g → f ≡ g
  one_found f g h k = one_finding rules k.law.left k.law.right f g (found_there k.law f k.listed h) k.found

  pub held_or_found : (f : Finding) → LawHolds laws rules n → IsFoundOf laws rules n f → ⊥
  held_or_found f h k = not_both rules h.law.left h.law.right f h.holds (found_there h.law f h.listed k)

  pub form_or_found : (u : Tree) (f : Finding) → IsFormOfBoth laws rules n u → IsFoundOf laws rules n f → ⊥
  form_or_found u f h k = held_or_found f (record { law = h.law; listed = h.listed; holds = record { form = u; of_left = h.of_left; of_right = h.of_right } }) k

  pub one_form_of : (u v : Tree) → IsFormOfBoth laws rules n u → IsFormOfBoth laws rules n v → u ≡ v
  one_form_of u v h k =
      let same = same_Some h.law k.law (sym h.listed ∙ k.listed) in
      one_form rules k.law.left u v (subst (λ (e : Equation). IsFormOf rules e.left u) same h.of_left) k.of_left

-- the refusal that says what is found of an overlap

abbrev refusal_of : ℕ → List Side → ℕ → Finding → PairsRefusal
refusal_of i p j (two_forms u v) = Refusal.Unjoinable i p j (term_of u) (term_of v)
refusal_of i p j term_limit = Refusal.TermLimit i p j
refusal_of i p j step_limit = Refusal.StepLimit i p j

no_want : (i : ℕ) (p : List Side) (j : ℕ) (f : Finding) → refusal_of i p j f ≢ Refusal.NoMemory
no_want i p j (two_forms u v) e = absurd (cc)
no_want i p j term_limit e = absurd (cc)
no_want i p j step_limit e = absurd (cc)

pub record AreSame (o x : Origin) (f g : Finding) : Type 0 where
  pub origins : o ≡ x
  pub findings : f ≡ g

pair_same : (i k : ℕ) (p q : List Side) (j l : ℕ) → i ≡ k → p ≡ q → j ≡ l → Pair i p j ≡ Pair k q l
pair_same i k p q j l a b c = λ n. Pair (a n) (b n) (c n)

terms_same : (u v : Tree) → term_of u ≡ term_of v → u ≡ v
terms_same u v e = sym (stands_for u) ∙ ap tree_of e ∙ stands_for v

told : (i k : ℕ) (p q : List Side) (j l : ℕ) (f g : Finding) → refusal_of i p j f ≡ refusal_of k q l g → AreSame (Pair i p j) (Pair k q l) f g
told i k p q j l (two_forms u v) (two_forms x y) e =
    let a : i ≡ k = cc in
    let b : p ≡ q = cc in
    let c : j ≡ l = cc in
    let lefts : term_of u ≡ term_of x = cc in
    let rights : term_of v ≡ term_of y = cc in
    let left_same = terms_same u x lefts in
    let right_same = terms_same v y rights in
    record { origins = pair_same i k p q j l a b c; findings = λ n. two_forms (left_same n) (right_same n) }
told i k p q j l (two_forms u v) term_limit e = absurd (cc)
told i k p q j l (two_forms u v) step_limit e = absurd (cc)
told i k p q j l term_limit (two_forms x y) e = absurd (cc)
told i k p q j l term_limit term_limit e =
    let a : i ≡ k = cc in
    let b : p ≡ q = cc in
    let c : j ≡ l = cc in
    record { origins = pair_same i k p q j l a b c; findings = λ n. term_limit }
told i k p q j l term_limit step_limit e = absurd (cc)
told i k p q j l step_limit (two_forms x y) e = absurd (cc)
told i k p q j l step_limit term_limit e = absurd (cc)
told i k p q j l step_limit step_limit e =
    let a : i ≡ k = cc in
    let b : p ≡ q = cc in
    let c : j ≡ l = cc in
    record { origins = pair_same i k p q j l a b c; findings = λ n. step_limit }

module _ (p : Problem) (rules : List Equation) (all : AllDecrease (weight_of p) rules) where
  refused : (i : ℕ) (q : List Side) (j : ℕ) (f : Finding) → IsFirstAt rules i (position_of q) j f → IsRefused rules (refusal_of i q j f)
  refused i q j (two_forms u v) h = (
    subst₂ (λ s t. IsFirstAt rules i (position_of q) j (two_forms s t)) (sym (stands_for u)) (sym (stands_for v)) h,
    subst (λ t. bound t ≤ 64) (sym (stands_for u)) (form_small (weight_of p) rules all 64 h.left u h.first.fails.found.0 h.results.left_small),
    subst (λ t. bound t ≤ 64) (sym (stands_for v)) (form_small (weight_of p) rules all 64 h.right v h.first.fails.found.1 h.results.right_small),
  )
  refused i q j term_limit h = h
  refused i q j step_limit h = h

  pub one_failing : (o x : Origin) (f g : Finding) → FailsFirst p rules o f → FailsFirst p rules x g → AreSame o x f g
  one_failing (Law n) (Law m) f g h k =
      let numbers : n ≡ m = h.0 ∙ sym k.0 in
      record { origins = ap Law numbers; findings = one_found p.laws rules p.from f g h.1 k.1 }
  one_failing (Law n) (Pair i q j) f g h k = absurd (held_or_found p.laws rules p.from f k.0 h.1)
  one_failing (Pair i q j) (Law n) f g h k = absurd (held_or_found p.laws rules p.from g h.0 k.1)
  one_failing (Pair i q j) (Pair k s l) f g h x =
      told i k q s j l f g
      (one_refusal (weight_of p) rules all (refusal_of i q j f) (refusal_of k s l g) (refused i q j f h.1) (refused k s l g x.1)
      (no_want i q j f) (no_want k s l g))

  pub complete_or_fails : (o : Origin) (f : Finding) → IsComplete p rules → FailsFirst p rules o f → ⊥
  complete_or_fails (Law n) f h k = held_or_found p.laws rules p.from f h.holds k.1
  complete_or_fails (Pair i q j) f h k = no_want i q j f (passes (weight_of p) rules (refusal_of i q j f) h.convergent (refused i q j f k.1))
