-- What a valid body says is right where what it cites is.
use Rattle.std.proofs.Common.{◌≡◌, ℕ, zero, suc, List, Contains, Option, Some, None, IsSome, is_some, unwrap_or, true≢false, refl, length, map, slice_get, sym, ap, subst, ◌∙◌, arith, Result, OnOk}
use Rattle.std.specs.Option.{option_map}
use Rattle.std.proofs.lemmas.List.Elements.{All-contains, All-weaker}
use Rattle.std.proofs.lemmas.Result.{on_ok_weaker}
use Rattle.std.proofs.lemmas.Option.{slice_get-map, slice_get_within, get_or_from_slice_get}
use Rattle.etp_theory.specs.Trees.{Equation}
use Rattle.etp_theory.specs.Derivations.{Derives}
use Rattle.etp_theory.specs.Proofs.{AllDerived}
use Rattle.etp_theory.specs.LawNumbers.{IsLaw, law_numbered}
use Rattle.etp_theory.specs.RightFacts.{Implies}
use Rattle.etp_theory.proofs.Theorems.{proof_theorems}
use Rattle.etp_laws.specs.Listing.{reflexive_law}
use Rattle.etp_laws.proofs.Entries.{entry_zero}
use Rattle.etp_replay.specs.Validity.{law_at}
use Rattle.etp_replay.proofs.Goals.{listed_law}
use Rattle.etp_table.proofs.Tables as Tables
use Rattle.etp_linear.proofs.Judged as Linears
use Rattle.etp_matrix.proofs.Judged as Matrices
use Rattle.etp_canonical.proofs.Found as Systems
use Rattle.etp_items.specs.Bodies.{FileBody, table, linear, matrix, rules, proof, model}
use Rattle.etp_check.specs.Checks.{fact_said, IsListedBody, HasContent, AreCitedNumbers, IsRightBody, IsValidBody, SaysRight, HasLaws}

same_some : (p q : Equation) → Some p ≡ Some q → p ≡ q
same_some p q e = cc

module _ (laws : List Equation) (hypothesis : ℕ) (cited : List ℕ) (listed : IsSome (law_numbered laws hypothesis))
    (right : (n : ℕ) → Contains cited n → Implies laws hypothesis n) where
  -- the law of a cited number is derived
  one_derived : (n : ℕ) → Contains cited n → Derives (law_at laws hypothesis) (law_at laws n)
  one_derived n there =
      let i = right n there in
      let from = same_some i.hypothesis (law_at laws hypothesis) (sym i.hypothesis_listed ∙ listed_law laws hypothesis listed) in
      let to : i.goal ≡ law_at laws n = sym (ap (λ o. unwrap_or o reflexive_law) (i.goal_listed)) in
      subst (λ (p : Equation). Derives p (law_at laws n)) from (subst (Derives i.hypothesis) to i.derived)

  all_derived : AllDerived (law_at laws hypothesis) (map (law_at laws) cited)
  all_derived k e h = by (slice_get cited k) refl
    where
      by : (o : Option ℕ) → slice_get cited k ≡ o → Derives (law_at laws hypothesis) e
      by None none = let bad : None ≡ Some e = sym (ap (option_map (law_at laws)) none) ∙ sym (slice_get-map (law_at laws) cited k) ∙ h in cc
      by (Some n) some =
          let is = same_some (law_at laws n) e (sym (ap (option_map (law_at laws)) some) ∙ sym (slice_get-map (law_at laws) cited k) ∙ h) in
          subst (Derives (law_at laws hypothesis)) is (one_derived n (k, slice_get_within cited k n some, get_or_from_slice_get cited k n n some))

-- a valid body says what is right, where its cited numbers are implied by its hypothesis
pub right_fact : (laws : List Equation) (body : FileBody) (cited : List ℕ) → IsValidBody laws body cited → SaysRight laws body cited
right_fact laws (proof p) cited valid implied = record {
  hypothesis = law_at laws p.hypothesis;
  goal = law_at laws p.goal;
  hypothesis_listed = listed_law laws p.hypothesis valid.listed.hypothesis_listed;
  goal_listed = listed_law laws p.goal valid.listed.goal_listed;
  derived =
      let right = λ (n : ℕ) (there : Contains cited n). All-contains (Implies laws p.hypothesis) cited n implied there in
      proof_theorems.proved (law_at laws p.hypothesis) (law_at laws p.goal) (map (law_at laws) cited) p.lemmas (all_derived laws p.hypothesis cited valid.listed.hypothesis_listed right) valid.right;
}
right_fact laws (model (table size entries) claims) cited valid implied =
    Tables.right_fact laws (record { size = size; entries = entries }) claims.holds claims.fails valid.right.0 valid.right.1
right_fact laws (model (linear l) claims) cited valid implied = Linears.right_fact laws l valid.right.0 claims.holds claims.fails valid.right.1
right_fact laws (model (matrix g) claims) cited valid implied = Matrices.right_fact laws g valid.right.0 claims.holds claims.fails valid.right.1
right_fact laws (model (rules w rs) claims) cited valid implied =
    Systems.right_fact laws rs w claims.holds claims.fails valid.right.1 valid.right.0.convergent

pub says_right : {T E : Type 0} (r : Result T E) (laws : List Equation) (body : FileBody) (cited : List ℕ) → IsListedBody laws body → HasContent body → AreCitedNumbers laws body cited → OnOk r (IsRightBody laws body cited) → OnOk r (SaysRight laws body cited)
says_right r laws body cited listed content numbers right =
    on_ok_weaker r (λ right. right_fact laws body cited (record { listed = listed; content = content; numbers = numbers; right = right })) right

-- a listed number is one of the list's laws
listed_number : (laws : List Equation) (n : ℕ) → IsSome (law_numbered laws n) → IsLaw (length laws) n
listed_number laws zero h = absurd (true≢false (sym h ∙ ap is_some (entry_zero laws 0 refl)))
listed_number laws (suc k) h =
    let there : slice_get laws k ≡ Some (law_at laws (suc k)) = listed_law laws (suc k) h in
    let within = slice_get_within laws k (law_at laws (suc k)) there in
    record { from_one = omega arith; to_last = omega arith }

pub listed_fact : (laws : List Equation) (body : FileBody) → IsListedBody laws body → HasLaws (length laws) (fact_said body)
listed_fact laws (proof p) listed = (listed_number laws p.hypothesis listed.hypothesis_listed, listed_number laws p.goal listed.goal_listed)
listed_fact laws (model m claims) listed = (
  All-weaker (λ n. IsSome (law_numbered laws n)) (IsLaw (length laws)) (listed_number laws) claims.holds listed.holds_listed,
  All-weaker (λ n. IsSome (law_numbered laws n)) (IsLaw (length laws)) (listed_number laws) claims.fails listed.fails_listed,
)
