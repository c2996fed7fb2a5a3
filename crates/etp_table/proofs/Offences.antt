-- Laws are judged right or there is a first offence, and it is the only one.
use Rattle.std.proofs.Common.{◌≡◌, ℕ, ◌<◌, ◌≤◌, ◌⊎◌, inl, inr, All, List, Some, slice_get, sym, ◌∙◌, ap, subst, arith}
use Rattle.std.proofs.lemmas.Bool.{cases_order}
use Rattle.std.proofs.lemmas.Option.{same_Some}
use Rattle.etp_laws.proofs.NumberLists.{at_place, before_place}
use Rattle.etp_theory.specs.Trees.{Equation}
use Rattle.etp_theory.specs.LawNumbers.{law_numbered}
use Rattle.etp_table.specs.Tables.{Table}
use Rattle.etp_table.specs.Points.{values_of}
use Rattle.etp_table.specs.Verdicts.{assignments, limit, AgreesBefore, IsFirstFailure}
use Rattle.etp_table.specs.Judgements.{LawHolds, LawFails, IsJudged, IsHoldsRefused, IsFailsRefused, IsFirstRefused, IsFirstOffence}
use Rattle.etp_table.specs.declared.refusal.TableRefusal.{TableRefusal}
use Rattle.etp_table.specs.declared.refusal.TableRefusal.TheVariants.{TooManyAssignments, HoldsFails, FailsHolds, Entry, NoMemory}
use Rattle.etp_table.proofs.Failures.{agree_not, agrees_or_fails, one_failure}

held : (laws : List Equation) (t : Table) (n : ℕ) (e : Equation) (r : TableRefusal) → law_numbered laws n ≡ Some e → LawHolds laws t n → IsHoldsRefused t n e r → ⊥
held laws t n e (TooManyAssignments law size k) s h q =
    let same : h.law ≡ e = let l = h.listed in cc in
    let few = subst (λ (p : Equation). assignments t p ≤ limit) same h.few in
    let many = q.3 in
    omega (arith, few, many)
held laws t n e (HoldsFails law point left right) s h q =
    let same : e ≡ h.law = let l = h.listed in cc in
    let f = subst (λ (p : Equation). IsFirstFailure t p point left right) same q.2 in
    agree_not t h.law point left right f (h.holds (values_of point) f.assignment)
held laws t n e (Entry row column value) s h q = q
held laws t n e (FailsHolds law looked_at) s h q = q
held laws t n e NoMemory s h q = q

failed : (laws : List Equation) (t : Table) (n : ℕ) (e : Equation) (r : TableRefusal) → law_numbered laws n ≡ Some e → LawFails laws t n → IsFailsRefused t n e r → ⊥
failed laws t n e (FailsHolds law looked_at) s h q =
    let same : e ≡ h.law = let l = h.listed in cc in
    agrees_or_fails t h.law h.point h.left h.right (subst (λ (p : Equation). AgreesBefore t p limit) same q.2) h.first
failed laws t n e (TooManyAssignments law size k) s h q = q
failed laws t n e (HoldsFails law point left right) s h q = q
failed laws t n e (Entry row column value) s h q = q
failed laws t n e NoMemory s h q = q

one_held_refusal : (t : Table) (n : ℕ) (e : Equation) (r s : TableRefusal) → IsHoldsRefused t n e r → IsHoldsRefused t n e s → r ≡ s
one_held_refusal t n e (TooManyAssignments law size k) (TooManyAssignments other width m) p q =
    let a : law ≡ other = p.0 ∙ sym q.0 in
    let b : size ≡ width = p.1 ∙ sym q.1 in
    let c : k ≡ m = p.2 ∙ sym q.2 in
    cc
one_held_refusal t n e (TooManyAssignments law size k) (HoldsFails other point left right) p q = absurd (omega (arith, p.3, q.1))
one_held_refusal t n e (HoldsFails law point left right) (TooManyAssignments other size k) p q = absurd (omega (arith, p.1, q.3))
one_held_refusal t n e (HoldsFails law point left right) (HoldsFails other at x y) p q =
    let a : law ≡ other = p.0 ∙ sym q.0 in
    let one = one_failure t e point at left right x y p.2 q.2 in
    let b : point ≡ at = one.0 in
    let c : left ≡ x = one.1 in
    let d : right ≡ y = one.2 in
    cc
one_held_refusal t n e (TooManyAssignments law size k) (Entry row column value) p q = absurd q
one_held_refusal t n e (TooManyAssignments law size k) (FailsHolds other looked_at) p q = absurd q
one_held_refusal t n e (TooManyAssignments law size k) NoMemory p q = absurd q
one_held_refusal t n e (HoldsFails law point left right) (Entry row column value) p q = absurd q
one_held_refusal t n e (HoldsFails law point left right) (FailsHolds other looked_at) p q = absurd q
one_held_refusal t n e (HoldsFails law point left right) NoMemory p q = absurd q
one_held_refusal t n e (Entry row column value) s p q = absurd p
one_held_refusal t n e (FailsHolds law looked_at) s p q = absurd p
one_held_refusal t n e NoMemory s p q = absurd p

one_failed_refusal : (t : Table) (n : ℕ) (e : Equation) (r s : TableRefusal) → IsFailsRefused t n e r → IsFailsRefused t n e s → r ≡ s
one_failed_refusal t n e (FailsHolds law looked_at) (FailsHolds other count) p q =
    let a : law ≡ other = p.0 ∙ sym q.0 in
    let b : looked_at ≡ count = p.1 ∙ sym q.1 in
    cc
one_failed_refusal t n e (FailsHolds law looked_at) (Entry row column value) p q = absurd q
one_failed_refusal t n e (FailsHolds law looked_at) (HoldsFails other point left right) p q = absurd q
one_failed_refusal t n e (FailsHolds law looked_at) (TooManyAssignments other size k) p q = absurd q
one_failed_refusal t n e (FailsHolds law looked_at) NoMemory p q = absurd q
one_failed_refusal t n e (Entry row column value) s p q = absurd p
one_failed_refusal t n e (HoldsFails law point left right) s p q = absurd p
one_failed_refusal t n e (TooManyAssignments law size k) s p q = absurd p
one_failed_refusal t n e NoMemory s p q = absurd p

-- where no law is both right and refused, and none refused in two ways
module _ (laws : List Equation) (IsRight : ℕ → Type 0) (Refused : TableRefusal → ℕ → Equation → Type 0) (not_both : (n : ℕ) (e : Equation) (r : TableRefusal) → law_numbered laws n ≡ Some e → IsRight n → Refused r n e → ⊥) (one_way : (n : ℕ) (e : Equation) (r s : TableRefusal) → Refused r n e → Refused s n e → r ≡ s) (numbers : List ℕ) where
  right_or_refused : (r : TableRefusal) → All IsRight numbers → IsFirstRefused laws IsRight (Refused r) numbers → ⊥
  right_or_refused r all o = not_both o.number o.law r o.listed (at_place IsRight numbers o.place o.number o.stands all) o.refused

  not_before : (r s : TableRefusal) (o : IsFirstRefused laws IsRight (Refused r) numbers) (p : IsFirstRefused laws IsRight (Refused s) numbers) → o.place < p.place → ⊥
  not_before r s o p l =
      not_both o.number o.law r o.listed (before_place IsRight numbers o.place p.place o.number l o.stands p.before) o.refused

  one_refused : (r s : TableRefusal) → IsFirstRefused laws IsRight (Refused r) numbers → IsFirstRefused laws IsRight (Refused s) numbers → r ≡ s
  one_refused r s o p = one (cases_order o.place p.place)
    where
      one : (o.place ≡ p.place) ⊎ ((o.place < p.place) ⊎ (p.place < o.place)) → r ≡ s
      one (inl k) =
          let number : p.number ≡ o.number = same_Some p.number o.number (sym p.stands ∙ ap (slice_get numbers) (sym k) ∙ o.stands) in
          let law : p.law ≡ o.law = same_Some p.law o.law (sym p.listed ∙ ap (law_numbered laws) number ∙ o.listed) in
          let here = subst (λ (m : ℕ). Refused s m p.law) number p.refused in
          one_way o.number o.law r s o.refused (subst (λ (e : Equation). Refused s o.number e) law here)
      one (inr (inl k)) = absurd (not_before r s o p k)
      one (inr (inr k)) = absurd (not_before s r p o k)

module _ (laws : List Equation) (t : Table) where
  holding_or_refused : (holds : List ℕ) (r : TableRefusal) → All (LawHolds laws t) holds → IsFirstRefused laws (LawHolds laws t) (λ n e. IsHoldsRefused t n e r) holds → ⊥
  holding_or_refused holds =
      right_or_refused laws (LawHolds laws t) (λ r n e. IsHoldsRefused t n e r) (held laws t) (one_held_refusal t) holds

  failing_or_refused : (fails : List ℕ) (r : TableRefusal) → All (LawFails laws t) fails → IsFirstRefused laws (LawFails laws t) (λ n e. IsFailsRefused t n e r) fails → ⊥
  failing_or_refused fails =
      right_or_refused laws (LawFails laws t) (λ r n e. IsFailsRefused t n e r) (failed laws t) (one_failed_refusal t) fails

  pub judged_or_refused : (holds fails : List ℕ) (r : TableRefusal) → IsJudged laws t holds fails → IsFirstOffence laws t holds fails r → ⊥
  judged_or_refused holds fails r j (inl o) = holding_or_refused holds r j.holding o
  judged_or_refused holds fails r j (inr p) = failing_or_refused fails r j.failing p.1

  pub one_offence : (holds fails : List ℕ) (r s : TableRefusal) → IsFirstOffence laws t holds fails r → IsFirstOffence laws t holds fails s → r ≡ s
  one_offence holds fails r s (inl o) (inl p) =
      one_refused laws (LawHolds laws t) (λ r n e. IsHoldsRefused t n e r) (held laws t) (one_held_refusal t) holds r s o p
  one_offence holds fails r s (inl o) (inr p) = absurd (holding_or_refused holds r p.0 o)
  one_offence holds fails r s (inr o) (inl p) = absurd (holding_or_refused holds s o.0 p)
  one_offence holds fails r s (inr o) (inr p) =
      one_refused laws (LawFails laws t) (λ r n e. IsFailsRefused t n e r) (failed laws t) (one_failed_refusal t) fails r s o.1 p.1
