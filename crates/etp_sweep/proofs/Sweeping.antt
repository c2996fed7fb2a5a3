-- The numbers that are kept law by law.
use Rattle.std.proofs.Common.{◌≡◌, ◌+◌, ◌^◌, ◌<◌, ◌≤◌, ◌⊎◌, inl, inr, ℕ, zero, suc, List, [], ◌∷◌, ◌++◌, length, get_or, Contains, Some, sym, ap, ◌∙◌, subst, arith, length-append}
use Rattle.std.proofs.Math.Seq.{get_or-append_seam}
use Rattle.std.proofs.Math.Nat.{pow-le-pow_left, pow-le-pow_right}
use Rattle.std.proofs.lemmas.Bool.{cases_lt}
use Rattle.std.proofs.lemmas.List.{get_or_append_left}
use Rattle.std.proofs.lemmas.List.Elements.{Contains-append_left, Contains-append_right, Contains-append_cases}
use Rattle.std.proofs.lemmas.Option.{slice_get_within}
use Rattle.std.specs.List.Sorted.{IsStrictlyIncreasing}
use Rattle.etp_theory.specs.Trees.{Equation, law_ops}
use Rattle.etp_theory.specs.LawNumbers.{law_numbered}
use Rattle.etp_laws.specs.Listing.{Listed}
use Rattle.etp_laws.proofs.Variables.{bound-few}
use Rattle.etp_table.specs.Tables.{Table}
use Rattle.etp_table.specs.Verdicts.{variables, assignments, limit}
use Rattle.etp_sweep.specs.Profiles.{LawHoldsIn, IsProfile, greatest_size}

-- up to the greatest size all assignments are looked at
power : (n m k l : ℕ) → n ≤ m → k ≤ l → 0 < m → n ^ k ≤ m ^ l
power n m k l h j some =
    let first = pow-le-pow_left h k in
    let second = pow-le-pow_right some j in
    omega (arith, first, second)

pub all_looked_at : (order : ℕ) (t : Table) (e : Equation) → (order ≡ 4) ⊎ (order ≡ 5) → Listed e → law_ops e ≤ order → t.size ≤ greatest_size order → assignments t e ≤ limit
all_looked_at order t e (inl four) listed small size =
    let few : variables e ≤ law_ops e + 2 = bound-few e listed in
    let low : t.size ≤ 16 = subst (λ k. t.size ≤ greatest_size k) four size in
    power t.size 16 (variables e) 6 low (omega arith) (omega arith)
all_looked_at order t e (inr five) listed small size =
    let few : variables e ≤ law_ops e + 2 = bound-few e listed in
    let low : t.size ≤ 10 = subst (λ k. t.size ≤ greatest_size k) five size in
    let most = power t.size 10 (variables e) 7 low (omega arith) (omega arith) in
    omega (arith, most)

-- the numbers up to n whose laws hold
pub record Swept (laws : List Equation) (t : Table) (numbers : List ℕ) (n : ℕ) : Type 0 where
  pub rising : IsStrictlyIncreasing numbers
  pub within : (i : ℕ) → i < length numbers → get_or numbers i 0 ≤ n
  pub few : length numbers ≤ n
  pub sound : (m : ℕ) → Contains numbers m → LawHoldsIn laws t m
  pub complete : (m : ℕ) → m ≤ n → LawHoldsIn laws t m → Contains numbers m

none_is_zero : (laws : List Equation) (t : Table) (m : ℕ) → m ≤ 0 → LawHoldsIn laws t m → ⊥
none_is_zero laws t zero h l = let e = l.listed in absurd (cc)
none_is_zero laws t (suc m) h l = absurd (omega arith)

pub swept_none : (laws : List Equation) (t : Table) → Swept laws t [] 0
swept_none laws t = record {
  rising = λ k h. absurd (omega arith);
  within = λ i h. absurd (omega arith);
  few = omega arith;
  sound = λ m c. absurd (let h = c.1 in omega arith);
  complete = λ m h l. absurd (none_is_zero laws t m h l);
}

pub swept_left : (laws : List Equation) (t : Table) (numbers : List ℕ) (n : ℕ) → Swept laws t numbers n → (LawHoldsIn laws t (n + 1) → ⊥) → Swept laws t numbers (n + 1)
swept_left laws t numbers n s fails = record {
  rising = s.rising;
  within = λ i h. let w = s.within i h in omega arith;
  few = let f = s.few in omega arith;
  sound = s.sound;
  complete = λ m h l. elim (cases_lt m (n + 1)) [
    | inl k ↦ s.complete m (omega arith) l
    | inr k ↦ absurd (fails (subst (LawHoldsIn laws t) (omega arith) l))
  ];
}

only_one : (n m : ℕ) → Contains (n ∷ []) m → m ≡ n
only_one n m (zero, h, e) = sym e
only_one n m (suc i, h, e) = absurd (omega arith)

module _ (numbers : List ℕ) (n : ℕ) (rising : IsStrictlyIncreasing numbers) (within : (i : ℕ) → i < length numbers → get_or numbers i 0 ≤ n) where
  longer : length (numbers ++ (n + 1) ∷ []) ≡ length numbers + 1
  longer = length-append numbers ((n + 1) ∷ [])

  last : (i : ℕ) → i ≡ length numbers → get_or (numbers ++ (n + 1) ∷ []) i 0 ≡ n + 1
  last i e = ap (λ k. get_or (numbers ++ (n + 1) ∷ []) k 0) e ∙ get_or-append_seam numbers (n + 1) [] 0

  front : (i : ℕ) → i < length numbers → get_or (numbers ++ (n + 1) ∷ []) i 0 ≡ get_or numbers i 0
  front i h = get_or_append_left numbers ((n + 1) ∷ []) 0 i h

  pub rising_more : IsStrictlyIncreasing (numbers ++ (n + 1) ∷ [])
  rising_more k h = elim (cases_lt (k + 1) (length numbers)) [
    | inl l ↦
        let a = front k (omega arith) in
        let b = front (k + 1) l in
        let c = rising k l in
        omega (arith, a, b, c)
    | inr l ↦
        let at : k + 1 ≡ length numbers = let m = longer in omega arith in
        let a = front k (omega arith) in
        let b = last (k + 1) at in
        let c = within k (omega arith) in
        omega (arith, a, b, c)
  ]

  pub within_more : (i : ℕ) → i < length (numbers ++ (n + 1) ∷ []) → get_or (numbers ++ (n + 1) ∷ []) i 0 ≤ n + 1
  within_more i h = elim (cases_lt i (length numbers)) [
    | inl l ↦ let a = front i l in let b = within i l in omega (arith, a, b)
    | inr l ↦ let m = longer in let a = last i (omega arith) in omega (arith, a)
  ]

pub swept_more : (laws : List Equation) (t : Table) (numbers : List ℕ) (n : ℕ) → Swept laws t numbers n → LawHoldsIn laws t (n + 1) → Swept laws t (numbers ++ (n + 1) ∷ []) (n + 1)
swept_more laws t numbers n s holds = record {
  rising = rising_more numbers n s.rising s.within;
  within = within_more numbers n s.rising s.within;
  few = let f = s.few in omega (arith, length-append numbers ((n + 1) ∷ []));
  sound = λ m c. elim (Contains-append_cases numbers ((n + 1) ∷ []) m c) [
    | inl k ↦ s.sound m k
    | inr k ↦ subst (LawHoldsIn laws t) (sym (only_one (n + 1) m k)) holds
  ];
  complete = λ m h l. elim (cases_lt m (n + 1)) [
    | inl k ↦ Contains-append_left numbers ((n + 1) ∷ []) m (s.complete m (omega arith) l)
    | inr k ↦ Contains-append_right numbers ((n + 1) ∷ []) m (0, omega arith, omega arith)
  ];
}

listed_within : (laws : List Equation) (m : ℕ) (e : Equation) → law_numbered laws m ≡ Some e → m ≤ length laws
listed_within laws zero e h = omega arith
listed_within laws (suc k) e h = let l = slice_get_within laws k e h in omega arith

pub swept_all : (laws : List Equation) (t : Table) (numbers : List ℕ) (n : ℕ) → n ≡ length laws → Swept laws t numbers n → IsProfile laws t numbers
swept_all laws t numbers n all s = record {
  rising = s.rising;
  exact = λ m. (s.sound m, λ l. s.complete m (let w = listed_within laws m l.law l.listed in omega arith) l);
}
