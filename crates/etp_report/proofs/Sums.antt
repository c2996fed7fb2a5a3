-- The counts of the three answers, row by row.
use Rattle.std.proofs.Common.{◌≡◌, ℕ, zero, suc, ◌+◌, ◌*◌, ◌<◌, ◌≤◌, ◌&&◌, not, Bool, true, false, if◌then◌else◌, refl, sym, ◌∙◌, arith, length, ◌^◌, zero-mul, suc-mul, mul-le-mul, ◌↔◌, IsTrue, true≢false, List}
use Rattle.etp_bits.specs.Counts.{count_below}
use Rattle.etp_bits.proofs.Counting.{count_below-same}
use Rattle.etp_theory.specs.Reach.{Fact, Reach, Covers}
use Rattle.etp_closure.specs.Closures.{Known, is_reached, is_covered, StandsFor}
use Rattle.etp_closure.specs.Answers.{answer_of, Says}
use Rattle.etp_closure.specs.declared.facts.Answer.{Answer}
use Rattle.etp_closure.specs.declared.facts.Answer.TheVariants.{Implied, Refuted, Unsettled}
use Rattle.etp_report.specs.Pairs.{is_same, how_many, sum_below, laws_answered, pairs_answered}

-- what the answer to a pair is, by both truth values
pub implied_if : (r c : Bool) → is_same (if r then Implied else (if c then Refuted else Unsettled)) Implied ≡ r
implied_if true c = refl
implied_if false true = refl
implied_if false false = refl

refuted_if : (r c : Bool) → is_same (if r then Implied else (if c then Refuted else Unsettled)) Refuted ≡ (c && not r)
refuted_if true true = refl
refuted_if true false = refl
refuted_if false true = refl
refuted_if false false = refl

-- a row of bits counts as many
counts-how_many : (p : ℕ → Bool) (n : ℕ) → count_below p n ≡ how_many p n
counts-how_many p zero = refl
counts-how_many p (suc n) = rw (counts-how_many p n) refl

pub row_implied : (known : Known) (e : ℕ) → count_below (λ place. is_reached known e (place + 1)) (length known.duals) ≡ laws_answered known Implied e
row_implied known e = count_below-same _ _ (length known.duals) (λ i h. sym (implied_if (is_reached known e (i + 1)) (is_covered known e (i + 1)))) ∙ counts-how_many _ (length known.duals)

pub row_refuted : (known : Known) (e : ℕ) → count_below (λ place. is_covered known e (place + 1) && not (is_reached known e (place + 1))) (length known.duals) ≡ laws_answered known Refuted e
row_refuted known e = count_below-same _ _ (length known.duals) (λ i h. sym (refuted_if (is_reached known e (i + 1)) (is_covered known e (i + 1)))) ∙ counts-how_many _ (length known.duals)

module _ (known : Known) (e : ℕ) where
  one_answer : (i : ℕ) → (if is_same (answer_of known e (i + 1)) Implied then 1 else 0) + (if is_same (answer_of known e (i + 1)) Refuted then 1 else 0) + (if is_same (answer_of known e (i + 1)) Unsettled then 1 else 0) ≡ 1
  one_answer i = elim (answer_of known e (i + 1)) as (λ a. (if is_same a Implied then 1 else 0) + (if is_same a Refuted then 1 else 0) + (if is_same a Unsettled then 1 else 0) ≡ 1) [ Implied ↦ refl | Refuted ↦ refl | Unsettled ↦ refl ]

  all_below : (n : ℕ) → how_many (λ i. is_same (answer_of known e (i + 1)) Implied) n + how_many (λ i. is_same (answer_of known e (i + 1)) Refuted) n + how_many (λ i. is_same (answer_of known e (i + 1)) Unsettled) n ≡ n
  all_below zero = refl
  all_below (suc n) = omega (arith, all_below n, one_answer n)

  -- each law of a row has one of the answers
  pub row_whole : laws_answered known Implied e + laws_answered known Refuted e + laws_answered known Unsettled e ≡ length known.duals
  row_whole = all_below (length known.duals)

module _ (f g h : ℕ → ℕ) (m : ℕ) (whole : (i : ℕ) → f i + g i + h i ≡ m) where
  pub sums_whole : (n : ℕ) → sum_below f n + sum_below g n + sum_below h n ≡ n * m
  sums_whole zero = rw (zero-mul m) refl
  sums_whole (suc n) = omega (arith, sums_whole n, whole n, suc-mul n m)

-- the three counts of the first rows are all pairs of these rows
pub rows_whole : (known : Known) (n : ℕ) → sum_below (λ place. laws_answered known Implied (place + 1)) n + sum_below (λ place. laws_answered known Refuted (place + 1)) n + sum_below (λ place. laws_answered known Unsettled (place + 1)) n ≡ n * length known.duals
rows_whole known = sums_whole (λ place. laws_answered known Implied (place + 1)) (λ place. laws_answered known Refuted (place + 1)) (λ place. laws_answered known Unsettled (place + 1)) (length known.duals) (λ place. row_whole known (place + 1))

square_fits : (a b : ℕ) → a < 2 ^ 32 → b < 2 ^ 32 → a * b < 2 ^ 64
square_fits a b h k =
    let h' : a ≤ 4294967295 = omega arith in
    let k' : b ≤ 4294967295 = omega arith in
    let under : a * b ≤ 4294967295 * 4294967295 = mul-le-mul h' k' in
    omega (arith, under)

module _ (known : Known) (few : length known.duals < 2 ^ 32) where
  pub pairs_fit : length known.duals * length known.duals < 2 ^ 64
  pairs_fit = square_fits (length known.duals) (length known.duals) few few

  rows_fit : (n : ℕ) → n ≤ length known.duals → n * length known.duals < 2 ^ 64
  rows_fit n h = square_fits n (length known.duals) (omega arith) few

  pub implied_fits : (n : ℕ) → n < length known.duals → sum_below (λ place. laws_answered known Implied (place + 1)) n + laws_answered known Implied (n + 1) < 2 ^ 64
  implied_fits n h = omega (arith, rows_whole known (suc n), rows_fit (suc n) (omega arith))

  pub refuted_fits : (n : ℕ) → n < length known.duals → sum_below (λ place. laws_answered known Refuted (place + 1)) n + laws_answered known Refuted (n + 1) < 2 ^ 64
  refuted_fits n h = omega (arith, rows_whole known (suc n), rows_fit (suc n) (omega arith))

pub counted : (known : Known) (answer : Answer) → sum_below (λ place. laws_answered known answer (place + 1)) (length known.duals) ≡ pairs_answered known answer
unfolding pairs_answered
counted known answer = refl

-- the answer to a pair says what it does over each list of facts for which the closure stands
says_by : (known : Known) (facts : List Fact) (e f : ℕ) (r c : Bool) → (IsTrue r ↔ Reach known.duals facts e f) → (IsTrue c ↔ Covers known.duals facts e f) → Says known.duals facts e f (if r then Implied else (if c then Refuted else Unsettled))
says_by known facts e f true c reached covered = reached.0 refl
says_by known facts e f false true reached covered = (λ r. absurd (true≢false (sym (reached.1 r))), covered.0 refl)
says_by known facts e f false false reached covered = (λ r. absurd (true≢false (sym (reached.1 r))), λ v. absurd (true≢false (sym (covered.1 v))))

pub says : (known : Known) (facts : List Fact) → StandsFor known facts → (e f : ℕ) → Says known.duals facts e f (answer_of known e f)
says known facts stands e f = says_by known facts e f (is_reached known e f) (is_covered known e f) (stands.reached e f) (stands.covered e f)
