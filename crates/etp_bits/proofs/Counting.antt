-- Lemmas of counts of the numbers below a bound.
use Rattle.std.proofs.Common.{◌≡◌, ℕ, zero, suc, ◌+◌, ◌-◌, ◌*◌, ◌/◌, ◌%◌, ◌^◌, ◌<◌, ◌≤◌, Bool, true, false, if◌then◌else◌, nat_eq, refl, sym, ap, ◌∙◌, arith, add-zero, add-suc, ◌≢◌}
use Rattle.std.specs.Prelude.{count_ones}
use Rattle.std.specs.Int.{bit_at}
use Rattle.std.proofs.lemmas.Nat.{ones_cat, div-add-mod', pow_pos, mod_below, div_below, ones_le_self, zero_from_ones}
use Rattle.std.proofs.lemmas.Nat.Bits.{bit_at_cat_low, bit_at_cat_high, bit_at_lowest}
use Rattle.std.proofs.Math.Nat.{pow-suc}
use Rattle.etp_bits.specs.Counts.{count_below}

-- the first numbers, and then the next ones
pub count_below-add : (p : ℕ → Bool) (a b : ℕ) → count_below p (a + b) ≡ count_below p a + count_below (λ i. p (a + i)) b
count_below-add p a zero = rw add-zero (sym (add-zero (count_below p a)))
count_below-add p a (suc b) =
    let rest = count_below-add p a b in
    let next : count_below p (a + suc b) ≡ count_below p (a + b) + (if p (a + b) then 1 else 0) = ap (count_below p) (add-suc a b) in
    omega (arith, rest, next)

-- tests that agree below the bound
pub count_below-same : (p q : ℕ → Bool) (n : ℕ) → ((i : ℕ) → i < n → p i ≡ q i) → count_below p n ≡ count_below q n
count_below-same p q zero agree = refl
count_below-same p q (suc n) agree =
    let rest = count_below-same p q n (λ i h. agree i (omega arith)) in
    let last = agree n (omega arith) in
    rw (rest, last)

pub count_below-none : (p : ℕ → Bool) (n : ℕ) → ((i : ℕ) → i < n → p i ≡ false) → count_below p n ≡ 0
count_below-none p zero off = refl
count_below-none p (suc n) off =
    let rest = count_below-none p n (λ i h. off i (omega arith)) in
    let last = off n (omega arith) in
    rw (rest, last)

pub count_below_le : (p : ℕ → Bool) (n : ℕ) → count_below p n ≤ n
count_below_le p zero = omega arith
count_below_le p (suc n) =
    let rest = count_below_le p n in
    elim (p n) as (λ b. count_below p n + (if b then 1 else 0) ≤ suc n) [ true ↦ omega (arith, rest) | false ↦ omega (arith, rest) ]

-- nothing passes from the bound on
pub count_below-past : (p : ℕ → Bool) (n m : ℕ) → n ≤ m → ((i : ℕ) → n ≤ i → i < m → p i ≡ false) → count_below p m ≡ count_below p n
count_below-past p n m h off =
    let sum : m ≡ n + (m - n) = omega arith in
    let whole = ap (count_below p) sum ∙ count_below-add p n (m - n) in
    let rest = count_below-none (λ i. p (n + i)) (m - n) (λ i k. off (n + i) (omega arith) (omega arith)) in
    omega (arith, whole, rest)

small : (n : ℕ) → n < 2 → count_ones n ≡ (if nat_eq n 1 then 1 else 0)
small zero h = omega (arith, ones_le_self 0)
small (suc zero) h =
    let some : count_ones 1 ≢ 0 = λ none. (cc (zero_from_ones 1 none)) in
    omega (arith, ones_le_self 1, some)
small (suc (suc n)) h = absurd (omega arith)

-- a number's ones are its bits that are on
pub count_ones-count_below : (k n : ℕ) → n < 2 ^ k → count_ones n ≡ count_below (λ i. nat_eq (bit_at n i) 1) k
count_ones-count_below zero n h = let none : n ≡ 0 = omega arith in rw none (omega (arith, ones_le_self 0))
count_ones-count_below (suc k) n h =
    let high = n / 2 ^ k in
    let low = n % 2 ^ k in
    let positive = pow_pos k in
    let low_small : low < 2 ^ k = mod_below n (2 ^ k) positive in
    let split : high * 2 ^ k + low ≡ n = div-add-mod' n (2 ^ k) in
    let double : n < 2 * 2 ^ k = omega (arith, pow-suc 2 k) in
    let high_small : high < 2 = div_below n (2 ^ k) 2 positive double in
    let parts = ones_cat k high low low_small in
    let lower = count_ones-count_below k low low_small in
    let same : count_below (λ i. nat_eq (bit_at low i) 1) k ≡ count_below (λ i. nat_eq (bit_at n i) 1) k =
    count_below-same _ _ k (λ i below. ap (λ b. nat_eq b 1) (sym (bit_at_cat_low high k low i below) ∙ ap (λ m. bit_at m i) split)) in
    let lowest : bit_at high (k - k) ≡ bit_at high 0 = let none : k - k ≡ 0 = omega arith in rw none in
    let whole : high % 2 ≡ high = omega arith in
    let top : bit_at n k ≡ high =
    ap (λ m. bit_at m k) (sym split) ∙ bit_at_cat_high high k low k low_small (omega arith) ∙ lowest ∙ bit_at_lowest high ∙ whole in
    rw top (sym (ap count_ones split) ∙ parts ∙ omega (arith, lower, same, small high high_small))
