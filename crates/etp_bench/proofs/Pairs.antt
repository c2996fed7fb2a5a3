-- How many pairs there are of two kinds that exclude one another.
use Rattle.std.proofs.Common.{◌≡◌, ℕ, zero, suc, ◌+◌, ◌-◌, ◌*◌, ◌<◌, ◌≤◌, ◌^◌, Bool, true, false, not, ◌&&◌, if◌then◌else◌, ap, sym, ◌∙◌, arith}
use Rattle.std.proofs.Math.Nat.{mul-le-mul_right}
use Rattle.etp_bits.specs.Counts.{count_below}
use Rattle.etp_bench.specs.Filling.{count_pairs}

one_kind : (p q : Bool) → (if p then 1 else 0) + (if q && not p then 1 else 0) ≤ 1
one_kind true true = omega arith
one_kind true false = omega arith
one_kind false true = omega arith
one_kind false false = omega arith

both_below : (p q : ℕ → Bool) (n : ℕ) → count_below p n + count_below (λ i. q i && not (p i)) n ≤ n
both_below p q zero = omega arith
both_below p q (suc n) =
    let rest = both_below p q n in
    let last = one_kind (p n) (q n) in
    omega (arith, rest, last)

-- no more pairs than there are
pairs_within : (p q : ℕ → ℕ → Bool) (laws places : ℕ)
    → count_pairs p laws places + count_pairs (λ e f. q e f && not (p e f)) laws places ≤ places * laws
pairs_within p q laws zero = omega arith
pairs_within p q laws (suc place) =
    let rest = pairs_within p q laws place in
    let last = both_below (λ other. p (place + 1) (other + 1)) (λ other. q (place + 1) (other + 1)) laws in
    omega (arith, rest, last)

-- and so few that they can be counted
pairs_fit : (p q : ℕ → ℕ → Bool) (laws places : ℕ) → laws < 2 ^ 32 → places ≤ laws
    → count_pairs p laws places + count_pairs (λ e f. q e f && not (p e f)) laws places < 2 ^ 64
pairs_fit p q laws places small fewer =
    let within = pairs_within p q laws places in
    let square : places * laws ≤ laws * laws = mul-le-mul_right laws fewer in
    let last : laws ≤ 2 ^ 32 - 1 = omega arith in
    let most : laws * laws ≤ (2 ^ 32 - 1) * laws = mul-le-mul_right laws last in
    omega (arith, within, square, most)

-- the pairs of one law more
pairs_more : (p : ℕ → ℕ → Bool) (laws place : ℕ)
    → count_pairs p laws (place + 1) ≡ count_pairs p laws place + count_below (λ other. p (place + 1) (other + 1)) laws
pairs_more p laws place = let next : place + 1 ≡ suc place = omega arith in ap (count_pairs p laws) next

-- the counts with those of one law more
pub record Counted (p q : ℕ → ℕ → Bool) (laws place implied refuted : ℕ) : Type 0 where
  pub first : implied ≡ count_pairs p laws place
  pub second : refuted ≡ count_pairs (λ e f. q e f && not (p e f)) laws place
  pub fits : implied + refuted < 2 ^ 64

pub counted_more : (p q : ℕ → ℕ → Bool) (laws place implied refuted more_implied more_refuted : ℕ) → laws < 2 ^ 32 → place < laws
    → implied ≡ count_pairs p laws place → refuted ≡ count_pairs (λ e f. q e f && not (p e f)) laws place
    → more_implied ≡ count_below (λ other. p (place + 1) (other + 1)) laws
    → more_refuted ≡ count_below (λ other. q (place + 1) (other + 1) && not (p (place + 1) (other + 1))) laws
    → Counted p q laws (place + 1) (implied + more_implied) (refuted + more_refuted)
counted_more p q laws place implied refuted more_implied more_refuted small below first second one two =
    let both : ℕ → ℕ → Bool = λ e f. q e f && not (p e f) in
    let now : implied + more_implied ≡ count_pairs p laws (place + 1) =
    ap (λ n. n + more_implied) first ∙ ap (λ n. count_pairs p laws place + n) one ∙ sym (pairs_more p laws place) in
    let also : refuted + more_refuted ≡ count_pairs (λ e f. q e f && not (p e f)) laws (place + 1) =
    ap (λ n. n + more_refuted) second ∙ ap (λ n. count_pairs both laws place + n) two ∙ sym (pairs_more both laws place) in
    record { first = now; second = also; fits = omega (arith, now, also, pairs_fit p q laws (place + 1) small (omega arith)) }

-- no more than all pairs
pub counted_all : (p q : ℕ → ℕ → Bool) (laws place implied refuted : ℕ) → place ≡ laws
    → implied ≡ count_pairs p laws place → refuted ≡ count_pairs (λ e f. q e f && not (p e f)) laws place
    → implied + refuted ≤ laws * laws
counted_all p q laws place implied refuted all first second =
    let square : place * laws ≡ laws * laws = ap (λ n. n * laws) all in
    omega (arith, first, second, square, pairs_within p q laws place)
