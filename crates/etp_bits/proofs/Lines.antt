-- Bits of rows that lie in words, before and after words change.
use Rattle.std.proofs.Common.{◌≡◌, ◌≢◌, ℕ, zero, suc, ◌+◌, ◌-◌, ◌*◌, ◌/◌, ◌%◌, ◌^◌, ◌<◌, min, max, Bool, true, not, ◌&&◌, nat_eq, List, length, set, refl, sym, ap, ◌∙◌, arith, inl, inr, get_or-set_same, get_or-set_other}
use Rattle.std.specs.Prelude.{count_ones, bit_and, bit_or, slice_index}
use Rattle.std.specs.Int.{bit_at, bit_not, w64, trailing_zeros}
use Rattle.std.proofs.lemmas.Nat.{and_le_l}
use Rattle.std.proofs.lemmas.Nat.Bits.{bit_at_and, bit_at_or, same_from_bits, bit_at-lt, bit_at_not, bit_at-trailing_zeros, bit_at-zero}
use Rattle.std.proofs.lemmas.Bool.{cases_lt, cases_eq, eqb-true, eq-eqb, ne_eqb}
use Rattle.etp_bits.specs.Counts.{count_below}
use Rattle.etp_bits.specs.Words.{lit, JoinsWords, LitInOne}
use Rattle.etp_bits.proofs.Counting.{count_below-add, count_below-same, count_ones-count_below}

-- a column's bit, by its word and its place in the word
pub lit-word : (words : List ℕ) (start place i : ℕ) → i < 64
    → lit words start (64 * place + i) ≡ nat_eq (bit_at (slice_index words (start + place)) i) 1
unfolding lit
lit-word words start place i h =
    let quotient : (64 * place + i) / 64 ≡ place = omega arith in
    let remainder : (64 * place + i) % 64 ≡ i = omega arith in
    rw (quotient, remainder)

-- the bits of one word more
pub lit-more : (words : List ℕ) (start place : ℕ) → slice_index words (start + place) < 2 ^ 64
    → count_below (lit words start) (64 * (place + 1))
    ≡ count_below (lit words start) (64 * place) + count_ones (slice_index words (start + place))
lit-more words start place h =
    let word = slice_index words (start + place) in
    let size : 64 * (place + 1) ≡ 64 * place + 64 = omega arith in
    let parts = count_below-add (lit words start) (64 * place) 64 in
    let ones = count_ones-count_below 64 word h in
    let same = count_below-same (λ i. lit words start (64 * place + i)) (λ i. nat_eq (bit_at word i) 1) 64 (λ i below. lit-word words start place i below) in
    rw size (omega (arith, parts, ones, same))

pub bits_and_not : (a b : ℕ) → a < 2 → b < 2 → nat_eq (min a (1 - b)) 1 ≡ (nat_eq a 1 && not (nat_eq b 1))
bits_and_not zero b h k = let none : min 0 (1 - b) ≡ 0 = omega arith in rw none
bits_and_not (suc zero) zero h k = refl
bits_and_not (suc zero) (suc zero) h k = refl
bits_and_not (suc zero) (suc (suc b)) h k = absurd (omega arith)
bits_and_not (suc (suc a)) b h k = absurd (omega arith)

-- the bits of one word more that its partner lacks
pub lit-more_without : (words other : List ℕ) (start from place : ℕ) → slice_index words (start + place) < 2 ^ 64
    → slice_index other (from + place) < 2 ^ 64
    → count_below (λ column. lit words start column && not (lit other from column)) (64 * (place + 1))
    ≡ count_below (λ column. lit words start column && not (lit other from column)) (64 * place)
    + count_ones (bit_and (slice_index words (start + place)) (bit_not w64 (slice_index other (from + place))))
lit-more_without words other start from place h k =
    let word = slice_index words (start + place) in
    let partner = slice_index other (from + place) in
    let rest = bit_and word (bit_not w64 partner) in
    let p : ℕ → Bool = λ column. lit words start column && not (lit other from column) in
    let size : 64 * (place + 1) ≡ 64 * place + 64 = omega arith in
    let parts = count_below-add p (64 * place) 64 in
    let small : rest < 2 ^ 64 = omega (arith, and_le_l word (bit_not w64 partner)) in
    let ones = count_ones-count_below 64 rest small in
    let same = count_below-same (λ i. p (64 * place + i)) (λ i. nat_eq (bit_at rest i) 1) 64
    (λ i below. let here = lit-word words start place i below in let there = lit-word other from place i below in
    rw (here, there, bit_at_and word (bit_not w64 partner) i, bit_at_not w64 partner i k below)
    (sym (bits_and_not (bit_at word i) (bit_at partner i) (bit_at-lt word i) (bit_at-lt partner i)))) in
    rw size (omega (arith, parts, ones, same))

-- nothing is joined yet
pub joins_none : (words other : List ℕ) (into from : ℕ) → JoinsWords words words other into from 0
joins_none words other into from = record {
  joined = λ place h. absurd (omega arith);
  before = λ place h. refl;
  after = λ place h. refl;
}

-- one word more
pub joins_more : (old now other : List ℕ) (into from count word : ℕ) → JoinsWords old now other into from count
    → into + count < length now
    → word ≡ bit_or (slice_index old (into + count)) (slice_index other (from + count))
    → JoinsWords old (set now (into + count) word) other into from (count + 1)
joins_more old now other into from count word h fits is = record {
  joined = λ place below.
      elim (cases_eq place count) [
        | inl same ↦ rw (same, get_or-set_same now (into + count) word 0 fits) is
        | inr differs ↦
            let apart : into + place ≢ into + count = λ e. differs (omega (arith, e)) in
            let within : place < count = omega (arith, below, differs) in
            get_or-set_other now (into + count) (into + place) word 0 apart ∙ h.joined place within
      ];
  before = λ place below.
      let apart : place ≢ into + count = omega arith in
      get_or-set_other now (into + count) place word 0 apart ∙ h.before place below;
  after = λ place above.
      let apart : place ≢ into + count = omega arith in
      get_or-set_other now (into + count) place word 0 apart ∙ h.after place (omega arith);
}

-- a word that was not written before it is read
pub joins_unread : (old now : List ℕ) (into from count place : ℕ) → JoinsWords old now old into from count
    → ((written : ℕ) → written < count → from + count ≢ into + written)
    → slice_index now (from + count) ≡ slice_index old (from + count)
joins_unread old now into from count place h unread =
    elim (cases_lt (from + count) into) [
      | inl below ↦ h.before (from + count) below
      | inr above ↦
          elim (cases_lt (from + count) (into + count)) [
            | inl within ↦ absurd (unread (from + count - into) (omega arith) (omega arith))
            | inr past ↦ h.after (from + count) past
          ]
    ]

some_bit : (n : ℕ) → n ≢ 0 → n < 2 ^ 64 → (i : ℕ) × (i < 64) × (bit_at n i ≡ 1)
some_bit n some small =
    let found = bit_at-trailing_zeros w64 n (omega (arith, some)) small in
    (trailing_zeros w64 n, found.0, found.1)

both_bits : (a b : ℕ) → a < 2 → b < 2 → min a b ≡ 1 → (a ≡ 1) × (b ≡ 1)
both_bits a b h k e = (omega (arith, e), omega (arith, e))

-- a word with a bit that its partner lacks shows a column that is on in the one alone
pub lit_one : (words other : List ℕ) (start from count place : ℕ) → place < count
    → slice_index words (start + place) < 2 ^ 64 → slice_index other (from + place) < 2 ^ 64
    → bit_and (slice_index words (start + place)) (bit_not w64 (slice_index other (from + place))) ≢ 0
    → LitInOne words other start from count
lit_one words other start from count place within small other_small lacks =
    let here = slice_index words (start + place) in
    let there = slice_index other (from + place) in
    let shared = some_bit (bit_and here (bit_not w64 there)) lacks (omega (arith, and_le_l here (bit_not w64 there))) in
    let i = shared.0 in
    let opposite = bit_at_not w64 there i other_small shared.1 in
    let both = both_bits (bit_at here i) (1 - bit_at there i) (bit_at-lt here i) (omega arith) (sym (bit_at_and here (bit_not w64 there) i ∙ ap (λ b. min (bit_at here i) b) opposite) ∙ shared.2) in
    let off : bit_at there i ≢ 1 = λ e. (omega (arith, e, both.1)) in
    record {
      column = 64 * place + i;
      within = omega (arith, shared.1);
      here = lit-word words start place i shared.1 ∙ ap (λ b. nat_eq b 1) both.0;
      not_there = lit-word other from place i shared.1 ∙ ne_eqb (bit_at there i) 1 off;
    }

-- where no word has a bit that its partner lacks, no column is on in the one alone
pub lit_not_one : (words other : List ℕ) (start from count : ℕ) → ((i : ℕ) → slice_index other i < 2 ^ 64)
    → ((place : ℕ) → place < count → bit_and (slice_index words (start + place)) (bit_not w64 (slice_index other (from + place))) ≡ 0)
    → LitInOne words other start from count → ⊥
unfolding lit
lit_not_one words other start from count small none shared =
    let column = shared.column in
    let here = slice_index words (start + column / 64) in
    let there = slice_index other (from + column / 64) in
    let bit = column % 64 in
    let one : bit_at here bit ≡ 1 = eqb-true _ 1 shared.here in
    let two : bit_at there bit ≢ 1 = λ e. (cc (shared.not_there, ap (λ b. nat_eq b 1) e)) in
    let zero_word = none (column / 64) (omega (arith, shared.within)) in
    let opposite = bit_at_not w64 there bit (small (from + column / 64)) (omega arith) in
    let off = sym (bit_at_and here (bit_not w64 there) bit ∙ ap (λ b. min (bit_at here bit) b) opposite) ∙ ap (λ w. bit_at w bit) zero_word ∙ bit_at-zero bit in
    omega (arith, one, two, off, bit_at-lt there bit)

-- a word joined of two is 0 only where both are
pub or_parts : (a b : ℕ) → bit_or a b ≡ 0 → (a ≡ 0) × (b ≡ 0)
or_parts a b none =
    let bits : (i : ℕ) → max (bit_at a i) (bit_at b i) ≡ 0 = λ i. sym (bit_at_or a b i) ∙ ap (λ n. bit_at n i) none ∙ bit_at-zero i in
    (same_from_bits a 0 (λ i. omega (arith, bits i, bit_at-zero i)), same_from_bits b 0 (λ i. omega (arith, bits i, bit_at-zero i)))

-- what is known of the words seen so far, by all that they have and their partners lack
pub record Lacking (words other : List ℕ) (start from count rest : ℕ) : Type 0 where
  pub none : rest ≡ 0 → (place : ℕ) → place < count → bit_and (slice_index words (start + place)) (bit_not w64 (slice_index other (from + place))) ≡ 0
  pub some : rest ≢ 0 → LitInOne words other start from count

pub lacking_none : (words other : List ℕ) (start from : ℕ) → Lacking words other start from 0 0
lacking_none words other start from = record {
  none = λ _ place below. absurd (omega arith);
  some = λ differs. absurd (differs refl);
}

pub lacking_more : (words other : List ℕ) (start from count rest : ℕ) → slice_index words (start + count) < 2 ^ 64
    → slice_index other (from + count) < 2 ^ 64 → Lacking words other start from count rest
    → Lacking words other start from (count + 1) (bit_or rest (bit_and (slice_index words (start + count)) (bit_not w64 (slice_index other (from + count)))))
lacking_more words other start from count rest small other_small before =
    let word = bit_and (slice_index words (start + count)) (bit_not w64 (slice_index other (from + count))) in
    record {
      none = λ all place below.
          elim (cases_eq place count) [
            | inl same ↦ rw same (or_parts rest word all).1
            | inr differs ↦ before.none (or_parts rest word all).0 place (omega (arith, below, differs))
          ];
      some = λ lit.
          elim (cases_eq word 0) [
            | inr lacks ↦ lit_one words other start from (count + 1) count (omega arith) small other_small lacks
            | inl none ↦
                let earlier = before.some (λ e. lit (rw (e, none) refl)) in
                record { column = earlier.column; within = omega (arith, earlier.within); here = earlier.here; not_there = earlier.not_there }
          ];
    }

pub lacking_found : (words other : List ℕ) (start from count place rest : ℕ) → place ≡ count → Lacking words other start from place rest
    → not (nat_eq rest 0) ≡ true → LitInOne words other start from count
lacking_found words other start from count place rest all before on =
    elim (cases_eq rest 0) [
      | inl none ↦ absurd (cc (on, eq-eqb rest 0 none))
      | inr differs ↦
          let found = before.some differs in
          record { column = found.column; within = omega (arith, found.within, all); here = found.here; not_there = found.not_there }
    ]

pub lacking_lit : (words other : List ℕ) (start from count place rest : ℕ) → place ≡ count → ((i : ℕ) → slice_index other i < 2 ^ 64)
    → Lacking words other start from place rest → LitInOne words other start from count → not (nat_eq rest 0) ≡ true
lacking_lit words other start from count place rest all small before found =
    elim (cases_eq rest 0) [
      | inl none ↦ absurd (lit_not_one words other start from count small (λ k below. before.none none k (omega (arith, below, all))) found)
      | inr differs ↦ ap not (ne_eqb rest 0 differs)
    ]
