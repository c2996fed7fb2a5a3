-- Rows of bits after words were joined to some of them.
use Rattle.std.proofs.Common.{◌≡◌, ◌≢◌, ℕ, ◌+◌, ◌-◌, ◌*◌, ◌/◌, ◌%◌, ◌^◌, ◌<◌, ◌≤◌, Bool, true, false, not, ◌&&◌, ◌||◌, nat_eq, nat_lt, List, length, set, take, drop, refl, sym, ap, ◌∙◌, arith, inl, inr, get_or-set_same, get_or-set_other}
use Rattle.std.specs.Prelude.{bit_and, bit_or, slice_index}
use Rattle.std.specs.Int.{bit_at, bit_not, w64, trailing_zeros}
use Rattle.std.proofs.lemmas.List.{length-set, get_or-take, get_or-drop}
use Rattle.std.proofs.lemmas.Nat.{same_from_place, and_le_l, row_fits}
use Rattle.std.proofs.lemmas.Nat.Bits.{bit_at_and, bit_at_not, bit_at_or, bit_at-lt, bit_at-zero, bit_at_above, bit_at-trailing_zeros, bit_at_clear_same, bit_at_clear_other}
use Rattle.std.proofs.lemmas.Bool.{cases_lt, cases_eq, eq-eqb, ne_eqb, lt-ltb, le-ltb, and_right, or_right, false_from_ne_true}
use Rattle.std.proofs.Math.Bool.{and-true}
use Rattle.etp_bits.specs.Words.{lit, JoinsWords, JoinsBits, LitInOne, IsLaidOut, bits_of}
use Rattle.etp_bits.proofs.Lines.{bits_and_not}
use Rattle.etp_bits.specs.Bits.{Bits, bit}
use Rattle.etp_bits.proofs.Rows.{joined_lit, either_bit, bit_within, bit_below, bit_past, bit_in_words, needed_lit}
use Rattle.etp_bits.proofs.NumberTests.{or_none, nat_lt-more}

or_or : (a b c d : Bool) → d ≡ (b || c) → ((a || b) || c) ≡ (a || d)
or_or true b c d h = refl
or_or false b c d h = sym h

-- no bit more
pub joins_nothing : (words : List ℕ) (stride : ℕ) (further : ℕ → ℕ → Bool) → ((r c : ℕ) → further r c ≡ false)
    → JoinsBits words words stride further
joins_nothing words stride further off = record {
  same_size = refl;
  bits = λ r c within. or_none (lit words (r * stride) c) (further r c) (off r c);
}

-- some bits more, and then others
pub joins_then : (old mid new : List ℕ) (stride : ℕ) (one two both : ℕ → ℕ → Bool)
    → JoinsBits old mid stride one → JoinsBits mid new stride two → ((r c : ℕ) → both r c ≡ (one r c || two r c))
    → JoinsBits old new stride both
joins_then old mid new stride one two both first second all = record {
  same_size = second.same_size ∙ first.same_size;
  bits = λ r c within.
      second.bits r c within ∙ ap (λ b. b || two r c) (first.bits r c within)
      ∙ or_or (lit old (r * stride) c) (one r c) (two r c) (both r c) (all r c);
}

-- the same bits by another test
pub joins_same : (old new : List ℕ) (stride : ℕ) (one two : ℕ → ℕ → Bool) → JoinsBits old new stride one
    → ((r c : ℕ) → c < 64 * stride → one r c ≡ two r c) → JoinsBits old new stride two
joins_same old new stride one two first same = record {
  same_size = first.same_size;
  bits = λ r c within. first.bits r c within ∙ ap (λ b. lit old (r * stride) c || b) (same r c within);
}

-- words joined to a row
pub joins_row : (old new other : List ℕ) (stride row from count : ℕ) → JoinsWords old new other (row * stride) from count
    → count ≤ stride → length new ≡ length old
    → JoinsBits old new stride (λ r c. nat_eq r row && (nat_lt (c / 64) count && lit other from c))
joins_row old new other stride row from count h narrow size = record {
  same_size = size;
  bits = λ r c within. joined_lit old new other stride row from count r c h narrow within;
}

-- a word joined to a word of a row
pub joins_word : (words : List ℕ) (stride row place word : ℕ) → place < stride → row * stride + place < length words
    → JoinsBits words (set words (row * stride + place) (bit_or (slice_index words (row * stride + place)) word)) stride
    (λ r c. nat_eq r row && (nat_eq (c / 64) place && nat_eq (bit_at word (c % 64)) 1))
unfolding lit
joins_word words stride row place word narrow fits = record {
  same_size = length-set words (row * stride + place) (bit_or (slice_index words (row * stride + place)) word);
  bits = λ r c within. go r c within;
}
  where
    go : (r c : ℕ) → c < 64 * stride
        → lit (set words (row * stride + place) (bit_or (slice_index words (row * stride + place)) word)) (r * stride) c
        ≡ (lit words (r * stride) c || (nat_eq r row && (nat_eq (c / 64) place && nat_eq (bit_at word (c % 64)) 1)))
    go r c within =
        elim (cases_eq (r * stride + c / 64) (row * stride + place)) [
          | inl same ↦
              let places = same_from_place r (c / 64) row place stride (omega arith) narrow same in
              let before = slice_index words (row * stride + place) in
              rw (same, get_or-set_same words (row * stride + place) (bit_or (slice_index words (row * stride + place)) word) 0 fits, eq-eqb r row places.0, eq-eqb (c / 64) place places.1, bit_at_or before word (c % 64))
              (either_bit (bit_at before (c % 64)) (bit_at word (c % 64)) (bit_at-lt before (c % 64)) (bit_at-lt word (c % 64)))
          | inr apart ↦
              rw (get_or-set_other words (row * stride + place) (r * stride + c / 64) (bit_or (slice_index words (row * stride + place)) word) 0 apart)
              (or_none _ _ (elim (cases_eq r row) [
                | inl equal ↦
                    let other : c / 64 ≢ place = λ e. apart (ap (λ (n : ℕ). n * stride + c / 64) equal ∙ ap (λ (n : ℕ). row * stride + n) e) in
                    rw (ne_eqb (c / 64) place other) (and_right (nat_eq r row) false refl)
                | inr differs ↦ rw (ne_eqb r row differs) refl
              ]))
        ]

-- ---- the rows of a group of 64, by the bits of a word

-- the word without its lowest bit
pub record TakesLowest (word bit rest : ℕ) : Type 0 where
  pub inside : bit < 64
  pub was_on : bit_at word bit ≡ 1
  pub is_off : bit_at rest bit ≡ 0
  pub others : (i : ℕ) → i ≢ bit → bit_at rest i ≡ bit_at word i
  pub smaller : rest < word

pub takes_lowest : (word : ℕ) → word ≢ 0 → word < 2 ^ 64
    → TakesLowest word (trailing_zeros w64 word) (bit_and word (bit_not w64 (1 * 2 ^ trailing_zeros w64 word % 2 ^ 64)))
takes_lowest word some small =
    let bit = trailing_zeros w64 word in
    let rest = bit_and word (bit_not w64 (1 * 2 ^ bit % 2 ^ 64)) in
    let found = bit_at-trailing_zeros w64 word (omega (arith, some)) small in
    let less = and_le_l word (bit_not w64 (1 * 2 ^ bit % 2 ^ 64)) in
    let off = bit_at_clear_same w64 word bit found.0 in
    let differs : rest ≢ word = λ e. (let on = ap (λ n. bit_at n bit) e in omega (arith, on, off, found.1)) in
    record {
      inside = found.0;
      was_on = found.1;
      is_off = off;
      others = λ i other.
          elim (cases_lt i 64) [
            | inl below ↦ bit_at_clear_other w64 word bit found.0 i below other
            | inr past ↦ bit_at_above rest 64 i (omega (arith, less, small)) past ∙ sym (bit_at_above word 64 i small past)
          ];
      smaller = omega (arith, less, differs);
    }

-- the rows of the group that were taken from the word so far
abbrev pub taken : ℕ → ℕ → ℕ → ℕ → Bool
taken rows left group row = nat_eq (row / 64) group && (nat_eq (bit_at rows (row % 64)) 1 && not (nat_eq (bit_at left (row % 64)) 1))

-- the word that is left has no other bits
abbrev pub Within : ℕ → ℕ → Type 0
Within left rows = (i : ℕ) → bit_at left i ≡ 1 → bit_at rows i ≡ 1

pub within_more : (rows left bit rest : ℕ) → Within left rows → TakesLowest left bit rest → Within rest rows
within_more rows left bit rest all takes = λ i on.
    elim (cases_eq i bit) [
      | inl same ↦ absurd (omega (arith, takes.is_off, ap (bit_at rest) same, on))
      | inr other ↦ all i (sym (takes.others i other) ∙ on)
    ]

pub taken_more : (rows left bit rest group row : ℕ) → Within left rows → TakesLowest left bit rest
    → taken rows rest group row ≡ (taken rows left group row || nat_eq row (64 * group + bit))
taken_more rows left bit rest group row all takes =
    elim (cases_eq row (64 * group + bit)) [
      | inl same ↦
          let quotient : row / 64 ≡ group = omega (arith, same, takes.inside) in
          let remainder : row % 64 ≡ bit = omega (arith, same, takes.inside) in
          rw (eq-eqb row (64 * group + bit) same, quotient, eq-eqb group group refl, remainder, all bit takes.was_on, takes.is_off)
          (sym (or_right _ true refl))
      | inr differs ↦
          rw (ne_eqb row (64 * group + bit) differs)
          (elim (cases_eq (row / 64) group) [
            | inl here ↦
                let other : row % 64 ≢ bit = λ e. differs (omega (arith, here, e)) in
                rw (takes.others (row % 64) other) (or_none _ false refl)
            | inr elsewhere ↦ rw (ne_eqb (row / 64) group elsewhere) refl
          ])
    ]

-- nothing is taken at first, and all in the end
pub taken_none : (rows group row : ℕ) → taken rows rows group row ≡ false
taken_none rows group row =
    elim (nat_eq (bit_at rows (row % 64)) 1) as (λ b. (nat_eq (row / 64) group && (b && not b)) ≡ false) [
      | true ↦ and_right (nat_eq (row / 64) group) false refl
      | false ↦ and_right (nat_eq (row / 64) group) false refl
    ]

pub taken_all : (rows left group row : ℕ) → left ≡ 0 → taken rows left group row ≡ (nat_eq (row / 64) group && nat_eq (bit_at rows (row % 64)) 1)
taken_all rows left group row none =
    rw (none, bit_at-zero (row % 64)) (ap (λ b. nat_eq (row / 64) group && b) (and-true (nat_eq (bit_at rows (row % 64)) 1)))

spread_or : (a b l : Bool) → ((a || b) && l) ≡ ((a && l) || (b && l))
spread_or true b true = refl
spread_or false b true = refl
spread_or true true false = refl
spread_or true false false = refl
spread_or false b false = refl

-- a row more is joined
pub group_more : (old now new : List ℕ) (stride rows left bit rest group : ℕ) (line : ℕ → Bool) → Within left rows → TakesLowest left bit rest
    → JoinsBits old now stride (λ r c. taken rows left group r && line c)
    → JoinsBits now new stride (λ r c. nat_eq r (64 * group + bit) && line c)
    → JoinsBits old new stride (λ r c. taken rows rest group r && line c)
group_more old now new stride rows left bit rest group line all takes before step =
    joins_then old now new stride (λ r c. taken rows left group r && line c) (λ r c. nat_eq r (64 * group + bit) && line c)
    (λ r c. taken rows rest group r && line c) before step
    (λ r c. ap (λ b. b && line c) (taken_more rows left bit rest group r all takes) ∙ spread_or (taken rows left group r) (nat_eq r (64 * group + bit)) (line c))

pub group_none : (words : List ℕ) (stride rows group : ℕ) (line : ℕ → Bool) → JoinsBits words words stride (λ r c. taken rows rows group r && line c)
group_none words stride rows group line =
    joins_nothing words stride (λ r c. taken rows rows group r && line c) (λ r c. ap (λ b. b && line c) (taken_none rows group r))

pub group_all : (old new : List ℕ) (stride rows left group : ℕ) (line : ℕ → Bool) → left ≡ 0
    → JoinsBits old new stride (λ r c. taken rows left group r && line c)
    → JoinsBits old new stride (λ r c. (nat_eq (r / 64) group && nat_eq (bit_at rows (r % 64)) 1) && line c)
group_all old new stride rows left group line none joins =
    joins_same old new stride (λ r c. taken rows left group r && line c) (λ r c. (nat_eq (r / 64) group && nat_eq (bit_at rows (r % 64)) 1) && line c) joins
    (λ r c within. ap (λ b. b && line c) (taken_all rows left group r none))

-- ---- the groups, and the places of a line

-- the bits of one word more
pub bits_more : (words : List ℕ) (place column : ℕ)
    → (nat_lt (column / 64) (place + 1) && lit words 0 column)
    ≡ ((nat_lt (column / 64) place && lit words 0 column) || (nat_eq (column / 64) place && nat_eq (bit_at (slice_index words place) (column % 64)) 1))
unfolding lit
bits_more words place column =
    let first : 0 + column / 64 ≡ column / 64 = omega arith in
    rw (nat_lt-more (column / 64) place, first)
    (elim (cases_eq (column / 64) place) [
      | inl same ↦ rw (same) (spread_or (nat_lt place place) (nat_eq place place) (nat_eq (bit_at (slice_index words place) (column % 64)) 1))
      | inr differs ↦
          rw (ne_eqb (column / 64) place differs)
          (spread_or (nat_lt (column / 64) place) false (nat_eq (bit_at (slice_index words (column / 64)) (column % 64)) 1))
    ])

-- a word without a bit on
pub no_bits : (words : List ℕ) (place column : ℕ) → slice_index words place ≡ 0
    → (nat_eq (column / 64) place && nat_eq (bit_at (slice_index words place) (column % 64)) 1) ≡ false
no_bits words place column none = rw (none, bit_at-zero (column % 64)) (and_right (nat_eq (column / 64) place) false refl)

pub none_below : (column : ℕ) (b : Bool) → (nat_lt (column / 64) 0 && b) ≡ false
none_below column b = rw (le-ltb (column / 64) 0 (omega arith)) refl

spread_left : (a b l : Bool) → (l && (a || b)) ≡ ((l && a) || (l && b))
spread_left a b true = refl
spread_left a b false = refl

-- a group of rows more
pub groups_more : (old now new marks : List ℕ) (stride group : ℕ) (line : ℕ → Bool)
    → JoinsBits old now stride (λ r c. (nat_lt (r / 64) group && lit marks 0 r) && line c)
    → JoinsBits now new stride (λ r c. (nat_eq (r / 64) group && nat_eq (bit_at (slice_index marks group) (r % 64)) 1) && line c)
    → JoinsBits old new stride (λ r c. (nat_lt (r / 64) (group + 1) && lit marks 0 r) && line c)
groups_more old now new marks stride group line before step =
    joins_then old now new stride (λ r c. (nat_lt (r / 64) group && lit marks 0 r) && line c)
    (λ r c. (nat_eq (r / 64) group && nat_eq (bit_at (slice_index marks group) (r % 64)) 1) && line c)
    (λ r c. (nat_lt (r / 64) (group + 1) && lit marks 0 r) && line c) before step
    (λ r c. ap (λ b. b && line c) (bits_more marks group r)
    ∙ spread_or (nat_lt (r / 64) group && lit marks 0 r) (nat_eq (r / 64) group && nat_eq (bit_at (slice_index marks group) (r % 64)) 1) (line c))

pub groups_none : (words marks : List ℕ) (stride : ℕ) (line : ℕ → Bool)
    → JoinsBits words words stride (λ r c. (nat_lt (r / 64) 0 && lit marks 0 r) && line c)
groups_none words marks stride line =
    joins_nothing words stride (λ r c. (nat_lt (r / 64) 0 && lit marks 0 r) && line c) (λ r c. ap (λ b. b && line c) (none_below r (lit marks 0 r)))

-- a word of the line more
pub places_more : (old now new line : List ℕ) (stride place : ℕ) (marked : ℕ → Bool)
    → JoinsBits old now stride (λ r c. marked r && (nat_lt (c / 64) place && lit line 0 c))
    → JoinsBits now new stride (λ r c. marked r && (nat_eq (c / 64) place && nat_eq (bit_at (slice_index line place) (c % 64)) 1))
    → JoinsBits old new stride (λ r c. marked r && (nat_lt (c / 64) (place + 1) && lit line 0 c))
places_more old now new line stride place marked before step =
    joins_then old now new stride (λ r c. marked r && (nat_lt (c / 64) place && lit line 0 c))
    (λ r c. marked r && (nat_eq (c / 64) place && nat_eq (bit_at (slice_index line place) (c % 64)) 1))
    (λ r c. marked r && (nat_lt (c / 64) (place + 1) && lit line 0 c)) before step
    (λ r c. ap (λ b. marked r && b) (bits_more line place c)
    ∙ spread_left (nat_lt (c / 64) place && lit line 0 c) (nat_eq (c / 64) place && nat_eq (bit_at (slice_index line place) (c % 64)) 1) (marked r))

pub places_same : (old now line : List ℕ) (stride place : ℕ) (marked : ℕ → Bool) → slice_index line place ≡ 0
    → JoinsBits old now stride (λ r c. marked r && (nat_lt (c / 64) place && lit line 0 c))
    → JoinsBits old now stride (λ r c. marked r && (nat_lt (c / 64) (place + 1) && lit line 0 c))
places_same old now line stride place marked none before =
    places_more old now now line stride place marked before
    (joins_nothing now stride (λ r c. marked r && (nat_eq (c / 64) place && nat_eq (bit_at (slice_index line place) (c % 64)) 1))
    (λ r c. ap (λ b. marked r && b) (no_bits line place c none) ∙ and_right (marked r) false refl))

pub places_none : (words line : List ℕ) (stride : ℕ) (marked : ℕ → Bool)
    → JoinsBits words words stride (λ r c. marked r && (nat_lt (c / 64) 0 && lit line 0 c))
places_none words line stride marked =
    joins_nothing words stride (λ r c. marked r && (nat_lt (c / 64) 0 && lit line 0 c))
    (λ r c. ap (λ b. marked r && b) (none_below c (lit line 0 c)) ∙ and_right (marked r) false refl)

-- a row that is marked by its bit in a word of the marks
pub marked_row : (marks : List ℕ) (group i : ℕ) → bit_at (slice_index marks group) i ≡ 1 → i < 64 → lit marks 0 (64 * group + i) ≡ true
unfolding lit
marked_row marks group i on below =
    let quotient : 0 + (64 * group + i) / 64 ≡ group = omega arith in
    let remainder : (64 * group + i) % 64 ≡ i = omega arith in
    rw (quotient, remainder, on) refl

-- the words joined so far that a further row lacks
pub without_more : (other : List ℕ) (from without place column : ℕ)
    → slice_index other (without + place) < 2 ^ 64
    → (nat_lt (column / 64) (place + 1) && (lit other from column && not (lit other without column)))
    ≡ ((nat_lt (column / 64) place && (lit other from column && not (lit other without column)))
    || (nat_eq (column / 64) place && nat_eq (bit_at (bit_and (slice_index other (from + place)) (bit_not w64 (slice_index other (without + place)))) (column % 64)) 1))
unfolding lit
without_more other from without place column small =
    rw (nat_lt-more (column / 64) place)
    (elim (cases_eq (column / 64) place) [
      | inl same ↦
          let one = slice_index other (from + place) in
          let two = slice_index other (without + place) in
          let bit = column % 64 in
          rw (
            same,
            bit_at_and one (bit_not w64 two) (column % 64),
            bit_at_not w64 two (column % 64) small (omega arith),
            bits_and_not (bit_at one bit) (bit_at two bit) (bit_at-lt one bit) (bit_at-lt two bit),
          )
          (spread_or (nat_lt place place) (nat_eq place place) (nat_eq (bit_at one bit) 1 && not (nat_eq (bit_at two bit) 1)))
      | inr differs ↦
          rw (ne_eqb (column / 64) place differs)
          (spread_or (nat_lt (column / 64) place) false _)
    ])

pub without_step : (old now new other : List ℕ) (stride into from without place : ℕ) → slice_index other (without + place) < 2 ^ 64
    → JoinsBits old now stride (λ r c. nat_eq r into && (nat_lt (c / 64) place && (lit other from c && not (lit other without c))))
    → JoinsBits now new stride (λ r c. nat_eq r into && (nat_eq (c / 64) place && nat_eq (bit_at (bit_and (slice_index other (from + place)) (bit_not w64 (slice_index other (without + place)))) (c % 64)) 1))
    → JoinsBits old new stride (λ r c. nat_eq r into && (nat_lt (c / 64) (place + 1) && (lit other from c && not (lit other without c))))
without_step old now new other stride into from without place small before step =
    joins_then old now new stride (λ r c. nat_eq r into && (nat_lt (c / 64) place && (lit other from c && not (lit other without c))))
    (λ r c. nat_eq r into && (nat_eq (c / 64) place && nat_eq (bit_at (bit_and (slice_index other (from + place)) (bit_not w64 (slice_index other (without + place)))) (c % 64)) 1))
    (λ r c. nat_eq r into && (nat_lt (c / 64) (place + 1) && (lit other from c && not (lit other without c)))) before step
    (λ r c. ap (λ b. nat_eq r into && b) (without_more other from without place c small)
    ∙ spread_left (nat_lt (c / 64) place && (lit other from c && not (lit other without c))) _ (nat_eq r into))

pub without_none : (words other : List ℕ) (stride into from without : ℕ)
    → JoinsBits words words stride (λ r c. nat_eq r into && (nat_lt (c / 64) 0 && (lit other from c && not (lit other without c))))
without_none words other stride into from without =
    joins_nothing words stride (λ r c. nat_eq r into && (nat_lt (c / 64) 0 && (lit other from c && not (lit other without c))))
    (λ r c. ap (λ b. nat_eq r into && b) (none_below c (lit other from c && not (lit other without c))) ∙ and_right (nat_eq r into) false refl)

-- ---- what callers see

-- what further bits leave of a matrix
pub record BitsJoined (rows columns stride count : ℕ) (old new : List ℕ) (further : ℕ → ℕ → Bool) : Type 0 where
  pub laid : IsLaidOut rows columns stride count new
  pub bits : (r c : ℕ) → bit (bits_of rows columns stride new) r c ≡ (bit (bits_of rows columns stride old) r c || further r c)

pub bits_joined : (rows columns stride count : ℕ) (old new : List ℕ) (seen further : ℕ → ℕ → Bool)
    → IsLaidOut rows columns stride count old → JoinsBits old new stride seen
    → ((r c : ℕ) → r < rows → c < 64 * stride → seen r c ≡ further r c)
    → ((r c : ℕ) → rows ≤ r → further r c ≡ false) → ((r c : ℕ) → columns ≤ c → further r c ≡ false)
    → BitsJoined rows columns stride count old new further
bits_joined rows columns stride count old new seen further laid joins same below past =
    let lits : (r c : ℕ) → r < rows → c < 64 * stride → lit new (r * stride) c ≡ (lit old (r * stride) c || further r c) = λ r c h k.
    joins.bits r c k ∙ ap (λ b. lit old (r * stride) c || b) (same r c h k) in
    record {
      laid = record {
        size = laid.size;
        wide = laid.wide;
        narrow = laid.narrow;
        off_past = λ r c h beyond k. lits r c h k ∙ rw (laid.off_past r c h beyond k, past r c beyond) refl;
      };
      bits = λ r c.
          elim (cases_lt r rows) [
            | inl h ↦
                elim (cases_lt c columns) [
                  | inl within ↦
                      rw (bit_within rows columns stride new r c h within, bit_within rows columns stride old r c h within)
                      (lits r c h (omega (arith, laid.wide)))
                  | inr beyond ↦
                      rw (bit_past rows columns stride new r c beyond, bit_past rows columns stride old r c beyond, past r c beyond) refl
                ]
            | inr beyond ↦
                rw (bit_below rows columns stride new r c beyond, bit_below rows columns stride old r c beyond, below r c beyond) refl
          ];
    }

differs : (b x y one two : Bool) → (b && x) ≡ one → (b && y) ≡ two → (b && (x && not y)) ≡ (one && not two)
differs true x y one two h k = rw (h, k) refl
differs false x y one two h k = rw (sym h) refl

-- the bits of a row of another matrix that a further row of it lacks, joined to a row
pub difference_joined : (rows columns stride count : ℕ) (old new : List ℕ) (other_rows other_columns other_stride other_count : ℕ) (other : List ℕ)
    (into from without : ℕ)
    → IsLaidOut rows columns stride count old → IsLaidOut other_rows other_columns other_stride other_count other
    → into < rows → from < other_rows → without < other_rows → other_columns ≤ columns
    → JoinsBits old new stride (λ r c. nat_eq r into && (nat_lt (c / 64) ((other_columns + 63) / 64) && (lit other (from * other_stride) c && not (lit other (without * other_stride) c))))
    → BitsJoined rows columns stride count old new
    (λ r c. nat_eq r into && (bit (bits_of other_rows other_columns other_stride other) from c && not (bit (bits_of other_rows other_columns other_stride other) without c)))
difference_joined rows columns stride count old new other_rows other_columns other_stride other_count other into from without laid other_laid h p q narrow joins =
    bits_joined rows columns stride count old new
    (λ r c. nat_eq r into && (nat_lt (c / 64) ((other_columns + 63) / 64) && (lit other (from * other_stride) c && not (lit other (without * other_stride) c))))
    (λ r c. nat_eq r into && (bit (bits_of other_rows other_columns other_stride other) from c && not (bit (bits_of other_rows other_columns other_stride other) without c)))
    laid joins
    (λ r c below within.
    ap (λ b. nat_eq r into && b)
    (differs (nat_lt (c / 64) ((other_columns + 63) / 64)) (lit other (from * other_stride) c) (lit other (without * other_stride) c) _ _
    (needed_lit other_rows other_columns other_stride other_count other from c other_laid p)
    (needed_lit other_rows other_columns other_stride other_count other without c other_laid q)))
    (λ r c past. rw (ne_eqb r into (λ e. (omega (arith, e, past, h)))) refl)
    (λ r c past. rw (bit_past other_rows other_columns other_stride other from c (omega (arith, past, narrow))) (and_right (nat_eq r into) false refl))

-- a row of another matrix joined to marked rows
pub marked_joined : (rows columns stride count : ℕ) (old new marks line : List ℕ) (other : Bits) (marked from : ℕ)
    → IsLaidOut rows columns stride count old
    → JoinsBits old new stride (λ r c. (nat_lt (r / 64) (length marks) && lit marks 0 r) && (nat_lt (c / 64) (length line) && lit line 0 c))
    → ((c : ℕ) → (nat_lt (c / 64) (length marks) && lit marks 0 c) ≡ bit other marked c)
    → ((c : ℕ) → (nat_lt (c / 64) (length line) && lit line 0 c) ≡ bit other from c)
    → ((c : ℕ) → bit other marked c ≡ true → c < other.columns) → ((c : ℕ) → bit other from c ≡ true → c < other.columns)
    → other.columns ≤ rows → other.columns ≤ columns
    → BitsJoined rows columns stride count old new (λ r c. bit other marked r && bit other from c)
marked_joined rows columns stride count old new marks line other marked from laid joins mark_bits line_bits mark_in line_in tall narrow =
    bits_joined rows columns stride count old new
    (λ r c. (nat_lt (r / 64) (length marks) && lit marks 0 r) && (nat_lt (c / 64) (length line) && lit line 0 c))
    (λ r c. bit other marked r && bit other from c) laid joins
    (λ r c below within. ap (λ b. b && (nat_lt (c / 64) (length line) && lit line 0 c)) (mark_bits r) ∙ ap (λ b. bit other marked r && b) (line_bits c))
    (λ r c past. ap (λ b. b && bit other from c) (false_from_ne_true (bit other marked r) (λ on. omega (arith, mark_in r on, past, tall))))
    (λ r c past. ap (λ b. bit other marked r && b) (false_from_ne_true (bit other from c) (λ on. omega (arith, line_in c on, past, narrow))) ∙ and_right (bit other marked r) false refl)

-- a row is within the words, where its mark is on
pub marked_fits : (rows columns stride count : ℕ) (old marks : List ℕ) (other : Bits) (marked row : ℕ)
    → IsLaidOut rows columns stride count old
    → ((c : ℕ) → (nat_lt (c / 64) (length marks) && lit marks 0 c) ≡ bit other marked c)
    → ((c : ℕ) → bit other marked c ≡ true → c < other.columns) → other.columns ≤ rows
    → row < 64 * length marks → lit marks 0 row ≡ true → row * stride + stride ≤ count
marked_fits rows columns stride count old marks other marked row laid mark_bits mark_in tall within on =
    let below : row / 64 < length marks = omega arith in
    let seen : bit other marked row ≡ true = sym (mark_bits row) ∙ rw (lt-ltb (row / 64) (length marks) below) on in
    let inside : row < rows = omega (arith, mark_in row seen, tall) in
    omega (arith, row_fits row stride rows stride inside (omega arith), laid.size)

-- the words of a row alone
pub row_alone : (rows columns stride count : ℕ) (words : List ℕ) (row c : ℕ) → IsLaidOut rows columns stride count words → row < rows
    → (nat_lt (c / 64) ((columns + 63) / 64) && lit (take (row * stride + (columns + 63) / 64 - row * stride) (drop (row * stride) words)) 0 c)
    ≡ bit (bits_of rows columns stride words) row c
unfolding lit
row_alone rows columns stride count words row c laid h =
    elim (cases_lt (c / 64) ((columns + 63) / 64)) [
      | inl below ↦
          let first : 0 + c / 64 ≡ c / 64 = omega arith in
          let width : row * stride + (columns + 63) / 64 - row * stride ≡ (columns + 63) / 64 = omega arith in
          let part = get_or-take ((columns + 63) / 64) (drop (row * stride) words) (c / 64) 0 below ∙ get_or-drop (row * stride) words (c / 64) 0 in
          rw (first, width, part) (needed_lit rows columns stride count words row c laid h)
      | inr past ↦
          rw (le-ltb (c / 64) ((columns + 63) / 64) past)
          (sym (bit_past rows columns stride words row c (omega (arith, past))))
    ]

pub row_within : (rows columns stride : ℕ) (words : List ℕ) (row c : ℕ) → bit (bits_of rows columns stride words) row c ≡ true → c < columns
row_within rows columns stride words row c on =
    elim (cases_lt c columns) [ inl below ↦ below | inr past ↦ (cc (bit_past rows columns stride words row c past, on)) ]

-- a column that is on in the one alone
pub lacks_lit : (rows columns stride count : ℕ) (words : List ℕ) (other_rows other_columns other_stride other_count : ℕ) (other : List ℕ) (row other_row c : ℕ)
    → IsLaidOut rows columns stride count words → IsLaidOut other_rows other_columns other_stride other_count other
    → row < rows → other_row < other_rows → columns ≤ other_columns
    → bit (bits_of rows columns stride words) row c ≡ true → bit (bits_of other_rows other_columns other_stride other) other_row c ≢ true
    → LitInOne words other (row * stride) (other_row * other_stride) ((columns + 63) / 64)
lacks_lit rows columns stride count words other_rows other_columns other_stride other_count other row other_row c laid other_laid h k wide on off =
    let within = row_within rows columns stride words row c on in
    record {
      column = c;
      within = omega arith;
      here = sym (bit_within rows columns stride words row c h within) ∙ on;
      not_there = sym (bit_within other_rows other_columns other_stride other other_row c k (omega arith)) ∙ false_from_ne_true _ off;
    }

pub lit_lacks : (rows columns stride count : ℕ) (words : List ℕ) (other_rows other_columns other_stride other_count : ℕ) (other : List ℕ) (row other_row : ℕ)
    → IsLaidOut rows columns stride count words → IsLaidOut other_rows other_columns other_stride other_count other
    → row < rows → other_row < other_rows → columns ≤ other_columns
    → ((c : ℕ) → bit (bits_of rows columns stride words) row c ≡ true → bit (bits_of other_rows other_columns other_stride other) other_row c ≡ true)
    → LitInOne words other (row * stride) (other_row * other_stride) ((columns + 63) / 64) → ⊥
lit_lacks rows columns stride count words other_rows other_columns other_stride other_count other row other_row laid other_laid h k wide all found =
    let here = bit_in_words rows columns stride count words row found.column laid h (omega (arith, found.within, laid.wide)) ∙ found.here in
    let there = bit_in_words other_rows other_columns other_stride other_count other other_row found.column other_laid k (omega (arith, found.within, other_laid.wide, wide)) ∙ found.not_there in
    (cc (all found.column here, there))
