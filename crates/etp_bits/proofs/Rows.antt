-- What callers see of a matrix, from the words that hold it.
use Rattle.std.proofs.Common.{◌≡◌, ◌≢◌, ℕ, zero, suc, ◌+◌, ◌*◌, ◌/◌, ◌%◌, ◌^◌, ◌<◌, ◌≤◌, max, Bool, true, false, ◌&&◌, ◌||◌, if◌then◌else◌, nat_eq, nat_lt, List, [], length, get_or, set, take, map, replicate, refl, sym, ap, ◌∙◌, arith, inl, inr, get_or-set_same, get_or-set_other}
use Rattle.std.specs.Prelude.{bit_and, bit_or, slice_index}
use Rattle.std.specs.List.{range_with_len}
use Rattle.std.specs.Int.{bit_at, w64}
use Rattle.std.proofs.lemmas.List.{get_or-take, get_or_past, get_or-replicate, length-replicate}
use Rattle.std.proofs.lemmas.List.FromFn.{length-map-range_with_len, get_or-map-range_with_len}
use Rattle.std.proofs.lemmas.Nat.{same_from_place, mul-add-lt, row_fits}
use Rattle.std.proofs.lemmas.Nat.Bits.{bit_at_or, bit_at-lt, bit_at_set_same, bit_at_set_other, bit_at-zero, shr_and_one}
use Rattle.std.proofs.lemmas.Bool.{cases_lt, cases_eq, eq-eqb, ne_eqb, lt-ltb, le-ltb, and_right, or_right, cases_order, false_from_ne_true}
use Rattle.std.proofs.Math.Nat.{mul-le-mul_right}
use Rattle.etp_bits.specs.Bits.{Bits, bit, IsBlank, Resizes}
use Rattle.etp_bits.specs.Counts.{count_below}
use Rattle.etp_bits.specs.Words.{lit, bits_of, IsLaidOut, JoinsWords, Spreads, Regrows}
use Rattle.etp_bits.proofs.Counting.{count_below-past, count_below-same}
use Rattle.etp_bits.proofs.NumberTests.{or_none}

get_made : {X : Type 0} (f : ℕ → X) (n i : ℕ) (d : X) → get_or (map f (range_with_len 0 n)) i d ≡ (if nat_lt i n then f i else d)
get_made f n i d =
    elim (cases_lt i n) [
      | inl below ↦ rw (lt-ltb i n below) (get_or-map-range_with_len f 0 n i i d below (omega arith))
      | inr past ↦ rw (le-ltb i n past) (get_or_past (map f (range_with_len 0 n)) i d (omega (arith, length-map-range_with_len f 0 n)))
    ]

-- a bit that callers see is on in the words, within the sizes
pub bit-bits_of : (rows columns stride : ℕ) (words : List ℕ) (row column : ℕ)
    → bit (bits_of rows columns stride words) row column
    ≡ (nat_lt row rows && (nat_lt column columns && lit words (row * stride) column))
unfolding bit
bit-bits_of rows columns stride words row column =
    let line = get_made (λ r. map (lit words (r * stride)) (range_with_len 0 columns)) rows row [] in
    let item = get_made (lit words (row * stride)) columns column false in
    elim (cases_lt row rows) [
      | inl below ↦
          let here = rw (lt-ltb row rows below) at line in
          rw (lt-ltb row rows below, here, item)
          (elim (nat_lt column columns) as (λ b. (if b then lit words (row * stride) column else false) ≡ (b && lit words (row * stride) column)) [ true ↦ refl | false ↦ refl ])
      | inr past ↦
          let here = rw (le-ltb row rows past) at line in
          rw (le-ltb row rows past, here) refl
    ]

-- within the sizes
pub bit_within : (rows columns stride : ℕ) (words : List ℕ) (row column : ℕ) → row < rows → column < columns
    → bit (bits_of rows columns stride words) row column ≡ lit words (row * stride) column
bit_within rows columns stride words row column h k =
    bit-bits_of rows columns stride words row column ∙ rw (lt-ltb row rows h, lt-ltb column columns k) refl

pub bit_below : (rows columns stride : ℕ) (words : List ℕ) (row column : ℕ) → rows ≤ row
    → bit (bits_of rows columns stride words) row column ≡ false
bit_below rows columns stride words row column h =
    bit-bits_of rows columns stride words row column ∙ rw (le-ltb row rows h) refl

-- past the last column, also by the words alone
pub bit_past : (rows columns stride : ℕ) (words : List ℕ) (row column : ℕ) → columns ≤ column
    → bit (bits_of rows columns stride words) row column ≡ false
bit_past rows columns stride words row column h =
    bit-bits_of rows columns stride words row column
    ∙ rw (le-ltb column columns h) (elim (nat_lt row rows) as (λ b. (b && false) ≡ false) [ true ↦ refl | false ↦ refl ])

-- also past the last column, as far as the row's words go
pub bit_in_words : (rows columns stride count : ℕ) (words : List ℕ) (row column : ℕ)
    → IsLaidOut rows columns stride count words → row < rows → column < 64 * stride
    → bit (bits_of rows columns stride words) row column ≡ lit words (row * stride) column
bit_in_words rows columns stride count words row column laid h k =
    elim (cases_lt column columns) [
      | inl within ↦ bit_within rows columns stride words row column h within
      | inr past ↦ bit_past rows columns stride words row column past ∙ sym (laid.off_past row column h past k)
    ]

-- the place of a word is within the list
pub place_within : (rows columns stride count : ℕ) (words : List ℕ) (row column : ℕ)
    → IsLaidOut rows columns stride count words → row < rows → column < columns → row * stride + column / 64 < count
place_within rows columns stride count words row column laid h k =
    let word : column / 64 < stride = omega (arith, laid.wide) in
    omega (arith, laid.size, mul-add-lt row stride (column / 64) rows h word)

-- a bit as it is read
pub read_bit : (rows columns stride : ℕ) (words : List ℕ) (row column : ℕ) → row < rows → column < columns
    → nat_eq (bit_and (slice_index words (row * stride + column / 64) / 2 ^ (column % 64)) 1) 1
    ≡ bit (bits_of rows columns stride words) row column
unfolding lit
read_bit rows columns stride words row column h k =
    ap (λ b. nat_eq b 1) (shr_and_one (slice_index words (row * stride + column / 64)) (column % 64))
    ∙ sym (bit_within rows columns stride words row column h k)

pub either_bit : (a b : ℕ) → a < 2 → b < 2 → nat_eq (max a b) 1 ≡ (nat_eq a 1 || nat_eq b 1)
either_bit zero zero h k = refl
either_bit zero (suc zero) h k = refl
either_bit (suc zero) zero h k = refl
either_bit (suc zero) (suc zero) h k = refl
either_bit zero (suc (suc b)) h k = absurd (omega arith)
either_bit (suc zero) (suc (suc b)) h k = absurd (omega arith)
either_bit (suc (suc a)) b h k = absurd (omega arith)

-- the bits of the words after a row was joined
pub joined_lit : (old new other : List ℕ) (stride into from count row column : ℕ)
    → JoinsWords old new other (into * stride) from count → count ≤ stride → column < 64 * stride
    → lit new (row * stride) column
    ≡ (lit old (row * stride) column || (nat_eq row into && (nat_lt (column / 64) count && lit other from column)))
unfolding lit
joined_lit old new other stride into from count row column h narrow within =
    let word : column / 64 < stride = omega arith in
    let spot = column % 64 in
    elim (cases_order row into) [
      | inl same ↦
          rw (same, eq-eqb into into refl)
          (elim (cases_lt (column / 64) count) [
            | inl below ↦
                let before = slice_index old (into * stride + column / 64) in
                let partner = slice_index other (from + column / 64) in
                rw (lt-ltb (column / 64) count below, h.joined (column / 64) below, bit_at_or before partner spot)
                (either_bit (bit_at before spot) (bit_at partner spot) (bit_at-lt before spot) (bit_at-lt partner spot))
            | inr past ↦
                rw (le-ltb (column / 64) count past, h.after (into * stride + column / 64) (omega arith))
                (or_none _ false refl)
          ])
      | inr (inl lower) ↦
          let before : row * stride + column / 64 < into * stride = omega (arith, mul-add-lt row stride (column / 64) into lower word) in
          rw (ne_eqb row into (λ e. (omega (arith, e))), h.before (row * stride + column / 64) before) (or_none _ false refl)
      | inr (inr higher) ↦
          let after : into * stride + count ≤ row * stride + column / 64 = omega (arith, row_fits into stride row stride higher (omega arith)) in
          rw (ne_eqb row into (λ e. (omega (arith, e))), h.after (row * stride + column / 64) after) (or_none _ false refl)
    ]

-- a row's bits, by as many words as its columns need
pub needed_lit : (rows columns stride count : ℕ) (words : List ℕ) (row column : ℕ) → IsLaidOut rows columns stride count words
    → row < rows
    → (nat_lt (column / 64) ((columns + 63) / 64) && lit words (row * stride) column)
    ≡ bit (bits_of rows columns stride words) row column
needed_lit rows columns stride count words row column laid h =
    elim (cases_lt column columns) [
      | inl within ↦
          let below : column / 64 < (columns + 63) / 64 = omega arith in
          rw (lt-ltb (column / 64) ((columns + 63) / 64) below) (sym (bit_within rows columns stride words row column h within))
      | inr past ↦
          rw (bit_past rows columns stride words row column past)
          (elim (cases_lt (column / 64) ((columns + 63) / 64)) [
            | inl below ↦
                let in_words : column < 64 * stride = omega (arith, laid.wide) in
                rw (laid.off_past row column h past in_words) (and_right (nat_lt (column / 64) ((columns + 63) / 64)) false refl)
            | inr beyond ↦ rw (le-ltb (column / 64) ((columns + 63) / 64) beyond) refl
          ])
    ]

-- what a row joined to a row leaves
pub record RowJoined (rows columns stride count : ℕ) (old new : List ℕ) (other : Bits) (into from : ℕ) : Type 0 where
  pub laid : IsLaidOut rows columns stride count new
  pub bits : (row column : ℕ) → bit (bits_of rows columns stride new) row column
      ≡ (bit (bits_of rows columns stride old) row column || (nat_eq row into && bit other from column))

pub row_joined : (rows columns stride count : ℕ) (old new : List ℕ) (other_rows other_columns other_stride other_count : ℕ)
    (other : List ℕ) (into from : ℕ)
    → IsLaidOut rows columns stride count old → IsLaidOut other_rows other_columns other_stride other_count other
    → JoinsWords old new other (into * stride) (from * other_stride) ((other_columns + 63) / 64)
    → into < rows → from < other_rows → other_columns ≤ columns
    → RowJoined rows columns stride count old new (bits_of other_rows other_columns other_stride other) into from
row_joined rows columns stride count old new other_rows other_columns other_stride other_count other into from laid other_laid h p q narrow =
    let needed = (other_columns + 63) / 64 in
    let fits : needed ≤ stride = omega (arith, laid.wide) in
    let theirs = bits_of other_rows other_columns other_stride other in
    let lits = λ (row column : ℕ) (k : column < 64 * stride).
    joined_lit old new other stride into (from * other_stride) needed row column h fits k
    ∙ ap (λ b. lit old (row * stride) column || (nat_eq row into && b)) (needed_lit other_rows other_columns other_stride other_count other from column other_laid q) in
    record {
      laid = record {
        size = laid.size;
        wide = laid.wide;
        narrow = laid.narrow;
        off_past = λ row column h past k.
            lits row column k
            ∙ rw (laid.off_past row column h past k, bit_past other_rows other_columns other_stride other from column (omega arith))
            (and_right (nat_eq row into) false refl);
      };
      bits = λ row column.
          elim (cases_lt row rows) [
            | inl below ↦
                elim (cases_lt column columns) [
                  | inl within ↦
                      rw (bit_within rows columns stride new row column below within, bit_within rows columns stride old row column below within)
                      (lits row column (omega (arith, laid.wide)))
                  | inr past ↦
                      rw (bit_past rows columns stride new row column past, bit_past rows columns stride old row column past, bit_past other_rows other_columns other_stride other from column (omega arith))
                      (sym (and_right (nat_eq row into) false refl))
                ]
            | inr past ↦
                rw (bit_below rows columns stride new row column past, bit_below rows columns stride old row column past, ne_eqb row into (λ e. (omega (arith, e)))) refl
          ];
    }

-- a bit that is set in its word
set_lit : (words : List ℕ) (stride row column r c : ℕ) → column < 64 * stride → c < 64 * stride
    → row * stride + column / 64 < length words
    → lit (set words (row * stride + column / 64) (bit_or (slice_index words (row * stride + column / 64)) (1 * 2 ^ (column % 64) % 2 ^ 64))) (r * stride) c
    ≡ (lit words (r * stride) c || (nat_eq r row && nat_eq c column))
unfolding lit
set_lit words stride row column r c h k inside =
    let place = row * stride + column / 64 in
    let old = slice_index words place in
    let word = bit_or old (1 * 2 ^ (column % 64) % 2 ^ 64) in
    let spot : column % 64 < 64 = omega arith in
    elim (cases_eq (r * stride + c / 64) place) [
      | inl same ↦
          let places = same_from_place r (c / 64) row (column / 64) stride (omega arith) (omega arith) same in
          rw (same, places.0, get_or-set_same words place word 0 inside, eq-eqb row row refl)
          (elim (cases_eq (c % 64) (column % 64)) [
            | inl equal ↦
                let one : c ≡ column = omega (arith, places.1, equal) in
                rw (equal, bit_at_set_same w64 old (column % 64) spot, one, eq-eqb column column refl) (sym (or_right _ true refl))
            | inr differs ↦
                rw (bit_at_set_other w64 old (column % 64) spot (c % 64) differs, ne_eqb c column (λ e. differs (ap (λ n. n % 64) e))) (or_none _ false refl)
          ])
      | inr apart ↦
          rw (get_or-set_other words place (r * stride + c / 64) word 0 apart)
          (or_none _ _ (elim (cases_eq r row) [
            | inl equal ↦
                let other : c ≢ column = λ e. apart (ap (λ (n : ℕ). n * stride + c / 64) equal ∙ ap (λ (n : ℕ). row * stride + n / 64) e) in
                rw (ne_eqb c column other) (and_right (nat_eq r row) false refl)
            | inr differs ↦ rw (ne_eqb r row differs) refl
          ]))
    ]

-- what a bit that is set leaves
pub record BitSet (rows columns stride count : ℕ) (old new : List ℕ) (row column : ℕ) : Type 0 where
  pub laid : IsLaidOut rows columns stride count new
  pub bits : (r c : ℕ) → bit (bits_of rows columns stride new) r c
      ≡ (bit (bits_of rows columns stride old) r c || (nat_eq r row && nat_eq c column))

set_once : (rows columns stride count : ℕ) (words : List ℕ) (row column : ℕ) → IsLaidOut rows columns stride count words
    → length words ≡ count → row < rows → column < columns
    → BitSet rows columns stride count words (set words (row * stride + column / 64) (bit_or (slice_index words (row * stride + column / 64)) (1 * 2 ^ (column % 64) % 2 ^ 64))) row column
set_once rows columns stride count words row column laid size h k =
    let place = row * stride + column / 64 in
    let new = set words place (bit_or (slice_index words place) (1 * 2 ^ (column % 64) % 2 ^ 64)) in
    let inside : place < length words = omega (arith, place_within rows columns stride count words row column laid h k, size) in
    let lits = λ (r c : ℕ) (within : c < 64 * stride). set_lit words stride row column r c (omega (arith, laid.wide)) within inside in
    record {
      laid = record {
        size = laid.size;
        wide = laid.wide;
        narrow = laid.narrow;
        off_past = λ r c below past within.
            let other : c ≢ column = omega arith in
            lits r c within ∙ rw (laid.off_past r c below past within, ne_eqb c column other) (and_right (nat_eq r row) false refl);
      };
      bits = λ r c.
          elim (cases_lt r rows) [
            | inl below ↦
                elim (cases_lt c columns) [
                  | inl within ↦
                      rw (bit_within rows columns stride new r c below within, bit_within rows columns stride words r c below within)
                      (lits r c (omega (arith, laid.wide)))
                  | inr past ↦
                      let other : c ≢ column = omega arith in
                      rw (bit_past rows columns stride new r c past, bit_past rows columns stride words r c past, ne_eqb c column other)
                      (sym (and_right (nat_eq r row) false refl))
                ]
            | inr past ↦
                let other : r ≢ row = omega arith in
                rw (bit_below rows columns stride new r c past, bit_below rows columns stride words r c past, ne_eqb r row other) refl
          ];
    }

pub bit_set : (rows columns stride count : ℕ) (words : List ℕ) (row column read : ℕ) → IsLaidOut rows columns stride count words
    → length words ≡ count → row < rows → column < columns → read ≡ slice_index words (row * stride + column / 64)
    → BitSet rows columns stride count words (set words (row * stride + column / 64) (bit_or read (1 * 2 ^ (column % 64) % 2 ^ 64))) row column
bit_set rows columns stride count words row column read laid size h k is =
    rw is (set_once rows columns stride count words row column laid size h k)

lit_alike : (words other : List ℕ) (start from column : ℕ)
    → slice_index words (start + column / 64) ≡ slice_index other (from + column / 64) → lit words start column ≡ lit other from column
unfolding lit
lit_alike words other start from column same = rw same refl

lit_blank : (words : List ℕ) (start column : ℕ) → slice_index words (start + column / 64) ≡ 0 → lit words start column ≡ false
unfolding lit
lit_blank words start column none = rw (none, bit_at-zero (column % 64)) refl

-- words that are all 0
pub record IsDark (rows columns stride count : ℕ) (words : List ℕ) : Type 0 where
  pub laid : IsLaidOut rows columns stride count words
  pub blank : IsBlank (bits_of rows columns stride words) rows columns

pub dark : (rows columns stride count : ℕ) (words : List ℕ) → count ≡ rows * stride → columns ≤ 64 * stride → stride ≤ 2 ^ 26
    → words ≡ replicate count 0 → IsDark rows columns stride count words
dark rows columns stride count words size wide narrow zeros =
    let none : (i : ℕ) → slice_index words i ≡ 0 = λ i.
    ap (λ (ws : List ℕ). slice_index ws i) zeros
    ∙ elim (cases_lt i count) [
      | inl below ↦ get_or-replicate count i 0 0 below
      | inr past ↦ get_or_past (replicate count 0) i 0 (omega (arith, length-replicate {A = ℕ} count 0))
    ] in
    record {
      laid = record {
        size = size;
        wide = wide;
        narrow = narrow;
        off_past = λ row column below past within. lit_blank words (row * stride) column (none (row * stride + column / 64));
      };
      blank = record {
        rows_are = refl;
        columns_are = refl;
        all_off = λ row column.
            bit-bits_of rows columns stride words row column
            ∙ rw (lit_blank words (row * stride) column (none (row * stride + column / 64)))
            (and_right (nat_lt row rows) _ (and_right (nat_lt column columns) false refl));
      };
    }

-- a count over the words that the columns need is one over the columns
pub count_needed : (p q : ℕ → Bool) (columns : ℕ) → ((column : ℕ) → column < columns → p column ≡ q column)
    → ((column : ℕ) → columns ≤ column → column < 64 * ((columns + 63) / 64) → p column ≡ false)
    → count_below p (64 * ((columns + 63) / 64)) ≡ count_below q columns
count_needed p q columns same off =
    count_below-past p columns (64 * ((columns + 63) / 64)) (omega arith) off ∙ count_below-same p q columns same

-- one row more is spread out
pub spreads_more : (words before longer after : List ℕ) (row stride wider : ℕ) → stride ≤ wider
    → ((k : ℕ) → k < row * wider → slice_index longer k ≡ slice_index before k)
    → ((k : ℕ) → k < stride → slice_index longer (row * wider + k) ≡ slice_index words (row * stride + k))
    → ((k : ℕ) → k < row * wider + stride → slice_index after k ≡ slice_index longer k)
    → ((k : ℕ) → row * wider + stride ≤ k → k < row * wider + wider → slice_index after k ≡ 0)
    → Spreads words before row stride wider → Spreads words after (row + 1) stride wider
spreads_more words before longer after row stride wider wide below added kept zeros h = record {
  kept = λ r place in_rows in_row.
      elim (cases_eq r row) [
        | inl same ↦
            rw same (kept (row * wider + place) (omega arith) ∙ added place in_row)
        | inr differs ↦
            let earlier : r < row = omega (arith, differs) in
            let spot : r * wider + place < row * wider = omega (arith, mul-add-lt r wider place row earlier (omega arith)) in
            kept (r * wider + place) (omega arith) ∙ below (r * wider + place) spot ∙ h.kept r place earlier in_row
      ];
  blank = λ r place in_rows past in_row.
      elim (cases_eq r row) [
        | inl same ↦ rw same (zeros (row * wider + place) (omega arith) (omega arith))
        | inr differs ↦
            let earlier : r < row = omega (arith, differs) in
            let spot : r * wider + place < row * wider = omega (arith, mul-add-lt r wider place row earlier in_row) in
            kept (r * wider + place) (omega arith) ∙ below (r * wider + place) spot ∙ h.blank r place earlier past in_row
      ];
}

-- what a matrix is after it grew
pub record Grown (rows columns wider count : ℕ) (words : List ℕ) (old : Bits) : Type 0 where
  pub laid : IsLaidOut rows columns wider count words
  pub grows : Resizes old (bits_of rows columns wider words) rows columns

pub grown : (old_rows old_columns stride old_count : ℕ) (old : List ℕ) (rows columns wider count : ℕ) (words : List ℕ)
    → IsLaidOut old_rows old_columns stride old_count old → stride ≤ wider → wider ≤ 2 ^ 26
    → Regrows old words old_rows stride rows wider
    → count ≡ rows * wider → columns ≤ 64 * wider → old_rows ≤ rows → old_columns ≤ columns
    → Grown rows columns wider count words (bits_of old_rows old_columns stride old)
grown old_rows old_columns stride old_count old rows columns wider count words laid wide narrow regrows total fits more_rows more_columns =
    let was = bits_of old_rows old_columns stride old in
    let lits : (row column : ℕ) → column < 64 * wider → lit words (row * wider) column ≡ bit was row column = λ row column within.
    elim (cases_lt row old_rows) [
      | inl below ↦
          elim (cases_lt (column / 64) stride) [
            | inl kept ↦
                lit_alike words old (row * wider) (row * stride) column
                (regrows.old_words.kept row (column / 64) below kept)
                ∙ sym (bit_in_words old_rows old_columns stride old_count old row column laid below (omega arith))
            | inr past ↦
                lit_blank words (row * wider) column (regrows.old_words.blank row (column / 64) below past (omega arith))
                ∙ sym (bit_past old_rows old_columns stride old row column (omega (arith, laid.wide)))
          ]
      | inr past ↦
          let far : old_rows * wider ≤ row * wider = mul-le-mul_right wider past in
          lit_blank words (row * wider) column (regrows.new_words (row * wider + column / 64) (omega (arith, far)))
          ∙ sym (bit_below old_rows old_columns stride old row column past)
    ] in
    record {
      laid = record {
        size = total;
        wide = fits;
        narrow = narrow;
        off_past = λ row column below past within.
            lits row column within ∙ bit_past old_rows old_columns stride old row column (omega arith);
      };
      grows = record {
        rows_are = refl;
        columns_are = refl;
        same_bits = λ row column.
            elim (cases_lt row rows) [
              | inl below ↦
                  elim (cases_lt column columns) [
                    | inl within ↦ bit_within rows columns wider words row column below within ∙ lits row column (omega arith)
                    | inr past ↦
                        bit_past rows columns wider words row column past
                        ∙ sym (bit_past old_rows old_columns stride old row column (omega arith))
                  ]
              | inr past ↦
                  bit_below rows columns wider words row column past
                  ∙ sym (bit_below old_rows old_columns stride old row column (omega arith))
            ];
      };
    }

-- what a matrix is after its last rows and columns were taken away
pub shrunk : (old_rows old_columns stride old_count : ℕ) (old : List ℕ) (rows columns count : ℕ) (words : List ℕ)
    → IsLaidOut old_rows old_columns stride old_count old → rows ≤ old_rows → columns ≤ old_columns
    → ((r c : ℕ) → bit (bits_of old_rows old_columns stride old) r c ≡ true → (r < rows) × (c < columns))
    → words ≡ take (rows * stride) old → count ≡ rows * stride
    → Grown rows columns stride count words (bits_of old_rows old_columns stride old)
shrunk old_rows old_columns stride old_count old rows columns count words laid fewer_rows fewer_columns off is total =
    let was = bits_of old_rows old_columns stride old in
    let lits : (row column : ℕ) → row < rows → column < 64 * stride → lit words (row * stride) column ≡ bit was row column = λ row column below within.
    let spot : row * stride + column / 64 < rows * stride = omega (arith, mul-add-lt row stride (column / 64) rows below (omega arith)) in
    lit_alike words old (row * stride) (row * stride) column
    (ap (λ (ws : List ℕ). slice_index ws (row * stride + column / 64)) is ∙ get_or-take (rows * stride) old (row * stride + column / 64) 0 spot)
    ∙ sym (bit_in_words old_rows old_columns stride old_count old row column laid (omega arith) within) in
    let outside : (row column : ℕ) → rows ≤ row → bit was row column ≡ false = λ row column past.
    false_from_ne_true (bit was row column) (λ on. omega (arith, (off row column on).0)) in
    let beyond : (row column : ℕ) → columns ≤ column → bit was row column ≡ false = λ row column past.
    false_from_ne_true (bit was row column) (λ on. omega (arith, (off row column on).1)) in
    record {
      laid = record {
        size = total;
        wide = omega (arith, laid.wide);
        narrow = laid.narrow;
        off_past = λ row column below past within. lits row column below within ∙ beyond row column past;
      };
      grows = record {
        rows_are = refl;
        columns_are = refl;
        same_bits = λ row column.
            elim (cases_lt row rows) [
              | inl below ↦
                  elim (cases_lt column columns) [
                    | inl within ↦ bit_within rows columns stride words row column below within ∙ lits row column below (omega (arith, laid.wide))
                    | inr past ↦ bit_past rows columns stride words row column past ∙ sym (beyond row column past)
                  ]
              | inr past ↦ bit_below rows columns stride words row column past ∙ sym (outside row column past)
            ];
      };
    }
