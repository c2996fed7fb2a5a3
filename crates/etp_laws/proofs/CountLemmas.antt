-- The program's counts, and the rank of a word.
use Rattle.std.proofs.Common.{◌≡◌, ℕ, ◌+◌, ◌-◌, ◌*◌, ◌<◌, ◌≤◌, ◌⊎◌, inl, inr, length, slice_index, refl, sym, ◌∙◌, ap, suc, zero, arith, Bool, true, ◌&&◌, ◌==◌, not, ltb}
use Rattle.std.proofs.lemmas.Bool.{cases_lt, and_parts, eqb-true, ltb-true}
use Rattle.etp_theory.specs.Trees.{Shape, fork, shape_ops}
use Rattle.etp_laws.specs.declared.counts.TheConstants.{WORDS}
use Rattle.etp_laws.specs.Occurrences.{Grows}
use Rattle.etp_laws.specs.Enumeration.{words, shapes}
use Rattle.etp_laws.specs.Places.{words_count, shape_rank, pairs_below}
use Rattle.etp_laws.proofs.ShapePlaces.{shape_rank-below}
use Rattle.etp_laws.specs.Words.{CountsWords}
use Rattle.etp_laws.proofs.Rising.{Contains-from_in, All-from_in}
use Rattle.etp_laws.proofs.WordLemmas.{In-words, words_are, Rising-words}
use Rattle.etp_laws.proofs.Counting.{length-words}

all_below : (ℕ → Bool) → ℕ → Bool
all_below p zero = true
all_below p (suc n) = p n && all_below p n

all_below-at : (p : ℕ → Bool) (n k : ℕ) → all_below p n ≡ true → k < n → p k ≡ true
unfolding all_below
all_below-at p zero k h l = absurd (omega arith)
all_below-at p (suc n) k h l = one (cases_lt k n) (and_parts (p n) (all_below p n) h) (λ m b. all_below-at p n k b m)
  where
    one : ((k < n) ⊎ (n ≤ k)) → (p n ≡ true) × (all_below p n ≡ true) → (k < n → all_below p n ≡ true → p k ≡ true) → p k ≡ true
    one (inl m) b more = more m b.1
    one (inr m) b more = let e : n ≡ k = omega arith in ap p (sym e) ∙ b.0

abbrev words_agree : ℕ → ℕ → Bool
words_agree r k = (slice_index WORDS (r * 9 + k) == words_count r k) && not (words_count r k == 0)

words_table : all_below (λ r. all_below (words_agree r) 9) 9 ≡ true
unfolding all_below
words_table = refl

words_at : (r k : ℕ) → r ≤ 8 → k ≤ 8 → words_agree r k ≡ true
words_at r k h l = all_below-at (words_agree r) 9 k (all_below-at (λ r. all_below (words_agree r) 9) 9 r words_table (omega arith)) (omega arith)

pub WORDS-at : (r k i : ℕ) → r ≤ 8 → k ≤ 8 → i ≡ r * 9 + k → slice_index WORDS i ≡ words_count r k
WORDS-at r k i h l e = ap (slice_index WORDS) e ∙ eqb-true (slice_index WORDS (r * 9 + k)) (words_count r k) (and_parts (slice_index WORDS (r * 9 + k) == words_count r k) (not (words_count r k == 0)) (words_at r k h l)).0

pub words_count-some : (r k : ℕ) → 0 < words_count r k
words_count-some zero k = omega arith
words_count-some (suc r) k = let m = words_count-some r (k + 1) in omega arith

small_shapes_table : all_below (λ n. ltb (length (shapes n)) 43) 6 ≡ true
unfolding all_below
small_shapes_table = refl

small_words_table : all_below (λ n. ltb (words_count n 0) 878) 8 ≡ true
unfolding all_below
small_words_table = refl

pub products : (a b : ℕ) → a ≤ 42 → b ≤ 42 → a * b ≤ 1764
products a b h l = grind arith

pub pairs_below-more : (n i : ℕ) → pairs_below n (i + 1) ≡ pairs_below n i + length (shapes i) * length (shapes (n - i))
pairs_below-more n i = let next : i + 1 ≡ suc i = omega arith in ap (pairs_below n) next

pub counts_words : (leaves used : ℕ) → CountsWords leaves used (words_count leaves used)
counts_words leaves used = record {
  all = words leaves used;
  are = record {
    rising = Rising-words leaves used;
    sound = All-from_in (λ w. Grows used w × (length w ≡ leaves)) (words leaves used) (λ w h. words_are leaves used w h);
    complete = λ w g e. Contains-from_in w (words leaves used) (In-words leaves used w g e);
  };
  count = sym (length-words leaves used);
}

pub small_shapes : (n : ℕ) → n ≤ 5 → length (shapes n) ≤ 42
small_shapes n h =
    let l = ltb-true (length (shapes n)) 43 (all_below-at (λ n. ltb (length (shapes n)) 43) 6 n small_shapes_table (omega arith)) in
    omega arith

pub small_words : (n : ℕ) → n ≤ 7 → words_count n 0 ≤ 877
small_words n h =
    let l = ltb-true (words_count n 0) 878 (all_below-at (λ n. ltb (words_count n 0) 878) 8 n small_words_table (omega arith)) in
    omega arith

pub rank_small : (s : Shape) → shape_ops s ≤ 5 → shape_rank s ≤ 42
rank_small s h = let a = shape_rank-below s in let b = small_shapes (shape_ops s) h in omega arith

-- the shape of two parts
pub joined_small : (a b : Shape) (i j x y p : ℕ) → i ≡ shape_ops a → j ≡ shape_ops b → x ≡ shape_rank a → y ≡ shape_rank b → i + j ≤ 4 → p ≡ pairs_below (i + j) i + (x * length (shapes j) + y) → p ≤ 42
joined_small a b i j x y p ei ej ex ey h e =
    let is : p ≡ shape_rank (fork a b) = e ∙ (λ d. pairs_below (ei d + ej d) (ei d) + (ex d * length (shapes (ej d)) + ey d)) in
    let small = rank_small (fork a b) (omega arith) in
    omega arith

pub products_long : (a b : ℕ) → a ≤ 10626 → b ≤ 877 → a * b ≤ 9319002
products_long a b h l = grind arith

pub words_small : (n w : ℕ) → w ≡ words_count n 0 → n ≤ 7 → w ≤ 877
words_small n w e h = let l = small_words n h in omega arith

pub block_small_less : (before words l s r : ℕ) → before ≤ 8820 → words ≤ 877 → l ≤ 42 → s ≤ 42 → r ≤ 42 → (before + (l * s + r)) * words ≤ 9319002
block_small_less before words l s r a b c d e = let p = products l s c d in products_long (before + (l * s + r)) words (omega arith) b

pub block_small_equal : (before words l r : ℕ) → before ≤ 8820 → words ≤ 877 → l ≤ 42 → r ≤ 42 → (before + l) * words + r * 112 ≤ 9323706
block_small_equal before words l r a b c e = let p = products_long (before + l) words (omega arith) b in omega arith
