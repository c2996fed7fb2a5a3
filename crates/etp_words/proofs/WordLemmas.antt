-- Words of a line, read from its front.
use Rattle.std.proofs.Common.{◌≡◌, ℕ, zero, suc, ◌+◌, ◌≤◌, ◌<◌, ◌^◌, ◌-◌, add-zero, add-suc, List, [], ◌∷◌, ◌++◌, length, take, drop, get_or, refl, sym, ◌∙◌, ap, add-one, arith, Bool, true, false, not}
use Rattle.std.proofs.lemmas.List.{take-append-drop, length-take, get_or-take}
use Rattle.std.proofs.Math.Seq.{drop-cons, drop-length}
use Rattle.std.proofs.Math.Nat.{pow-suc}
use Rattle.std.proofs.lemmas.Bool.{true≢false, not-false}
use Rattle.etp_io.specs.Texts.{begin_first}
use Rattle.etp_words.specs.Words.{is_blank, goes_on, words_of, skip_word}

words_of-blank : (b : ℕ) (bytes : List ℕ) → is_blank b ≡ true → words_of (b ∷ bytes) ≡ words_of bytes
words_of-blank b bytes e = rw e refl

-- a blank at the front is skipped
pub words_of-skip : (line : List ℕ) (i : ℕ) → i < length line → is_blank (get_or line i 0) ≡ true → words_of (drop i line) ≡ words_of (drop (i + 1) line)
words_of-skip line i h e = rw (drop-cons line i 0 h, add-one) (words_of-blank (get_or line i 0) (drop (suc i) line) e)

words_of-on : (b : ℕ) (bytes : List ℕ) → is_blank b ≡ false → goes_on bytes ≡ true → words_of (b ∷ bytes) ≡ begin_first b (words_of bytes)
words_of-on b bytes e f = rw (e, f) refl

pub words_of-append : (word rest : List ℕ) → 0 < length word → ((k : ℕ) → k < length word → is_blank (get_or word k 0) ≡ false) → goes_on rest ≡ false
    → words_of (word ++ rest) ≡ word ∷ words_of rest
words_of-append [] rest some each stops = absurd (omega (arith, some))
words_of-append (b ∷ []) rest some each stops = rw (each 0 (omega arith), stops) refl
words_of-append (b ∷ c ∷ word) rest some each stops =
    let on : goes_on ((c ∷ word) ++ rest) ≡ true = rw (each 1 (omega arith)) refl in
    words_of-on b ((c ∷ word) ++ rest) (each 0 (omega arith)) on
    ∙ ap (begin_first b) (words_of-append (c ∷ word) rest (omega arith) (λ k h. each (suc k) (omega arith)) stops)

pub pow_ten-add : (i k : ℕ) → 10 ^ i ≤ 10 ^ (i + k)
pow_ten-add i zero = rw add-zero (omega arith)
pow_ten-add i (suc k) = rw (add-suc, pow-suc) (omega (arith, pow_ten-add i k))

pub pow_ten-le : (i j : ℕ) → i ≤ j → 10 ^ i ≤ 10 ^ j
pow_ten-le i j h = let e : i + (j - i) ≡ j = omega arith in rw e at (pow_ten-add i (j - i))

-- the value of a few digits is small
pub digits_small : (value i : ℕ) → value < 10 ^ i → i < 10 → value < 1000000000
digits_small value i h small = let most : 10 ^ i ≤ 10 ^ 9 = pow_ten-le i 9 (omega arith) in omega arith

first-on : (line : List ℕ) → goes_on line ≡ true → is_blank (get_or line 0 0) ≡ false
first-on [] e = cc
first-on (b ∷ bytes) e = not_true (is_blank b) e
  where
    not_true : (v : Bool) → not v ≡ true → v ≡ false
    not_true true h = cc
    not_true false h = refl

words_of-cut : (line : List ℕ) (n : ℕ) → n ≤ length line → 0 < n → ((k : ℕ) → k < n → is_blank (get_or line k 0) ≡ false) → goes_on (drop n line) ≡ false
    → words_of line ≡ take n line ∷ words_of (drop n line)
words_of-cut line n in_line some each stops =
    let long : length (take n line) ≡ n = rw length-take (omega arith) in
    ap words_of (sym (take-append-drop n line))
    ∙ words_of-append (take n line) (drop n line) (omega arith)
    (λ k h. let below : k < n = omega arith in rw (get_or-take n line k 0 below) (each k below)) stops

-- a blank ends the word at the front
pub words_of-until : (line : List ℕ) (n : ℕ) → n < length line → goes_on line ≡ true → ((k : ℕ) → k < n → is_blank (get_or line k 0) ≡ false) → is_blank (get_or line n 0) ≡ true
    → words_of line ≡ take n line ∷ words_of (drop n line)
words_of-until line zero in_line begins each blank = absurd (true≢false (sym blank ∙ first-on line begins))
words_of-until line (suc n) in_line begins each blank =
    words_of-cut line (suc n) (omega arith) (omega arith) each (rw (drop-cons line (suc n) 0 in_line, blank) refl)

-- the word at the front is all there is
pub words_of-all : (line : List ℕ) → 0 < length line → ((k : ℕ) → k < length line → is_blank (get_or line k 0) ≡ false)
    → words_of line ≡ take (length line) line ∷ words_of (drop (length line) line)
words_of-all line some each = words_of-cut line (length line) (omega arith) some each (rw drop-length refl)

not_on : (line : List ℕ) → goes_on line ≡ false → skip_word line ≡ line
not_on [] e = refl
not_on (b ∷ bytes) e = rw (not-false (is_blank b) e) refl

-- the word at the front is what stands before the first blank
skip_word-cut : (line : List ℕ) (n : ℕ) → n ≤ length line → ((k : ℕ) → k < n → is_blank (get_or line k 0) ≡ false) → goes_on (drop n line) ≡ false → drop n line ≡ skip_word line
skip_word-cut line zero h each stops = sym (not_on line stops)
skip_word-cut [] (suc n) h each stops = absurd (omega (arith, h))
skip_word-cut (b ∷ bytes) (suc n) h each stops =
    skip_word-cut bytes n (omega (arith, h)) (λ k l. each (suc k) (omega arith)) stops ∙ rw (each 0 (omega arith)) refl

pub skip_word-until : (line : List ℕ) (n : ℕ) → n < length line → ((k : ℕ) → k < n → is_blank (get_or line k 0) ≡ false) → is_blank (get_or line n 0) ≡ true → drop n line ≡ skip_word line
skip_word-until line n h each blank = skip_word-cut line n (omega arith) each (rw (drop-cons line n 0 h, blank) refl)

pub skip_word-all : (line : List ℕ) → ((k : ℕ) → k < length line → is_blank (get_or line k 0) ≡ false) → drop (length line) line ≡ skip_word line
skip_word-all line each = skip_word-cut line (length line) (omega arith) each (rw drop-length refl)
