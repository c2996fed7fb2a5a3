-- Lines that were written are given back by their text.
use Rattle.std.proofs.Common.{◌≡◌, ℕ, ◌≤◌, arith, true, false, nat_lt, nat_eq, List, [], ◌∷◌, length, map, refl, ap, ◌∙◌}
use Rattle.std.specs.List.{list_all, AllByRecursion}
use Rattle.std.proofs.lemmas.Bool.{leb-true, ne_eqb, le-ltb}
use Rattle.etp_io.specs.Texts.{LineText, whole, lines_of, NoNewline, text_of, without_return}
use Rattle.etp_io.proofs.LineLemmas.{raw_lines-cut}
use Rattle.etp_items.specs.Written.{written_by}
use Rattle.etp_items.proofs.ReadBack.{both, is_text}

no_newline : (w : List ℕ) → list_all is_text w ≡ true → NoNewline w
no_newline [] h = tt
no_newline (b ∷ w) h =
    let s = both (is_text b) (list_all is_text w) h in
    let k : 32 ≤ b = leb-true 32 b s.0 in
    ((λ e. omega arith), no_newline w s.1)

no_return : (w : List ℕ) → list_all is_text w ≡ true → without_return w ≡ w
no_return [] h = refl
no_return (b ∷ []) h =
    let k : 32 ≤ b = leb-true 32 b (both (is_text b) true h).0 in
    let n : nat_eq b 13 ≡ false = ne_eqb b 13 (λ e. omega arith) in
    rw n refl
no_return (b ∷ c ∷ w) h = ap (λ z. b ∷ z) (no_return (c ∷ w) (both (is_text b) (list_all is_text (c ∷ w)) h).1)

short_text : (w : List ℕ) → length w ≤ 4096 → without_return w ≡ w → text_of 4096 w ≡ whole w
short_text w h e =
    let n : nat_lt 4096 (length w) ≡ false = le-ltb 4096 (length w) h in
    rw n (ap whole e)

module _ {A : Type 0} (written : A → List ℕ) where
  -- the lines of written lines
  abbrev pub as_given : List A → List LineText
  as_given [] = []
  as_given (l ∷ ls) = whole (written l) ∷ as_given ls

  pub given_length : (ls : List A) → length (as_given ls) ≡ length ls
  given_length [] = omega arith
  given_length (l ∷ ls) = omega (arith, given_length ls)

  -- a line of plain text, of at most 4096 bytes
  abbrev pub IsTextLine : A → Type 0
  IsTextLine l = (list_all is_text (written l) ≡ true) × (length (written l) ≤ 4096)

  pub lines_back : (ls : List A) → AllByRecursion IsTextLine ls → lines_of (written_by written ls) ≡ as_given ls
  lines_back [] h = refl
  lines_back (l ∷ ls) h =
      ap (map (text_of 4096)) (raw_lines-cut (written l) (written_by written ls) (no_newline (written l) h.0.0))
      ∙ ap (λ z. z ∷ lines_of (written_by written ls)) (short_text (written l) h.0.1 (no_return (written l) h.0.0))
      ∙ ap (λ z. whole (written l) ∷ z) (lines_back ls h.1)
