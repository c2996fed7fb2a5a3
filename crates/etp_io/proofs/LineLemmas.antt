-- Lines and the parts that they are read in.
use Rattle.std.proofs.Common.{◌≡◌, ℕ, zero, suc, ◌+◌, ◌-◌, ◌≤◌, ◌<◌, min, inl, inr, List, [], ◌∷◌, ◌++◌, length, take, drop, get_or, refl, sym, ◌∙◌, ap, add-one, arith}
use Rattle.std.proofs.lemmas.Bool.Decides.{nat_tests}
use Rattle.std.proofs.lemmas.Bool.{cases_lt}
use Rattle.std.proofs.lemmas.List.{length-take, take_all, take-append-le, drop-take, drop-drop, take-append-drop, take-take}
use Rattle.std.proofs.Math.Seq.{drop-cons, take-append-add}
use Rattle.etp_io.specs.Texts.{whole, too_long, begin_first, raw_lines, without_return, text_of, NoNewline, keep_newline, to_last_newline}
use Rattle.etp_io.specs.Parts.{FirstNewline, Joins, Cuts}

pub NoNewline-append : (xs ys : List ℕ) → NoNewline xs → NoNewline ys → NoNewline (xs ++ ys)
NoNewline-append [] ys h k = k
NoNewline-append (x ∷ xs) ys h k = (h.0, NoNewline-append xs ys h.1 k)

-- the lines of a part

pub raw_lines-byte : (b : ℕ) (bytes : List ℕ) → (b ≡ 10 → ⊥) → raw_lines (b ∷ bytes) ≡ begin_first b (raw_lines bytes)
raw_lines-byte b bytes n = grind (arith, nat_tests)

pub raw_lines-plain : (b : ℕ) (seen : List ℕ) → NoNewline (b ∷ seen) → raw_lines (b ∷ seen) ≡ (b ∷ seen) ∷ []
raw_lines-plain b [] h = raw_lines-byte b [] h.0
raw_lines-plain b (c ∷ seen) h = raw_lines-byte b (c ∷ seen) h.0 ∙ ap (begin_first b) (raw_lines-plain c seen h.1)

pub raw_lines-cut : (seen rest : List ℕ) → NoNewline seen → raw_lines (seen ++ 10 ∷ rest) ≡ seen ∷ raw_lines rest
raw_lines-cut [] rest h = refl
raw_lines-cut (b ∷ seen) rest h = raw_lines-byte b (seen ++ 10 ∷ rest) h.0 ∙ ap (begin_first b) (raw_lines-cut seen rest h.1)

keep_newline-cons : (b : ℕ) (seen : List ℕ) → keep_newline b (seen ++ 10 ∷ []) ≡ b ∷ (seen ++ 10 ∷ [])
keep_newline-cons b [] = refl
keep_newline-cons b (c ∷ seen) = refl

pub to_last_newline-cut : (seen : List ℕ) → to_last_newline (seen ++ 10 ∷ []) ≡ seen ++ 10 ∷ []
to_last_newline-cut [] = refl
to_last_newline-cut (b ∷ seen) = ap (keep_newline b) (to_last_newline-cut seen) ∙ keep_newline-cons b seen

-- a line that is kept to one byte more than it may have

text_of-long : (most : ℕ) (line : List ℕ) → most < length line → text_of most line ≡ too_long
text_of-long most line h = grind (arith, nat_tests)

pub text_of-capped : (most : ℕ) (line : List ℕ) → text_of most (take (most + 1) line) ≡ text_of most line
text_of-capped most line =
    elim (cases_lt most (length line)) [
      | inl many ↦ (let long : most < length (take (most + 1) line) = rw length-take (omega arith) in
          text_of-long most (take (most + 1) line) long ∙ sym (text_of-long most line many))
      | inr few ↦ rw (take_all (most + 1) line (omega arith)) refl
    ]

pub take-capped : (n : ℕ) (xs ys : List ℕ) → take n (take n xs ++ ys) ≡ take n (xs ++ ys)
take-capped n xs ys =
    elim (cases_lt n (length xs)) [
      | inl many ↦ (let same : length (take n xs) ≡ n = rw length-take (omega arith) in
          take-append-le n (take n xs) ys (omega arith) ∙ take_all n (take n xs) (omega arith) ∙ sym (take-append-le n xs ys (omega arith)))
      | inr few ↦ rw (take_all n xs few) refl
    ]

take-least : (n : ℕ) (xs : List ℕ) → take (min (length xs) n) xs ≡ take n xs
take-least n xs =
    elim (cases_lt n (length xs)) [
      | inl many ↦ (let e : min (length xs) n ≡ n = omega arith in rw e refl)
      | inr few ↦ take_all (min (length xs) n) xs (omega arith) ∙ sym (take_all n xs few)
    ]

pub added : (most : ℕ) (line bytes line' : List ℕ) (count : ℕ) → length line ≤ most → count ≡ min (length bytes) (most - length line)
    → line' ≡ line ++ take count bytes → line' ≡ take most (line ++ bytes)
added most line bytes line' count h c i =
    let e : length line + (most - length line) ≡ most = omega arith in
    i ∙ rw (c, take-least (most - length line) bytes) (rw e at (sym (take-append-add line bytes (most - length line))))

-- the search for a newline

pub NoNewline-more : (bytes : List ℕ) (n : ℕ) → n < length bytes → NoNewline (take n bytes) → (get_or bytes n 0 ≡ 10 → ⊥) → NoNewline (take (n + 1) bytes)
NoNewline-more [] n l h k = rw add-one tt
NoNewline-more (b ∷ bytes) zero l h k = (k, tt)
NoNewline-more (b ∷ bytes) (suc n) l h k = rw add-one (h.0, rw add-one at (NoNewline-more bytes n (omega arith) h.1 k))

pub first_newline : (bytes : List ℕ) (n : ℕ) → n < length bytes → NoNewline (take n bytes) → get_or bytes n 0 ≡ 10 → FirstNewline bytes n
first_newline bytes n l h e = record { before = h; here = rw (drop-cons bytes n 0 l, e, add-one) refl; within = l }

-- a carriage return

without_return-append : (xs : List ℕ) (b : ℕ) → b ≡ 13 → without_return (xs ++ b ∷ []) ≡ xs
without_return-append [] b e = grind (arith, nat_tests)
without_return-append (x ∷ []) b e = ap (λ l. x ∷ l) (without_return-append [] b e)
without_return-append (x ∷ y ∷ xs) b e = ap (λ l. x ∷ l) (without_return-append (y ∷ xs) b e)

without_return-append_other : (xs : List ℕ) (b : ℕ) → (b ≡ 13 → ⊥) → without_return (xs ++ b ∷ []) ≡ xs ++ b ∷ []
without_return-append_other [] b n = grind (arith, nat_tests)
without_return-append_other (x ∷ []) b n = ap (λ l. x ∷ l) (without_return-append_other [] b n)
without_return-append_other (x ∷ y ∷ xs) b n = ap (λ l. x ∷ l) (without_return-append_other (y ∷ xs) b n)

text_of-whole : (most : ℕ) (line : List ℕ) → length line ≤ most → text_of most line ≡ whole (without_return line)
text_of-whole most line h = grind (arith, nat_tests)

pub whole-return : (line rest : List ℕ) (b : ℕ) → line ≡ rest ++ b ∷ [] → length line ≤ 4096 → b ≡ 13 → whole rest ∷ [] ≡ text_of 4096 line ∷ []
whole-return line rest b e h r =
    ap (λ t. t ∷ []) (rw (text_of-whole 4096 line h, e, without_return-append rest b r) refl)

pub whole-other : (line rest : List ℕ) (b : ℕ) → line ≡ rest ++ b ∷ [] → length line ≤ 4096 → (b ≡ 13 → ⊥) → whole (rest ++ b ∷ []) ∷ [] ≡ text_of 4096 line ∷ []
whole-other line rest b e h n =
    ap (λ t. t ∷ []) (rw (text_of-whole 4096 line h, e, without_return-append_other rest b n) refl)

pub part-of : (w : List ℕ) (at end : ℕ) → at ≤ end → take (end - at) (drop at w) ≡ drop at (take end w)
part-of w at end h = let e : at + (end - at) ≡ end = omega arith in rw e at (sym (drop-take at (end - at) w))

pub drop-take_same : (n : ℕ) (w : List ℕ) → drop n (take n w) ≡ []
drop-take_same n w = let e : n + 0 ≡ n = omega arith in rw e at (drop-take n 0 w)

-- what stands before the first newline of the window joins the line
pub advance-cuts : (w line line' : List ℕ) (at end count : ℕ) → at ≤ end → FirstNewline (take (end - at) (drop at w)) count
    → line' ≡ take 4097 (line ++ take (at + count - at) (drop at w))
    → Cuts line (drop at (take end w)) line' (drop (at + count + 1) (take end w))
advance-cuts w line line' at end count start first joined =
    let held : List ℕ = drop at (take end w) in
    let h : FirstNewline held count = rw (part-of w at end start) at first in
    let few : count < min (end - at) (length (drop at w)) = rw length-take at first.within in
    let less : count ≤ end - at = omega arith in
    let same : at + count - at ≡ count = omega arith in
    let front : take (at + count - at) (drop at w) ≡ take count held = rw (← part-of w at end start, take-take count (end - at) (drop at w) less, same) refl in
    let place : at + count + 1 ≡ at + (count + 1) = omega arith in
    let rest : drop (at + count + 1) (take end w) ≡ drop (count + 1) held = rw (drop-drop, place) refl in
    rw rest (record {
      part = take count held;
      plain = h.before;
      stood = sym (take-append-drop count held) ∙ ap (λ r. take count held ++ r) h.here;
      joined = rw front at joined;
    })

-- no newline stands in the window, and what is held joins the line
pub advance-joins : (w line line' : List ℕ) (at end : ℕ) → at ≤ end → NoNewline (take (end - at) (drop at w))
    → line' ≡ take 4097 (line ++ take (end - at) (drop at w))
    → Joins line (drop at (take end w)) line' (drop end (take end w))
advance-joins w line line' at end start plain joined = record {
  plain = rw (part-of w at end start) at plain;
  none = drop-take_same end w;
  joined = rw (part-of w at end start) at joined;
}
