-- The lines of a text, cut off one after the other.
use Rattle.std.proofs.Common.{◌≡◌, ℕ, ◌+◌, ◌-◌, ◌<◌, Bool, true, true≢false, nat_eq, List, [], ◌∷◌, ◌++◌, length, map, take, drop, append_assoc, append-nil, refl, sym, ap, ◌∙◌, subst, arith}
use Rattle.std.specs.Borrow.{Bor}
use Rattle.std.specs.declared.option.Option.{Option}
use Rattle.std.proofs.lemmas.Bool.{ne_eqb}
use Rattle.std.proofs.lemmas.List.{take-append-drop, take_all, length-drop}
use Rattle.etp_io.specs.Texts.{LineText, text_of, lines_of, NoNewline}
use Rattle.etp_io.specs.Parts.{FirstNewline}
use Rattle.etp_io.proofs.LineLemmas.{raw_lines-plain, raw_lines-cut}
use Rattle.etp_reading.specs.Reading.{given_text}
use Rattle.etp_items.specs.Work.{HasRead}
use Rattle.etp_items.specs.declared.reader.BodyReader.{BodyReader}

-- the last line has no newline
pub cut_last : (bytes : List ℕ) → 0 < length bytes → NoNewline bytes → lines_of bytes ≡ text_of 4096 bytes ∷ []
cut_last [] h n = absurd (omega (arith, h))
cut_last (b ∷ bytes) h n = ap (map (text_of 4096)) (raw_lines-plain b bytes n)

-- any other ends at its newline
pub cut_first : (bytes : List ℕ) (place : ℕ) → FirstNewline bytes place
    → lines_of bytes ≡ text_of 4096 (take place bytes) ∷ lines_of (drop (place + 1) bytes)
cut_first bytes place f =
    let whole : bytes ≡ take place bytes ++ 10 ∷ drop (place + 1) bytes =
    sym (take-append-drop place bytes) ∙ ap (λ (d : List ℕ). take place bytes ++ d) f.here in
    ap lines_of whole ∙ ap (map (text_of 4096)) (raw_lines-cut (take place bytes) (drop (place + 1) bytes) f.before)

-- what a slice keeps of the bytes behind a place
pub kept_behind : (n : ℕ) (bytes : List ℕ) → take (length bytes - n) (drop n bytes) ≡ drop n bytes
kept_behind n bytes = let long = length-drop n bytes in take_all (length bytes - n) (drop n bytes) (omega (arith, long))

pub none_behind : (bytes more : List ℕ) → take (length bytes - length bytes) more ≡ []
none_behind bytes more = let none : length bytes - length bytes ≡ 0 = omega arith in rw none refl

pub same_text : (a b : LineText) → a ∷ [] ≡ b ∷ [] → a ≡ b
same_text a b e = cc

pub nothing_left : (bytes : List ℕ) (empty : Bool) → empty ≡ nat_eq (length bytes) 0 → empty ≡ true → bytes ≡ []
nothing_left [] empty e h = refl
nothing_left (b ∷ bytes) empty e h = absurd (true≢false (sym h ∙ e ∙ ne_eqb (length (b ∷ bytes)) 0 (λ q. omega (arith, q))))

-- all lines but those of the rest were pushed
abbrev pub HasPushed : BodyReader → BodyReader → List ℕ → List ℕ → Type 0
HasPushed first reader text rest = HasRead first [] → (read : List LineText) × HasRead reader read × (read ++ lines_of rest ≡ lines_of text)

pub none_pushed : (first : BodyReader) (text : List ℕ) → HasPushed first first text text
none_pushed first text start = ([], start, refl)

pub one_pushed : (first reader next : BodyReader) (text rest behind line : List ℕ) (given : Option (Bor (List ℕ)))
    → HasPushed first reader text rest → lines_of rest ≡ text_of 4096 line ∷ lines_of behind → given_text given ≡ text_of 4096 line
    → ((lines : List LineText) → HasRead reader lines → HasRead next (lines ++ given_text given ∷ [])) → HasPushed first next text behind
one_pushed first reader next text rest behind line given h cut same push start =
    let before = h start in (
      before.0 ++ given_text given ∷ [],
      push before.0 before.1,
      append_assoc before.0 (given_text given ∷ []) (lines_of behind)
          ∙ ap (λ (ls : List LineText). before.0 ++ ls) (ap (λ (x : LineText). x ∷ lines_of behind) same ∙ sym cut)
          ∙ before.2,
    )

pub all_pushed : (first reader : BodyReader) (text rest : List ℕ) → HasPushed first reader text rest → rest ≡ [] → HasRead first [] → HasRead reader (lines_of text)
all_pushed first reader text rest h e start =
    let before = h start in
    subst (HasRead reader) (sym (append-nil before.0) ∙ ap (λ (r : List ℕ). before.0 ++ lines_of r) (sym e) ∙ before.2) before.1
