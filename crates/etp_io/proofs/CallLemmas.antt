-- Lemmas on what one call does, for what many calls do.
use Rattle.std.proofs.Common.{◌≡◌, ℕ, ◌+◌, ◌-◌, ◌≤◌, Bool, true, false, IsTrue, inl, inr, List, [], ◌∷◌, ◌++◌, length, map, take, drop, Option, None, Some, refl, sym, ◌∙◌, ap, arith, append_assoc, append-nil, length-append}
use Rattle.std.proofs.lemmas.Bool.Decides.{nat_tests}
use Rattle.std.proofs.lemmas.Bool.{cases_eq}
use Rattle.std.proofs.lemmas.List.{drop-drop, length-drop, map-append}
use Rattle.std.proofs.Math.Seq.{take-append-add}
use Rattle.std.specs.Io.KnownBytes.{Appends}
use Rattle.etp_io.specs.Causes.{Rose}
use Rattle.etp_io.specs.Counts.{RisesBy}
use Rattle.etp_io.specs.Stream.{Loses, IsPrefix, AppendsPrefix}
use Rattle.etp_io.specs.Texts.{LineText, begin_first, raw_lines, text_of, lines_of, NoNewline, keep_newline, to_last_newline}
use Rattle.etp_io.specs.Reader.{Reader}
use Rattle.etp_io.specs.Answers.{Fits, FitsAt, PartGives}
use Rattle.etp_io.proofs.LineLemmas.{raw_lines-byte}

-- counts

-- a count that stays 0 did not rise
pub Rose-never : Rose 0 0 → ⊥
Rose-never h = omega (arith, h)

pub Rose-later : (a b c : ℕ) → Rose a b → b ≤ c → Rose a c
Rose-later a b c h k = omega arith

pub Rose-earlier : (a b c : ℕ) → a ≤ b → Rose b c → Rose a c
Rose-earlier a b c h k = omega arith

pub RisesBy-none : (a : ℕ) → RisesBy a a 0
RisesBy-none a = record { later = omega arith; risen = omega arith; no_further = omega arith; stands = λ h. h }

pub RisesBy-then : (a b c m n : ℕ) → RisesBy a b m → RisesBy b c n → RisesBy a c (m + n)
RisesBy-then a b c m n h k = record {
  later = omega (arith, h.later, k.later);
  risen = omega (arith, h.risen, k.risen);
  no_further = omega (arith, h.no_further, k.no_further);
  stands = λ x. k.stands (h.stands x);
}

-- known bytes

pub Loses-none : (left : Option (List ℕ)) → Loses left left 0
Loses-none None = tt
Loses-none (Some xs) = (refl, omega arith)

pub Loses-then : (a b c : Option (List ℕ)) (m n : ℕ) → Loses a b m → Loses b c n → Loses a c (m + n)
Loses-then None b c m n h k = tt
Loses-then (Some x) None c m n h k = absurd h
Loses-then (Some x) (Some y) None m n h k = absurd k
Loses-then (Some x) (Some y) (Some z) m n h k =
    let less : length y ≡ length x - m = ap length h.0 ∙ length-drop m x in
    (k.0 ∙ ap (drop n) h.0 ∙ drop-drop n m x, omega (arith, h.1, k.1))

pub Appends-none : (a : Option (List ℕ)) → Appends a a []
Appends-none None = tt
Appends-none (Some x) = sym (append-nil x)

pub Appends-then : (a b c : Option (List ℕ)) (p q : List ℕ) → Appends a b p → Appends b c q → Appends a c (p ++ q)
Appends-then None b c p q h k = tt
Appends-then (Some x) None c p q h k = absurd h
Appends-then (Some x) (Some y) None p q h k = absurd k
Appends-then (Some x) (Some y) (Some z) p q h k = k ∙ ap (λ l. l ++ q) h ∙ append_assoc x p q

pub IsPrefix-all : (xs : List ℕ) → IsPrefix xs xs
IsPrefix-all xs = record { rest = []; joined = sym (append-nil xs) }

pub IsPrefix-none : (xs : List ℕ) → IsPrefix [] xs
IsPrefix-none xs = record { rest = xs; joined = refl }

pub IsPrefix-longer : (xs ys zs : List ℕ) → IsPrefix xs ys → IsPrefix xs (ys ++ zs)
IsPrefix-longer xs ys zs h = record { rest = h.rest ++ zs; joined = ap (λ l. l ++ zs) h.joined ∙ append_assoc xs h.rest zs }

pub IsPrefix-append : (xs ys zs : List ℕ) → IsPrefix ys zs → IsPrefix (xs ++ ys) (xs ++ zs)
IsPrefix-append xs ys zs h = record { rest = h.rest; joined = ap (λ l. xs ++ l) h.joined ∙ sym (append_assoc xs ys h.rest) }

-- all of the bytes were appended, and then a prefix of the next
pub AppendsPrefix-then : (a b c : Option (List ℕ)) (p q : List ℕ) → Appends a b p → AppendsPrefix b c q → AppendsPrefix a c (p ++ q)
AppendsPrefix-then a b c p q h k = record {
  front = p ++ k.front;
  appended = Appends-then a b c p k.front h k.appended;
  begins = IsPrefix-append p k.front q k.begins;
}

pub AppendsPrefix-all : (a b : Option (List ℕ)) (p : List ℕ) → Appends a b p → AppendsPrefix a b p
AppendsPrefix-all a b p h = record { front = p; appended = h; begins = IsPrefix-all p }

pub AppendsPrefix-longer : (a b : Option (List ℕ)) (p q : List ℕ) → AppendsPrefix a b p → AppendsPrefix a b (p ++ q)
AppendsPrefix-longer a b p q h = record { front = h.front; appended = h.appended; begins = IsPrefix-longer h.front p q h.begins }

-- newlines

keep_newline-cons : (b : ℕ) (xs : List ℕ) → keep_newline b xs ≡ b ∷ xs → (ys : List ℕ) → keep_newline b (xs ++ ys) ≡ b ∷ (xs ++ ys)
keep_newline-cons b [] h [] = h
keep_newline-cons b [] h (y ∷ ys) = refl
keep_newline-cons b (x ∷ xs) h ys = refl

-- a list that ends with its last newline has a tail that does
keep_newline-tail : (b : ℕ) (xs kept : List ℕ) → keep_newline b kept ≡ b ∷ xs → kept ≡ xs
keep_newline-tail b xs [] h = elim (cases_eq b 10) [ inl e ↦ grind (arith, nat_tests) | inr n ↦ grind (arith, nat_tests) ]
keep_newline-tail b xs (c ∷ kept) h = cc

pub to_last_newline-append : (xs ys : List ℕ) → to_last_newline xs ≡ xs → to_last_newline (xs ++ ys) ≡ xs ++ to_last_newline ys
to_last_newline-append [] ys h = refl
to_last_newline-append (b ∷ xs) ys h =
    let tail : to_last_newline xs ≡ xs = keep_newline-tail b xs (to_last_newline xs) h in
    ap (keep_newline b) (to_last_newline-append xs ys tail) ∙ keep_newline-cons b xs (ap (keep_newline b) (sym tail) ∙ h) (to_last_newline ys)

pub to_last_newline-plain : (xs : List ℕ) → NoNewline xs → to_last_newline xs ≡ []
to_last_newline-plain [] h = refl
to_last_newline-plain (b ∷ xs) h = ap (keep_newline b) (to_last_newline-plain xs h.1) ∙ grind (arith, nat_tests, h.0)

-- lines

raw_lines-newline : (b : ℕ) (bytes : List ℕ) → b ≡ 10 → raw_lines (b ∷ bytes) ≡ [] ∷ raw_lines bytes
raw_lines-newline b bytes e = grind (arith, nat_tests)

begin_first-append : (b : ℕ) (xs ys : List (List ℕ)) → (xs ≡ [] → ⊥) → begin_first b (xs ++ ys) ≡ begin_first b xs ++ ys
begin_first-append b [] ys h = let no : ⊥ = h refl in absurd no
begin_first-append b (x ∷ xs) ys h = refl

begin_first-some : (b : ℕ) (xs : List (List ℕ)) → begin_first b xs ≡ [] → ⊥
begin_first-some b [] h = cc
begin_first-some b (x ∷ xs) h = cc

raw_lines-some : (b : ℕ) (xs : List ℕ) → raw_lines (b ∷ xs) ≡ [] → ⊥
raw_lines-some b xs h =
    elim (cases_eq b 10) [
      | inl e ↦ (let z : [] ∷ raw_lines xs ≡ [] = sym (raw_lines-newline b xs e) ∙ h in cc)
      | inr n ↦ begin_first-some b (raw_lines xs) (sym (raw_lines-byte b xs n) ∙ h)
    ]

-- the last byte of a list that ends with its last newline is one
ends-newline : (b : ℕ) (xs : List ℕ) → (b ≡ 10 → ⊥) → to_last_newline (b ∷ xs) ≡ b ∷ xs → raw_lines xs ≡ [] → ⊥
ends-newline b [] n h r = grind (arith, nat_tests)
ends-newline b (c ∷ xs) n h r = raw_lines-some c xs r

raw_lines-append : (xs ys : List ℕ) → to_last_newline xs ≡ xs → raw_lines (xs ++ ys) ≡ raw_lines xs ++ raw_lines ys
raw_lines-append [] ys h = refl
raw_lines-append (b ∷ xs) ys h =
    let tail : to_last_newline xs ≡ xs = keep_newline-tail b xs (to_last_newline xs) h in
    let rest : raw_lines (xs ++ ys) ≡ raw_lines xs ++ raw_lines ys = raw_lines-append xs ys tail in
    elim (cases_eq b 10) [
      | inl e ↦ rw (raw_lines-newline b (xs ++ ys) e, raw_lines-newline b xs e, rest) refl
      | inr n ↦ rw (raw_lines-byte b (xs ++ ys) n, raw_lines-byte b xs n, rest) (begin_first-append b (raw_lines xs) (raw_lines ys) (ends-newline b xs n h))
    ]

-- the lines of a part that ends with a newline, and then those of the rest
pub lines_of-append : (xs ys : List ℕ) → to_last_newline xs ≡ xs → lines_of (xs ++ ys) ≡ lines_of xs ++ lines_of ys
lines_of-append xs ys h = ap (map (text_of 4096)) (raw_lines-append xs ys h) ∙ map-append (text_of 4096) (raw_lines xs) (raw_lines ys)

-- what a reader gave

pub PartGives-none : (ended : Bool) (now : List ℕ) → (IsTrue ended → now ≡ []) → PartGives ended now now []
PartGives-none ended now over = record { part = []; joined = refl; lines = refl; newline = λ _. refl; over = over }

front-none : (xs ys : List ℕ) → xs ++ ys ≡ [] → xs ≡ []
front-none [] ys h = refl
front-none (x ∷ xs) ys h = cc

-- some lines, and then others
pub PartGives-then : (first second : Bool) (a b c : List ℕ) (s t : List LineText) → PartGives first a b s → PartGives second b c t
    → (IsTrue first → IsTrue second) → PartGives second a c (s ++ t)
PartGives-then true second a b c s t h k on =
    let none : k.part ≡ [] = front-none k.part c (sym k.joined ∙ h.over refl) in
    let rest : b ≡ c = rw none at k.joined in
    let no_text : t ≡ [] = sym (rw none at k.lines) in
    record {
      part = h.part;
      joined = h.joined ∙ ap (λ l. h.part ++ l) rest;
      lines = rw (no_text, append-nil s) h.lines;
      newline = λ e. let both : second ≡ true = on refl in cc;
      over = k.over;
    }
PartGives-then false second a b c s t h k on =
    let whole : to_last_newline h.part ≡ h.part = h.newline refl in
    record {
      part = h.part ++ k.part;
      joined = h.joined ∙ ap (λ l. h.part ++ l) k.joined ∙ sym (append_assoc h.part k.part c);
      lines = lines_of-append h.part k.part whole ∙ rw (h.lines, k.lines) refl;
      newline = λ e. to_last_newline-append h.part k.part whole ∙ ap (λ l. h.part ++ l) (k.newline e);
      over = k.over;
    }

-- all lines are those that were given and those to come
pub PartGives-lines : (ended : Bool) (before now : List ℕ) (texts : List LineText) → PartGives ended before now texts → lines_of before ≡ texts ++ lines_of now
PartGives-lines true before now texts h =
    let none : now ≡ [] = h.over refl in
    let all : before ≡ h.part = h.joined ∙ ap (λ l. h.part ++ l) none ∙ append-nil h.part in
    rw (none, append-nil texts, all) h.lines
PartGives-lines false before now texts h =
    rw h.joined (lines_of-append h.part now (h.newline refl) ∙ ap (λ l. l ++ lines_of now) h.lines)

-- The lines that stand whole in the first n bytes are those that were given,
-- where no newline stands in the m bytes after these, up to place n.
pub early_end : (before now : List ℕ) (texts : List LineText) (m n : ℕ) → PartGives false before now texts → NoNewline (take m now)
    → n + length now ≡ length before + m → lines_of (to_last_newline (take n before)) ≡ texts
early_end before now texts m n h plain e =
    let amount : length before ≡ length h.part + length now = ap length h.joined ∙ length-append h.part now in
    let place : n ≡ length h.part + m = omega arith in
    let front : take n before ≡ h.part ++ take m now = rw (h.joined, place) (take-append-add h.part now m) in
    let last : to_last_newline (take n before) ≡ h.part =
    ap to_last_newline front ∙ to_last_newline-append h.part (take m now) (h.newline refl) ∙ ap (λ l. h.part ++ l) (to_last_newline-plain (take m now) plain) ∙ append-nil h.part in
    ap lines_of last ∙ h.lines

-- a reader that was just made fits any source and any name

never : (b : Bool) → b ≡ false → IsTrue b → ⊥
never b e t = cc

pub Fits-start : (reader : Reader) (left : Option (List ℕ)) (last : ℕ) → reader.ended ≡ false → reader.held ≡ [] → Fits reader left last
Fits-start reader left last e h =
    let none : length reader.held ≡ 0 = ap length h in
    record {
      at_end = λ t. let no : ⊥ = never reader.ended e t in absurd no;
      last_gave = λ t. let no : ⊥ = never reader.ended e t in absurd no;
      held = omega arith;
    }

pub FitsAt-start : (reader : Reader) (keeps : Option (List ℕ → Option (List ℕ))) (name : List ℕ) → reader.ended ≡ false → reader.held ≡ [] → FitsAt reader keeps name
FitsAt-start reader keeps name e h = record { at_end = λ t. let no : ⊥ = never reader.ended e t in absurd no; lacking = λ _. (e, h) }
