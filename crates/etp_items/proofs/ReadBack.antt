-- Written lines say what they were written of.
use Rattle.std.proofs.Common.{◌≡◌, ℕ, zero, suc, ◌<◌, ◌≤◌, ◌^◌, arith, rules, Bool, true, false, cond, ◌&&◌, ◌||◌, nat_le, nat_eq, List, [], ◌∷◌, ◌++◌, length, get_or, slice_get, map, codes, decimal, refl, sym, ap, ◌∙◌, ◌⊎◌, inl, inr, Some, append-nil}
use Rattle.std.specs.List.{list_all, AllByRecursion}
use Rattle.std.specs.Option.{option_map}
use Rattle.std.proofs.lemmas.Bool.{le-leb, leb-true, ne_eqb}
use Rattle.std.proofs.lemmas.List.Folds.{list_all-append}
use Rattle.std.proofs.lemmas.List.Elements.{recursion_from_All}
use Rattle.std.proofs.lemmas.Fmt.{digits_decimal, digits_value-decimal, length-decimal-le, decimal_nonempty}
use Rattle.std.proofs.lemmas.Str.Parse.{IsNumeralModel, numerals_by_fold}
use Rattle.etp_theory.specs.Positions.{Side, to_left, to_right}
use Rattle.etp_theory.specs.Proofs.{ProofStep}
use Rattle.etp_proof.specs.Names.{IsNameByte, IsName}
use Rattle.etp_words.specs.Words.{is_blank, skip_blanks, words_of, skip_word, behind_word}
use Rattle.etp_words.specs.Numbers.{is_digit, value_after, number_said}
use Rattle.etp_lines.specs.ProofLines.{reference_of, reversed_of, side_then, sides_of, position_named}
use Rattle.etp_items.specs.Written.{reference_word, direction_word, side_letter, position_word}
use Rattle.etp_words.proofs.WordLemmas.{words_of-append}

own : IsNumeralModel (λ ds. list_all is_digit ds ≡ true) (value_after 0)
own = numerals_by_fold _ (search rules) value_after (search rules)

small : (n : ℕ) → n < 2 ^ 32 → n < 2 ^ 64
small n h = omega (arith, h)

pub decimal_digits : (n : ℕ) → n < 2 ^ 32 → list_all is_digit (decimal n) ≡ true
decimal_digits n h = digits_decimal own n (small n h)

number_then : (word : List ℕ) (n : ℕ) → list_all is_digit word ≡ true → 1 ≤ length word → length word ≤ 10 → value_after 0 word ≡ n → n ≤ 4294967295 → number_said word ≡ Some n
number_then word n d some short e few =
    let a : nat_le 1 (length word) ≡ true = le-leb 1 (length word) some in
    let b : nat_le (length word) 10 ≡ true = le-leb (length word) 10 short in
    let v : nat_le n 4294967295 ≡ true = le-leb n 4294967295 few in
    rw (d, a, b, e, v) refl

pub decimal_number : (n : ℕ) → n < 2 ^ 32 → number_said (decimal n) ≡ Some n
decimal_number n h =
    number_then (decimal n) n (decimal_digits n h) (decimal_nonempty n (small n h)) (length-decimal-le 10 n (omega arith) (omega (arith, h)) (small n h)) (digits_value-decimal own n (small n h)) (omega (arith, h))

pub both : (a b : Bool) → (a && b) ≡ true → (a ≡ true) × (b ≡ true)
both true true h = (refl, refl)
both true false h = (refl, h)
both false b h = absurd (cc)

pub either : (a b : Bool) → (a || b) ≡ true → (a ≡ true) ⊎ (b ≡ true)
either true b h = inl refl
either false b h = inr h

pub neither : (a b : Bool) → (a || b) ≡ false → (a ≡ false) × (b ≡ false)
neither true b h = absurd (cc)
neither false b h = (refl, h)

pub together : (a b : Bool) → a ≡ true → b ≡ true → (a && b) ≡ true
together a b h k = rw (h, k) refl

-- bytes of words, and bytes of words and spaces
abbrev pub is_graph : ℕ → Bool
is_graph b = nat_le 33 b

abbrev pub is_text : ℕ → Bool
is_text b = nat_le 32 b

pub weaker : (p q : ℕ → Bool) → ((b : ℕ) → p b ≡ true → q b ≡ true) → (w : List ℕ) → list_all p w ≡ true → list_all q w ≡ true
weaker p q f [] h = refl
weaker p q f (b ∷ w) h = let s = both (p b) (list_all p w) h in together (q b) (list_all q w) (f b s.0) (weaker p q f w s.1)

pub joined : (p : ℕ → Bool) (v w : List ℕ) → list_all p v ≡ true → list_all p w ≡ true → list_all p (v ++ w) ≡ true
joined p v w h k = list_all-append p v w ∙ together (list_all p v) (list_all p w) h k

pub graph_text : (w : List ℕ) → list_all is_graph w ≡ true → list_all is_text w ≡ true
graph_text = weaker is_graph is_text (λ b h. let k : 33 ≤ b = leb-true 33 b h in le-leb 32 b (omega arith))

no_blank : (b : ℕ) → is_graph b ≡ true → is_blank b ≡ false
no_blank b h =
    let k : 33 ≤ b = leb-true 33 b h in
    let s : nat_eq b 32 ≡ false = ne_eqb b 32 (λ e. omega arith) in
    let t : nat_eq b 9 ≡ false = ne_eqb b 9 (λ e. omega arith) in
    rw (s, t) refl

no_blank_at : (w : List ℕ) (k : ℕ) → list_all is_graph w ≡ true → k < length w → is_blank (get_or w k 0) ≡ false
no_blank_at [] k h l = absurd (omega (arith, l))
no_blank_at (b ∷ w) zero h l = no_blank b (both (is_graph b) (list_all is_graph w) h).0
no_blank_at (b ∷ w) (suc k) h l = no_blank_at w k (both (is_graph b) (list_all is_graph w) h).1 (omega (arith, l))

pub record IsWord (w : List ℕ) : Type 0 where
  pub some : 0 < length w
  pub graph : list_all is_graph w ≡ true

pub words_front : (w rest : List ℕ) → IsWord w → words_of (w ++ 32 ∷ rest) ≡ w ∷ words_of rest
words_front w rest h = words_of-append w (32 ∷ rest) h.some (λ k l. no_blank_at w k h.graph l) refl

pub words_last : (w : List ℕ) → IsWord w → words_of w ≡ w ∷ []
words_last w h = ap words_of (sym (append-nil w)) ∙ words_of-append w [] h.some (λ k l. no_blank_at w k h.graph l) refl

skip_front : (w rest : List ℕ) → list_all is_graph w ≡ true → skip_word (w ++ 32 ∷ rest) ≡ 32 ∷ rest
skip_front [] rest h = refl
skip_front (b ∷ w) rest h =
    let s = both (is_graph b) (list_all is_graph w) h in
    let n : is_blank b ≡ false = no_blank b s.0 in
    rw n (skip_front w rest s.1)

pub behind_front : (w rest : List ℕ) → IsWord w → behind_word (w ++ 32 ∷ rest) ≡ 32 ∷ rest
behind_front [] rest h = absurd (omega (arith, h.some))
behind_front (b ∷ w) rest h =
    let n : is_blank b ≡ false = no_blank b (both (is_graph b) (list_all is_graph w) h.graph).0 in
    ap skip_word (unskipped b (w ++ 32 ∷ rest) n) ∙ skip_front (b ∷ w) rest h.graph
  where
    unskipped : (b : ℕ) (bytes : List ℕ) → is_blank b ≡ false → skip_blanks (b ∷ bytes) ≡ b ∷ bytes
    unskipped b bytes n = rw n refl

digit_graph : (w : List ℕ) → list_all is_digit w ≡ true → list_all is_graph w ≡ true
digit_graph = weaker is_digit is_graph (λ b h. let k : 48 ≤ b = leb-true 48 b (both (nat_le 48 b) (nat_le b 57) h).0 in le-leb 33 b (omega arith))

pub decimal_word : (n : ℕ) → n < 2 ^ 32 → IsWord (decimal n)
decimal_word n h = record { some = decimal_nonempty n (small n h); graph = digit_graph (decimal n) (decimal_digits n h) }

name_byte : (b : ℕ) → IsNameByte b → is_graph b ≡ true
name_byte b (inl (inl h)) = le-leb 33 b (omega (arith, h.0))
name_byte b (inl (inr (inl h))) = le-leb 33 b (omega (arith, h.0))
name_byte b (inl (inr (inr h))) = le-leb 33 b (omega (arith, h.0))
name_byte b (inr (inl e)) = le-leb 33 b (omega (arith, e))
name_byte b (inr (inr (inl e))) = le-leb 33 b (omega (arith, e))
name_byte b (inr (inr (inr e))) = le-leb 33 b (omega (arith, e))

name_bytes : (w : List ℕ) → AllByRecursion IsNameByte w → list_all is_graph w ≡ true
name_bytes [] h = refl
name_bytes (b ∷ w) h = together (is_graph b) (list_all is_graph w) (name_byte b h.0) (name_bytes w h.1)

first_some : (w : List ℕ) (b : ℕ) → slice_get w 0 ≡ Some b → 0 < length w
first_some [] b e = absurd (cc)
first_some (c ∷ w) b e = omega arith

pub name_word : (w : List ℕ) → IsName w → IsWord w
name_word w h = record { some = first_some w h.first.0 h.first.1; graph = name_bytes w (recursion_from_All IsNameByte w h.all) }

pub reference_is_word : (x : ProofStep) → x.line < 2 ^ 32 → IsWord (reference_word x)
reference_is_word x h = chosen x.cited
  where
    chosen : (cited : Bool) → IsWord (cond cited (codes "c" ++ decimal x.line) (decimal x.line))
    chosen true = record { some = omega arith; graph = (decimal_word x.line h).graph }
    chosen false = decimal_word x.line h

pub direction_is_word : (reversed : Bool) → IsWord (direction_word reversed)
direction_is_word true = record { some = omega arith; graph = refl }
direction_is_word false = record { some = omega arith; graph = refl }

letters : (sides : List Side) → list_all is_graph (map side_letter sides) ≡ true
letters [] = refl
letters (to_left ∷ sides) = letters sides
letters (to_right ∷ sides) = letters sides

pub position_is_word : (sides : List Side) → IsWord (position_word sides)
position_is_word [] = record { some = omega arith; graph = refl }
position_is_word (to_left ∷ sides) = record { some = omega arith; graph = letters sides }
position_is_word (to_right ∷ sides) = record { some = omega arith; graph = letters sides }

-- what the words say
first_digit : (w : List ℕ) (b : ℕ) (bytes : List ℕ) → w ≡ b ∷ bytes → list_all is_digit w ≡ true → nat_eq b 99 ≡ false
first_digit w b bytes e h =
    let d : list_all is_digit (b ∷ bytes) ≡ true = sym (ap (list_all is_digit) e) ∙ h in
    let k : b ≤ 57 = leb-true b 57 (both (nat_le 48 b) (nat_le b 57) (both (is_digit b) (list_all is_digit bytes) d).0).1 in
    ne_eqb b 99 (λ f. omega arith)

plain_reference : (w : List ℕ) (n : ℕ) → list_all is_digit w ≡ true → number_said w ≡ Some n → reference_of w ≡ Some (n, false)
plain_reference [] n d e = absurd (cc)
plain_reference (b ∷ bytes) n d e =
    let c : nat_eq b 99 ≡ false = first_digit (b ∷ bytes) b bytes refl d in
    rw c (ap (option_map (λ m. (m, false))) e)

pub reference_said : (x : ProofStep) → x.line < 2 ^ 32 → reference_of (reference_word x) ≡ Some (x.line, x.cited)
reference_said x h = chosen x.cited
  where
    chosen : (cited : Bool) → reference_of (cond cited (codes "c" ++ decimal x.line) (decimal x.line)) ≡ Some (x.line, cited)
    chosen true = ap (option_map (λ m. (m, true))) (decimal_number x.line h)
    chosen false = plain_reference (decimal x.line) x.line (decimal_digits x.line h) (decimal_number x.line h)

pub direction_said : (reversed : Bool) → reversed_of (direction_word reversed) ≡ Some reversed
direction_said true = refl
direction_said false = refl

sides_said : (sides : List Side) → sides_of (map side_letter sides) ≡ Some sides
sides_said [] = refl
sides_said (to_left ∷ sides) = ap (side_then (Some to_left)) (sides_said sides)
sides_said (to_right ∷ sides) = ap (side_then (Some to_right)) (sides_said sides)

pub position_said : (sides : List Side) → position_named (position_word sides) ≡ Some sides
position_said [] = refl
position_said (to_left ∷ sides) = sides_said (to_left ∷ sides)
position_said (to_right ∷ sides) = sides_said (to_right ∷ sides)
