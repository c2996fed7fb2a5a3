-- Records of fields that need no quotes.
use Rattle.std.proofs.Common.{◌≡◌, ℕ, zero, suc, ◌+◌, ◌-◌, ◌<◌, ◌≤◌, ◌^◌, false, refl, sym, ◌∙◌, ap, subst, arith, List, [], ◌∷◌, ◌++◌, length, map}
use Rattle.std.specs.Prelude.{codes, decimal, flat_map}
use Rattle.std.specs.List.{range_with_len, list_any}
use Rattle.std.specs.Int.{IsInRange}
use Rattle.std.specs.Str.Parse.{AllDigits}
use Rattle.std.proofs.lemmas.Bool.{agree_below_at, or_parts}
use Rattle.std.proofs.lemmas.Fmt.{decimal_is_IsNumeral}
use Rattle.std.proofs.lemmas.Str.Parse.{digit_from_value}
use Rattle.std.proofs.lemmas.List.FromFn.{length-map-range_with_len, map-range_with_len_more}
use Rattle.std.proofs.lemmas.List.{flat_map_more}
use Rattle.csv.specs.Writing.{default_writer, needs_byte, needs_quotes, fields_text, is_blank, row_text}
use Rattle.etp_closure.specs.declared.facts.Answer.{Answer}
use Rattle.etp_closure.specs.declared.facts.Answer.TheVariants.{Implied, Refuted, Unsettled}
use Rattle.etp_report.specs.Blocks.{answer_text, record_line}
use Rattle.etp_report.proofs.Lists.{range-more}

plain_byte : (c : ℕ) → IsInRange 48 57 c → needs_byte default_writer c ≡ false
plain_byte c within =
    let at : 48 + (c - 48) ≡ c = let a = within.0 in omega arith in
    subst (λ b. needs_byte default_writer b ≡ false) at
    (agree_below_at (λ d. needs_byte default_writer (48 + d)) (λ d. false) 10 (c - 48) refl (let a = within.0 in let b = within.1 in omega arith))

plain_digits : (ds : List ℕ) → AllDigits 10 ds → needs_quotes default_writer ds ≡ false
plain_digits [] h = refl
plain_digits (c ∷ cs) h = rw (plain_byte c (digit_from_value c h.0), plain_digits cs h.1) refl

plain_number : (n : ℕ) → n < 2 ^ 64 → needs_quotes default_writer (decimal n) ≡ false
plain_number n h = plain_digits (decimal n) ((decimal_is_IsNumeral n h).0.1)

plain_numbers : (a n : ℕ) → a + n ≤ 2 ^ 32 → list_any (needs_quotes default_writer) (map decimal (range_with_len a n)) ≡ false
plain_numbers a zero h = refl
plain_numbers a (suc n) h = rw (plain_number a (omega arith), plain_numbers (a + 1) n (omega arith)) refl

plain_answer : (a : Answer) → needs_quotes default_writer (answer_text a) ≡ false
plain_answer Implied = refl
plain_answer Refuted = refl
plain_answer Unsettled = refl

plain_answers : (answer : ℕ → Answer) (a n : ℕ) → list_any (needs_quotes default_writer) (map (λ f. answer_text (answer f)) (range_with_len a n)) ≡ false
plain_answers answer a zero = refl
plain_answers answer a (suc n) = rw (plain_answer (answer a), plain_answers answer (a + 1) n) refl

-- the fields of the first record, and of the others, need no quotes
pub head-plain : (fields : List (List ℕ)) (first count : ℕ) → fields ≡ codes "law" ∷ map decimal (range_with_len first count) → first + count ≤ 2 ^ 32
    → list_any (needs_quotes default_writer) fields ≡ false
head-plain fields first count e h = rw e (plain_numbers first count h)

pub answers-plain : (fields : List (List ℕ)) (answer : ℕ → Answer) (e first count : ℕ) → fields ≡ decimal e ∷ map (λ f. answer_text (answer f)) (range_with_len first count)
    → e < 2 ^ 32 → list_any (needs_quotes default_writer) fields ≡ false
answers-plain fields answer e first count is h = rw is (rw (plain_number e (omega arith)) (plain_answers answer first count))

pub many-fields : (fields : List (List ℕ)) (x : List ℕ) (f : ℕ → List ℕ) (first count : ℕ) → fields ≡ x ∷ map f (range_with_len first count) → 0 < count → 1 < length fields
many-fields fields x f first count e h = rw e (omega (arith, length-map-range_with_len f first count))

plain-fields : (fields : List (List ℕ)) → list_any (needs_quotes default_writer) fields ≡ false → fields_text default_writer fields ≡ flat_map (λ field. codes "," ++ field) fields
unfolding fields_text
plain-fields [] h = refl
plain-fields (x ∷ xs) h =
    let parts = or_parts (needs_quotes default_writer x) (list_any (needs_quotes default_writer) xs) h in
    rw (parts.0, plain-fields xs parts.1) refl

-- the text of a record whose fields need no quotes
pub plain-row : (fields : List (List ℕ)) → 1 < length fields → list_any (needs_quotes default_writer) fields ≡ false → row_text default_writer fields ≡ record_line fields
unfolding is_blank
plain-row [] h p = absurd (omega arith)
plain-row (x ∷ []) h p = absurd (omega arith)
plain-row (x ∷ y ∷ rest) h p =
    let parts = or_parts (needs_quotes default_writer x) (list_any (needs_quotes default_writer) (y ∷ rest)) p in
    rw (parts.0, plain-fields (y ∷ rest) parts.1) refl

-- one field more
pub field-more : (x : List ℕ) (f : ℕ → List ℕ) (first n j : ℕ) (old new : List (List ℕ)) → first + n ≡ j → old ≡ x ∷ map f (range_with_len first n)
    → new ≡ old ++ f j ∷ [] → new ≡ x ∷ map f (range_with_len first (n + 1))
field-more x f first n j old new at so e =
    e ∙ ap (λ (fs : List (List ℕ)). fs ++ f j ∷ []) so ∙ ap (λ (fs : List (List ℕ)). x ∷ fs) (sym (map-range_with_len_more f first n j at))

-- one line more
pub line-more : (head : List ℕ) (f : ℕ → List ℕ) (first n j : ℕ) (old new : List ℕ) → first + n ≡ j → old ≡ head ++ flat_map f (range_with_len first n)
    → new ≡ old ++ f j → new ≡ head ++ flat_map f (range_with_len first (n + 1))
line-more head f first n j old new at so e =
    e ∙ ap (λ (xs : List ℕ). xs ++ f j) so ∙ flat_map_more f head (range_with_len first n) j
    ∙ ap (λ (ks : List ℕ). head ++ flat_map f ks) (sym (range-more first n j at))
