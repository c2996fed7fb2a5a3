-- The reader's tokens are those of the grammar, and bytes begin with tokens in one way.
use Rattle.std.proofs.Common.{◌≡◌, ◌≢◌, ℕ, ◌+◌, ◌-◌, ◌<◌, ◌≤◌, Bool, true, false, cond, ◌&&◌, eqb, ◌⊎◌, inl, inr, Option, Some, None, List, [], ◌∷◌, ◌++◌, length, take, codes, refl, sym, ap, ap₂, ◌∙◌, subst, arith, length-append, eqb-true, ne_eqb}
use Rattle.std.specs.Char.{is_ascii_alphabetic, is_ascii_alphanumeric}
use Rattle.std.specs.List.{AllByRecursion}
use Rattle.std.proofs.lemmas.Bool.{cases_Bool, and_parts, cond-true, cond-false}
use Rattle.std.proofs.lemmas.Bool.Decides.{nat_tests}
use Rattle.std.proofs.lemmas.List.{take-append-le, take_all}
use Rattle.std.proofs.lemmas.Option.{some_pair_parts, none-some}
use Rattle.etp_words.specs.Words.{is_blank, skip_blanks}
use Rattle.etp_text.specs.Written.{variable_name}
use Rattle.etp_text.specs.Grammar.{AreBlanks, IsIdentifier, IsToken, IsIdentifierOver, MayEnd, StartsWith, Begins}
use Rattle.etp_text.specs.Machine.{name_at, behind_name, named, sign_at, token_at}
use Rattle.etp_text.specs.declared.token.Token.{Token}
use Rattle.etp_text.specs.declared.token.Token.TheVariants.{Opening, Closing, Equals, Operator, Variable, Unknown}
use Rattle.etp_text.proofs.Names.{name_named, variable_named, variable_is_name, name_token}

abbrev pub IsAlnum : ℕ → Type 0
IsAlnum byte = is_ascii_alphanumeric byte ≡ true

-- the bytes are the name at the front and what is behind it
pub name_whole : (bs : List ℕ) → name_at bs ++ behind_name bs ≡ bs
name_whole [] = refl
name_whole (b ∷ bs) = go (is_ascii_alphanumeric b) (name_whole bs)
  where
    go : (t : Bool) → name_at bs ++ behind_name bs ≡ bs → cond t (b ∷ name_at bs) [] ++ cond t (behind_name bs) (b ∷ bs) ≡ b ∷ bs
    go true h = ap (λ x. b ∷ x) h
    go false h = refl

pub behind_length : (bs : List ℕ) → length (behind_name bs) ≤ length bs
behind_length bs = omega (arith, length-append (name_at bs) (behind_name bs), ap length (name_whole bs))

pub take_front : (n : ℕ) (xs ys : List ℕ) → n ≡ length xs → take n (xs ++ ys) ≡ xs
take_front n xs ys h = take-append-le n xs ys (omega arith) ∙ take_all n xs (omega arith)

pub name_taken : (b : ℕ) (bs : List ℕ) → take (length (b ∷ bs) - length (behind_name bs)) (b ∷ bs) ≡ b ∷ name_at bs
name_taken b bs =
    let n : ℕ = length (b ∷ bs) - length (behind_name bs) in
    let h : n ≡ length (b ∷ name_at bs) = omega (arith, length-append (name_at bs) (behind_name bs), ap length (name_whole bs)) in
    ap (take n) (sym (ap (λ x. b ∷ x) (name_whole bs))) ∙ take_front n (b ∷ name_at bs) (behind_name bs) h

pub names_are_alnum : (bs : List ℕ) → AllByRecursion IsAlnum (name_at bs)
names_are_alnum [] = tt
names_are_alnum (b ∷ bs) = go (is_ascii_alphanumeric b) refl (names_are_alnum bs)
  where
    go : (t : Bool) → is_ascii_alphanumeric b ≡ t → AllByRecursion IsAlnum (name_at bs) → AllByRecursion IsAlnum (cond t (b ∷ name_at bs) [])
    go true e h = (e, h)
    go false e h = tt

pub name_is_over : (bs : List ℕ) → IsIdentifierOver (behind_name bs)
name_is_over [] = tt
name_is_over (b ∷ bs) = go (is_ascii_alphanumeric b) refl (name_is_over bs)
  where
    go : (t : Bool) → is_ascii_alphanumeric b ≡ t → IsIdentifierOver (behind_name bs) → IsIdentifierOver (cond t (behind_name bs) (b ∷ bs))
    go true e h = h
    go false e h = e

pub over_name : (rest : List ℕ) → IsIdentifierOver rest → (name_at rest ≡ []) × (behind_name rest ≡ rest)
over_name [] h = (refl, refl)
over_name (b ∷ bs) h = (cond-false _ _ _ h, cond-false _ _ _ h)

pub name_again : (ws rest : List ℕ) → AllByRecursion IsAlnum ws → IsIdentifierOver rest → (name_at (ws ++ rest) ≡ ws) × (behind_name (ws ++ rest) ≡ rest)
name_again [] rest a h = over_name rest h
name_again (w ∷ ws) rest a h =
    let i = name_again ws rest a.1 h in
    (cond-true _ _ _ a.0 ∙ ap (λ x. w ∷ x) i.0, cond-true _ _ _ a.0 ∙ i.1)

letter_bounds : (b : ℕ) → is_ascii_alphabetic b ≡ true → (65 ≤ b) × (b ≤ 122)
letter_bounds b h = (low b h, high b h)
  where
    low : (b : ℕ) → is_ascii_alphabetic b ≡ true → 65 ≤ b
    low b h = grind (arith, nat_tests)

    high : (b : ℕ) → is_ascii_alphabetic b ≡ true → b ≤ 122
    high b h = grind (arith, nat_tests)

-- a letter begins a name
pub name_read : (b : ℕ) (bs : List ℕ) → is_ascii_alphabetic b ≡ true → token_at (b ∷ bs) ≡ Some (named (b ∷ name_at bs), behind_name bs)
name_read b bs h =
    let k = letter_bounds b h in
    cond-false _ _ _ (ne_eqb b 40 (λ e. omega arith)) ∙ (cond-false _ _ _ (ne_eqb b 41 (λ e. omega arith))
    ∙ (cond-false _ _ _ (ne_eqb b 61 (λ e. omega arith)) ∙ (cond-false _ _ _ (ne_eqb b 42 (λ e. omega arith))
    ∙ (cond-false _ _ _ (ne_eqb b 226 (λ e. omega arith)) ∙ cond-true _ _ _ h))))

-- what the grammar has as a token is read as it
named_read : (word rest : List ℕ) → IsIdentifier word → IsIdentifierOver rest → token_at (word ++ rest) ≡ Some (named word, rest)
named_read [] rest n h = absurd n
named_read (b ∷ ws) rest n h =
    let i = name_again ws rest n.1 h in
    name_read b (ws ++ rest) n.0 ∙ ap₂ (λ x y. Some (named (b ∷ x), y)) i.0 i.1

unknown_named : (word : List ℕ) → ((v : ℕ) → v < 64 → word ≢ variable_name v) → named word ≡ Unknown
unknown_named word h = elim (name_named word) [ inl n ↦ absurd (h n.number n.few n.name) | inr e ↦ e ]

sign_read : (word rest : List ℕ) → (word ≡ codes "*") ⊎ (word ≡ 226 ∷ 151 ∷ 135 ∷ []) → token_at (word ++ rest) ≡ Some (Operator, rest)
sign_read word rest (inl e) = ap (λ w. token_at (w ++ rest)) e
sign_read word rest (inr e) = ap (λ w. token_at (w ++ rest)) e

word_read : (token : Token) (word rest : List ℕ) → IsToken word token → MayEnd token rest → token_at (word ++ rest) ≡ Some (token, rest)
word_read Opening word rest e m = ap (λ w. token_at (w ++ rest)) e
word_read Closing word rest e m = ap (λ w. token_at (w ++ rest)) e
word_read Equals word rest e m = ap (λ w. token_at (w ++ rest)) e
word_read Operator word rest e m = sign_read word rest e
word_read (Variable v) word rest e m =
    named_read word rest (subst IsIdentifier (sym e.1) (variable_is_name v e.0)) m ∙ ap (λ t. Some (t, rest)) (ap named e.1 ∙ variable_named v e.0)
word_read Unknown word rest e m = named_read word rest e.0 m ∙ ap (λ t. Some (t, rest)) (unknown_named word e.1)

pub token_read : (bytes : List ℕ) (token : Token) (rest : List ℕ) → StartsWith bytes token rest → token_at bytes ≡ Some (token, rest)
token_read bytes token rest s = ap token_at s.whole ∙ word_read token s.word rest s.is_token s.ends

-- and what is read as a token is one
moved : (bytes : List ℕ) (t u : Token) (r s : List ℕ) → ◌≡◌ {A = Option (Token × List ℕ)} (Some (t, r)) (Some (u, s)) → StartsWith bytes t r → StartsWith bytes u s
moved bytes t u r s e h =
    let p = some_pair_parts t u r s e in
    subst (λ x. StartsWith bytes x s) p.0 (subst (λ y. StartsWith bytes t y) p.1 h)

named_found : (b : ℕ) (bs : List ℕ) → is_ascii_alphabetic b ≡ true → StartsWith (b ∷ bs) (named (b ∷ name_at bs)) (behind_name bs)
named_found b bs h = record {
  word = b ∷ name_at bs;
  is_token = name_token (b ∷ name_at bs) (h, names_are_alnum bs);
  ends = go (named (b ∷ name_at bs)) (name_is_over bs);
  whole = sym (ap (λ x. b ∷ x) (name_whole bs));
}
  where
    go : (t : Token) → IsIdentifierOver (behind_name bs) → MayEnd t (behind_name bs)
    go Opening h = tt
    go Closing h = tt
    go Equals h = tt
    go Operator h = tt
    go (Variable v) h = h
    go Unknown h = h

sign_found : (bs : List ℕ) (token : Token) (rest : List ℕ) → sign_at bs ≡ Some (token, rest) → StartsWith (226 ∷ bs) token rest
sign_found [] token rest h = absurd (cc)
sign_found (a ∷ []) token rest h = absurd (cc)
sign_found (a ∷ b ∷ bs) token rest h = elim (cases_Bool (eqb a 151 && eqb b 135)) [
  | inl k ↦
      let p = and_parts (eqb a 151) (eqb b 135) k in
      moved (226 ∷ a ∷ b ∷ bs) Operator token bs rest (sym (cond-true _ _ _ k) ∙ h)
      (record { word = 226 ∷ 151 ∷ 135 ∷ []; is_token = inr refl; ends = tt; whole = ap₂ (λ x y. 226 ∷ x ∷ y ∷ bs) (eqb-true a 151 p.0) (eqb-true b 135 p.1) })
  | inr k ↦ nothing token rest (sym (cond-false _ _ _ k) ∙ h)
]
  where
    nothing : (t : Token) (r : List ℕ) → ◌≡◌ {A = Option (Token × List ℕ)} None (Some (t, r)) → StartsWith (226 ∷ a ∷ b ∷ bs) token rest
    nothing t r e = absurd (cc)

pub token_found : (bytes : List ℕ) (token : Token) (rest : List ℕ) → token_at bytes ≡ Some (token, rest) → StartsWith bytes token rest
token_found [] token rest h = absurd (cc)
token_found (b ∷ bs) token rest h =
    let one : (k : ℕ) (t : Token) → eqb b k ≡ true → IsToken (k ∷ []) t → MayEnd t bs → StartsWith (b ∷ bs) t bs =
    λ k t e i m. record { word = k ∷ []; is_token = i; ends = m; whole = ap (λ x. x ∷ bs) (eqb-true b k e) } in
    elim (cases_Bool (eqb b 40)) [
      | inl k ↦ moved (b ∷ bs) Opening token bs rest (sym (cond-true _ _ _ k) ∙ h) (one 40 Opening k refl tt)
      | inr k0 ↦
          elim (cases_Bool (eqb b 41)) [
            | inl k ↦ moved (b ∷ bs) Closing token bs rest (sym (cond-false _ _ _ k0 ∙ cond-true _ _ _ k) ∙ h) (one 41 Closing k refl tt)
            | inr k1 ↦
                elim (cases_Bool (eqb b 61)) [
                  | inl k ↦ moved (b ∷ bs) Equals token bs rest (sym (cond-false _ _ _ k0 ∙ (cond-false _ _ _ k1 ∙ cond-true _ _ _ k)) ∙ h) (one 61 Equals k refl tt)
                  | inr k2 ↦
                      elim (cases_Bool (eqb b 42)) [
                        | inl k ↦ moved (b ∷ bs) Operator token bs rest (sym (cond-false _ _ _ k0 ∙ (cond-false _ _ _ k1 ∙ (cond-false _ _ _ k2 ∙ cond-true _ _ _ k))) ∙ h) (one 42 Operator k (inl refl) tt)
                        | inr k3 ↦
                            elim (cases_Bool (eqb b 226)) [
                              | inl k ↦
                                  subst (λ x. StartsWith (x ∷ bs) token rest) (sym (eqb-true b 226 k))
                                  (sign_found bs token rest (sym (cond-false _ _ _ k0 ∙ (cond-false _ _ _ k1 ∙ (cond-false _ _ _ k2 ∙ (cond-false _ _ _ k3 ∙ cond-true _ _ _ k)))) ∙ h))
                              | inr k4 ↦
                                  elim (cases_Bool (is_ascii_alphabetic b)) [
                                    | inl k ↦ moved (b ∷ bs) (named (b ∷ name_at bs)) token (behind_name bs) rest (sym (name_read b bs k) ∙ h) (named_found b bs k)
                                    | inr k ↦ nothing token rest (sym (cond-false _ _ _ k0 ∙ (cond-false _ _ _ k1 ∙ (cond-false _ _ _ k2 ∙ (cond-false _ _ _ k3 ∙ (cond-false _ _ _ k4 ∙ cond-false _ _ _ k))))) ∙ h)
                                  ]
                            ]
                      ]
                ]
          ]
    ]
  where
    nothing : (t : Token) (r : List ℕ) → ◌≡◌ {A = Option (Token × List ℕ)} None (Some (t, r)) → StartsWith (b ∷ bs) token rest
    nothing t r e = absurd (cc)

-- no token begins where none is read
pub no_token : (bytes : List ℕ) → token_at bytes ≡ None → (token : Token) (rest : List ℕ) → StartsWith bytes token rest → ⊥
no_token bytes h token rest s = absurd (none-some (token, rest) (sym h ∙ token_read bytes token rest s))

-- blanks
blank_no_token : (b : ℕ) (bs : List ℕ) → is_blank b ≡ true → token_at (b ∷ bs) ≡ None
blank_no_token b bs h = elim (cases_Bool (eqb b 32)) [
  | inl k ↦ ap (λ x. token_at (x ∷ bs)) (eqb-true b 32 k)
  | inr k ↦ ap (λ x. token_at (x ∷ bs)) (tab b h k)
]
  where
    tab : (b : ℕ) → is_blank b ≡ true → eqb b 32 ≡ false → b ≡ 9
    tab b h k = grind (arith, nat_tests)

pub start_kept : (start : List ℕ) (token : Token) (rest : List ℕ) → token_at start ≡ Some (token, rest) → skip_blanks start ≡ start
start_kept [] token rest h = refl
start_kept (b ∷ bs) token rest h = elim (cases_Bool (is_blank b)) [
  | inl k ↦ absurd (none-some (token, rest) (sym (blank_no_token b bs k) ∙ h))
  | inr k ↦ cond-false _ _ _ k
]

pub skipped : (blanks start : List ℕ) → AreBlanks blanks → skip_blanks (blanks ++ start) ≡ skip_blanks start
skipped [] start a = refl
skipped (b ∷ bs) start a = cond-true _ _ _ a.0 ∙ skipped bs start a.1

-- the blanks at the front, and what is left after them
abbrev pub Skipped : List ℕ → List ℕ → Type 0
Skipped bytes next = (blanks : List ℕ) × AreBlanks blanks × (bytes ≡ blanks ++ next)

pub skips : (bytes : List ℕ) → Skipped bytes (skip_blanks bytes)
skips [] = ([], tt, refl)
skips (b ∷ bs) = go (is_blank b) refl (skips bs)
  where
    go : (t : Bool) → is_blank b ≡ t → Skipped bs (skip_blanks bs) → Skipped (b ∷ bs) (cond t (skip_blanks bs) (b ∷ bs))
    go true e s = (b ∷ s.0, (e, s.1), ap (λ x. b ∷ x) s.2)
    go false e s = ([], tt, refl)

-- the byte after the blanks isn't one
pub no_blank : (bytes : List ℕ) (b : ℕ) (bs : List ℕ) → skip_blanks bytes ≡ b ∷ bs → is_blank b ≡ false
no_blank [] b bs h = absurd (cc)
no_blank (c ∷ cs) b bs h = elim (cases_Bool (is_blank c)) [
  | inl k ↦ no_blank cs b bs (sym (cond-true _ _ _ k) ∙ h)
  | inr k ↦ let e : c ∷ cs ≡ b ∷ bs = sym (cond-false _ _ _ k) ∙ h in same c b cs bs e k
]
  where
    same : (c b : ℕ) (cs bs : List ℕ) → c ∷ cs ≡ b ∷ bs → is_blank c ≡ false → is_blank b ≡ false
    same c b cs bs e k = let q : c ≡ b = cc in subst (λ x. is_blank x ≡ false) q k

pub all_skipped : (bytes : List ℕ) → AreBlanks bytes → skip_blanks bytes ≡ []
all_skipped [] a = refl
all_skipped (b ∷ bs) a = cond-true _ _ _ a.0 ∙ all_skipped bs a.1

-- the first of the tokens that bytes begin with
pub first_read : (bytes : List ℕ) (token : Token) (tokens : List Token) (rest : List ℕ) → (b : Begins bytes (token ∷ tokens) rest) → token_at (skip_blanks bytes) ≡ Some (token, b.2)
first_read bytes token tokens rest (blanks, start, after, a, e, s, more) =
    let r = token_read start token after s in
    ap token_at (ap skip_blanks e ∙ (skipped blanks start a ∙ start_kept start token after r)) ∙ r

pub begins_append : (bytes : List ℕ) (ts us : List Token) (middle rest : List ℕ) → Begins bytes ts middle → Begins middle us rest → Begins bytes (ts ++ us) rest
begins_append bytes [] us middle rest e h = subst (λ x. Begins x us rest) (sym e) h
begins_append bytes (t ∷ ts) us middle rest (blanks, start, after, a, e, s, more) h =
    (blanks, start, after, a, e, s, begins_append after ts us middle rest more h)

-- tokens at the front are the first ones of all tokens
pub front_of_all : (bytes : List ℕ) (ts us : List Token) (middle rest : List ℕ) → Begins bytes ts middle → Begins bytes us rest → AreBlanks rest
    → (vs : List Token) × (us ≡ ts ++ vs) × Begins middle vs rest
front_of_all bytes [] us middle rest e h a = (us, refl, subst (λ x. Begins x us rest) e h)
front_of_all bytes (t ∷ ts) [] middle rest g h a =
    absurd (none-some (t, g.2) (sym (ap token_at (ap skip_blanks h ∙ all_skipped rest a)) ∙ first_read bytes t ts middle g))
front_of_all bytes (t ∷ ts) (u ∷ us) middle rest g h a =
    let p = some_pair_parts t u g.2 h.2 (sym (first_read bytes t ts middle g) ∙ first_read bytes u us rest h) in
    let i = front_of_all h.2 ts us middle rest (subst (λ x. Begins x ts middle) p.1 g.6) h.6 a in
    (i.0, ap₂ (λ x xs. x ∷ xs) (sym p.0) i.1, i.2)

pub name_some : (word : List ℕ) → IsIdentifier word → 0 < length word
name_some [] n = absurd n
name_some (b ∷ bs) n = omega arith

-- each token takes a byte
word_some : (token : Token) (word : List ℕ) → IsToken word token → 0 < length word
word_some Opening word e = omega (arith, ap length e)
word_some Closing word e = omega (arith, ap length e)
word_some Equals word e = omega (arith, ap length e)
word_some Operator word (inl e) = omega (arith, ap length e)
word_some Operator word (inr e) = omega (arith, ap length e)
word_some (Variable v) word e = name_some word (subst IsIdentifier (sym e.1) (variable_is_name v e.0))
word_some Unknown word e = name_some word e.0

pub start_longer : (start : List ℕ) (token : Token) (rest : List ℕ) → StartsWith start token rest → length rest < length start
start_longer start token rest s = omega (arith, ap length s.whole, length-append s.word rest, word_some token s.word s.is_token)

pub begins_length : (bytes : List ℕ) (ts : List Token) (rest : List ℕ) → Begins bytes ts rest → length ts + length rest ≤ length bytes
begins_length bytes [] rest e = omega (arith, ap length e)
begins_length bytes (t ∷ ts) rest (blanks, start, after, a, e, s, more) =
    omega (arith, begins_length after ts rest more, start_longer start t after s, ap length e, length-append blanks start)
