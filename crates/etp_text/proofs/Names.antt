-- Which variable a name is, and the other way round.
use Rattle.std.proofs.Common.{◌≡◌, ℕ, zero, suc, ◌+◌, ◌-◌, ◌*◌, ◌/◌, ◌%◌, ◌<◌, ◌≤◌, Bool, true, false, ◌&&◌, eqb, leb, ltb, ◌⊎◌, inl, inr, List, [], ◌∷◌, ◌++◌, refl, sym, ap, ap₂, ◌∙◌, subst, arith, lit<, eqb-true, leb-true, ltb-true, ne_eqb}
use Rattle.std.specs.Fmt.{decimal, digits}
use Rattle.std.specs.Char.{is_ascii_alphabetic, is_ascii_alphanumeric}
use Rattle.std.proofs.lemmas.Fmt.{decimal_digit, decimal_step}
use Rattle.std.proofs.lemmas.Bool.{cases_Bool, and_parts, cond-true, cond-false}
use Rattle.std.proofs.lemmas.Bool.Decides.{nat_tests}
use Rattle.etp_text.specs.Written.{variable_name}
use Rattle.etp_text.specs.Grammar.{IsIdentifier, IsToken}
use Rattle.etp_text.specs.Machine.{named, small}
use Rattle.etp_text.specs.declared.token.Token.{Token}
use Rattle.etp_text.specs.declared.token.Token.TheVariants.{Opening, Closing, Equals, Operator, Variable, Unknown}

-- names of one to three bytes
pub long_name : (v : ℕ) → 6 ≤ v → variable_name v ≡ 118 ∷ decimal v
long_name v h =
    cond-false _ _ _ (ne_eqb v 0 (λ e. omega arith)) ∙ (cond-false _ _ _ (ne_eqb v 1 (λ e. omega arith))
    ∙ (cond-false _ _ _ (ne_eqb v 2 (λ e. omega arith)) ∙ (cond-false _ _ _ (ne_eqb v 3 (λ e. omega arith))
    ∙ (cond-false _ _ _ (ne_eqb v 4 (λ e. omega arith)) ∙ cond-false _ _ _ (ne_eqb v 5 (λ e. omega arith))))))

-- what is known of a name
pub record IsVariableName (word : List ℕ) : Type 0 where
  pub number : ℕ
  pub token : named word ≡ Variable number
  pub few : number < 64
  pub name : word ≡ variable_name number
  pub is_name : IsIdentifier word

abbrev pub Named : List ℕ → Type 0
Named word = IsVariableName word ⊎ (named word ≡ Unknown)

letter_named : (a : ℕ) → Named (a ∷ [])
letter_named a =
    let P : ℕ → Type 0 = λ x. Named (x ∷ []) in
    let at : (k : ℕ) → eqb a k ≡ true → P k → P a = λ k h p. subst P (sym (eqb-true a k h)) p in
    elim (cases_Bool (eqb a 120)) [
      | inl h ↦ at 120 h (inl (record { number = 0; token = refl; few = lit< tt; name = refl; is_name = (refl, tt) }))
      | inr h0 ↦
          elim (cases_Bool (eqb a 121)) [
            | inl h ↦ at 121 h (inl (record { number = 1; token = refl; few = lit< tt; name = refl; is_name = (refl, tt) }))
            | inr h1 ↦
                elim (cases_Bool (eqb a 122)) [
                  | inl h ↦ at 122 h (inl (record { number = 2; token = refl; few = lit< tt; name = refl; is_name = (refl, tt) }))
                  | inr h2 ↦
                      elim (cases_Bool (eqb a 119)) [
                        | inl h ↦ at 119 h (inl (record { number = 3; token = refl; few = lit< tt; name = refl; is_name = (refl, tt) }))
                        | inr h3 ↦
                            elim (cases_Bool (eqb a 117)) [
                              | inl h ↦ at 117 h (inl (record { number = 4; token = refl; few = lit< tt; name = refl; is_name = (refl, tt) }))
                              | inr h4 ↦
                                  elim (cases_Bool (eqb a 118)) [
                                    | inl h ↦ at 118 h (inl (record { number = 5; token = refl; few = lit< tt; name = refl; is_name = (refl, tt) }))
                                    | inr h5 ↦
                                        inr (cond-false _ _ _ h0 ∙ (cond-false _ _ _ h1 ∙ (cond-false _ _ _ h2 ∙ (cond-false _ _ _ h3 ∙ (cond-false _ _ _ h4 ∙ cond-false _ _ _ h5)))))
                                  ]
                            ]
                      ]
                ]
          ]
    ]

digit_byte : (b : ℕ) → 48 ≤ b → b ≤ 57 → is_ascii_alphanumeric b ≡ true
digit_byte b l h = grind (arith, nat_tests)

two_named : (a b : ℕ) → Named (a ∷ b ∷ [])
two_named a b = elim (cases_Bool (eqb a 118 && leb 54 b && leb b 57)) [
  | inl h ↦
      let p = and_parts (eqb a 118 && leb 54 b) (leb b 57) h in
      let q = and_parts (eqb a 118) (leb 54 b) p.0 in
      let low = leb-true 54 b q.1 in
      let high = leb-true b 57 p.1 in
      let first = eqb-true a 118 q.0 in
      let value : 48 + (b - 48) ≡ b = omega arith in
      inl (record {
        number = b - 48;
        token = cond-true _ _ _ h;
        few = omega arith;
        name = ap (λ x. x ∷ b ∷ []) first ∙ sym (long_name (b - 48) (omega arith) ∙ ap (λ ds. 118 ∷ ds) (decimal_digit (b - 48) (omega arith) ∙ ap (λ d. d ∷ []) value));
        is_name = (ap is_ascii_alphabetic first, (digit_byte b (omega arith) high, tt));
      })
  | inr h ↦ inr (cond-false _ _ _ h)
]

value_of_two : (n b c : ℕ) → n ≡ (b - 48) * 10 + (c - 48) → 49 ≤ b → 48 ≤ c → c ≤ 57 → n < 64 → variable_name n ≡ 118 ∷ b ∷ c ∷ []
value_of_two n b c e l k m small =
    let tens : n / 10 ≡ b - 48 = omega arith in
    let units : n % 10 ≡ c - 48 = omega arith in
    let first : decimal (n / 10) ≡ b ∷ [] = decimal_digit (n / 10) (omega arith) ∙ ap (λ d. d ∷ []) (let z : 48 + n / 10 ≡ b = omega arith in z) in
    let last : 48 + n % 10 ≡ c = omega arith in
    long_name n (omega arith) ∙ ap (λ ds. 118 ∷ ds) (decimal_step n (omega arith) (omega arith) ∙ ap₂ (λ ds d. ds ++ (d ∷ [])) first last)

three_named : (a b c : ℕ) → Named (a ∷ b ∷ c ∷ [])
three_named a b c = elim (cases_Bool (eqb a 118 && leb 49 b && leb b 54 && leb 48 c && leb c 57)) [
  | inl h ↦
      let p = and_parts (eqb a 118 && leb 49 b && leb b 54 && leb 48 c) (leb c 57) h in
      let q = and_parts (eqb a 118 && leb 49 b && leb b 54) (leb 48 c) p.0 in
      let r = and_parts (eqb a 118 && leb 49 b) (leb b 54) q.0 in
      let s = and_parts (eqb a 118) (leb 49 b) r.0 in
      let first = eqb-true a 118 s.0 in
      let low = leb-true 49 b s.1 in
      let high = leb-true b 54 r.1 in
      let down = leb-true 48 c q.1 in
      let up = leb-true c 57 p.1 in
      let n : ℕ = (b - 48) * 10 + (c - 48) in
      elim (cases_Bool (ltb n 64)) [
        | inl k ↦
            inl (record {
              number = n;
              token = cond-true _ _ _ h ∙ cond-true _ _ _ k;
              few = ltb-true n 64 k;
              name = ap (λ x. x ∷ b ∷ c ∷ []) first ∙ sym (value_of_two n b c refl low down up (ltb-true n 64 k));
              is_name = (ap is_ascii_alphabetic first, (digit_byte b (omega arith) (omega arith), (digit_byte c down up, tt)));
            })
        | inr k ↦ inr (cond-true _ _ _ h ∙ cond-false _ _ _ k)
      ]
  | inr h ↦ inr (cond-false _ _ _ h)
]

pub name_named : (word : List ℕ) → Named word
name_named [] = inr refl
name_named (a ∷ []) = letter_named a
name_named (a ∷ b ∷ []) = two_named a b
name_named (a ∷ b ∷ c ∷ []) = three_named a b c
name_named (a ∷ b ∷ c ∷ d ∷ more) = inr refl

is_variable : ℕ → Token → Bool
is_variable v (Variable w) = eqb v w
is_variable v _ = false

variable_is : (v : ℕ) (t : Token) → is_variable v t ≡ true → t ≡ Variable v
unfolding is_variable
variable_is v (Variable w) h = ap Variable (sym (eqb-true v w h))
variable_is v Opening h = absurd (cc)
variable_is v Closing h = absurd (cc)
variable_is v Equals h = absurd (cc)
variable_is v Operator h = absurd (cc)
variable_is v Unknown h = absurd (cc)

-- all variables below a number are those of their names
all_named : ℕ → Bool
all_named zero = true
all_named (suc n) = all_named n && is_variable n (named (variable_name n))

all_64 : all_named 64 ≡ true
unfolding all_named is_variable digits
all_64 = refl

picked : (n v : ℕ) → all_named n ≡ true → v < n → is_variable v (named (variable_name v)) ≡ true
unfolding all_named
picked zero v h lt = absurd (omega arith)
picked (suc n) v h lt =
    let p = and_parts (all_named n) (is_variable n (named (variable_name n))) h in
    elim (cases_Bool (eqb v n)) [
      | inl e ↦ subst (λ x. is_variable x (named (variable_name x)) ≡ true) (sym (eqb-true v n e)) p.1
      | inr e ↦ picked n v p.0 (below v n lt e)
    ]
  where
    below : (v n : ℕ) → v < suc n → eqb v n ≡ false → v < n
    below v n l e = grind (arith, nat_tests)

pub variable_named : (v : ℕ) → v < 64 → named (variable_name v) ≡ Variable v
variable_named v h = variable_is v (named (variable_name v)) (picked 64 v all_64 h)

unknown_variable : {X : Type 0} (v : ℕ) → Unknown ≡ Variable v → X
unknown_variable v h = absurd (cc)

pub variable_is_name : (v : ℕ) → v < 64 → IsIdentifier (variable_name v)
variable_is_name v h = elim (name_named (variable_name v)) [ inl n ↦ n.is_name | inr e ↦ unknown_variable v (sym e ∙ variable_named v h) ]

-- the token of a name
pub name_token : (word : List ℕ) → IsIdentifier word → IsToken word (named word)
name_token word h = elim (name_named word) [
  | inl n ↦ subst (IsToken word) (sym n.token) (n.few, n.name)
  | inr e ↦ subst (IsToken word) (sym e) (h, λ v few same. unknown_variable v (sym e ∙ (ap named same ∙ variable_named v few)))
]
