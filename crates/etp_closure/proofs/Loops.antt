-- What the loops over rows keep.
use Rattle.std.proofs.Common.{◌≡◌, ℕ, ◌+◌, ◌≤◌, Bool, true, false, ◌&&◌, ◌||◌, nat_eq, nat_lt, nat_le, refl, sym, ◌∙◌, inl, inr, arith}
use Rattle.std.proofs.lemmas.Bool.{cases_eq, eq-eqb, ne_eqb, lt-ltb, le-leb, or_right, and_right}
use Rattle.std.proofs.Math.Bool.{or-false}
use Rattle.etp_bits.proofs.NumberTests.{nat_lt-more}

-- the marked rows below n have the line joined to them
abbrev pub JoinedBelow : (ℕ → ℕ → Bool) → (ℕ → ℕ → Bool) → (ℕ → Bool) → (ℕ → Bool) → ℕ → Type 0
JoinedBelow old now marked line n = (r c : ℕ) → now r c ≡ (old r c || ((nat_lt r n && marked r) && line c))

-- the rows below n that pass are marked in one row
abbrev pub MarkedBelow : (ℕ → ℕ → Bool) → (ℕ → ℕ → Bool) → ℕ → (ℕ → Bool) → ℕ → Type 0
MarkedBelow old now into passes n = (r c : ℕ) → now r c ≡ (old r c || (nat_eq r into && (nat_lt c n && passes c)))

-- one more law reaches itself
pub itself_more : (old now new : ℕ → ℕ → Bool) (first slot : ℕ) → first ≤ slot
    → ((r c : ℕ) → now r c ≡ (old r c || (nat_eq r c && (nat_le first r && nat_lt r slot))))
    → ((r c : ℕ) → new r c ≡ (now r c || (nat_eq r slot && nat_eq c slot)))
    → (r c : ℕ) → new r c ≡ (old r c || (nat_eq r c && (nat_le first r && nat_lt r (slot + 1))))
itself_more old now new first slot from before step r c =
    step r c
    ∙ elim (cases_eq r slot) [
      | inl here ↦
          elim (cases_eq c slot) [
            | inl there ↦
                rw (eq-eqb r slot here, eq-eqb c slot there, eq-eqb r c (here ∙ sym there), le-leb first r (omega (arith, here)), lt-ltb r (slot + 1) (omega (arith, here)))
                (or_right (now r c) true refl ∙ sym (or_right (old r c) true refl))
            | inr apart ↦
                let differs = ne_eqb r c (λ e. apart (sym e ∙ here)) in
                rw (ne_eqb c slot apart, and_right (nat_eq r slot) false refl, or-false (now r c), before r c, differs) refl
          ]
      | inr apart ↦
          rw (ne_eqb r slot apart, or-false (now r c), before r c, nat_lt-more r slot, ne_eqb r slot apart, or-false (nat_lt r slot)) refl
    ]
