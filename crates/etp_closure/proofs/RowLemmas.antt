-- Counts over laws, from counts over slots.
use Rattle.std.proofs.Common.{◌≡◌, ◌≢◌, ℕ, zero, suc, ◌<◌, ◌≤◌, ◌+◌, ◌-◌, Bool, false, ◌&&◌, not, nat_eq, nat_lt, if◌then◌else◌, List, length, get_or, Option, Some, None, refl, sym, ap, ◌∙◌, inl, inr, arith, add-one}
use Rattle.std.proofs.lemmas.Bool.{cases_lt, cases_eq, eq-eqb, ne_eqb, lt-ltb, le-ltb}
use Rattle.etp_bits.specs.Bits.{Bits, bit}
use Rattle.etp_bits.specs.Counts.{count_below}
use Rattle.etp_bits.proofs.Counting.{count_below-same, count_below-none}
use Rattle.etp_theory.specs.LawNumbers.{IsLaw}
use Rattle.etp_closure.specs.Closures.{slot_of, is_reached, is_covered, bit_by_slots}
use Rattle.etp_closure.specs.Tables.{IsOneToOne}
use Rattle.etp_closure.proofs.SlotLemmas.{slot_in}
use Rattle.etp_closure.proofs.Truths.{apart}

-- one number more may pass
one_more : (p q : ℕ → Bool) (i n : ℕ) → i < n → p i ≡ false → ((j : ℕ) → j ≢ i → q j ≡ p j)
    → count_below q n ≡ count_below p n + (if q i then 1 else 0)
one_more p q i zero h off agree = absurd (omega arith)
one_more p q i (suc n) h off agree =
    elim (cases_eq i n) [
      | inl last ↦
          let rest = count_below-same q p n (λ j below. agree j (λ e. (omega (arith, e, last)))) in
          let here : q n ≡ q i = ap q (sym last) in
          let none : p n ≡ false = ap p (sym last) ∙ off in
          rw (rest, here, none) (omega arith)
      | inr earlier ↦
          let rest = one_more p q i n (omega (arith, earlier)) off agree in
          let same = agree n (λ e. earlier (sym e)) in
          rw same (omega (arith, rest))
    ]

-- the test of the slot, where there is one
abbrev pub of_slot : (ℕ → Bool) → Option ℕ → Bool
of_slot q None = false
of_slot q (Some t) = q t

below_first : (q : ℕ → Bool) (o : Option ℕ) → of_slot (λ t. nat_lt t 0 && q t) o ≡ false
below_first q None = refl
below_first q (Some t) = rw (le-ltb t 0 (omega arith)) refl

first_slots : (slots laws : List ℕ) (q : ℕ → Bool) (k : ℕ) → IsOneToOne slots laws → k ≤ length laws
    → count_below (λ place. of_slot (λ t. nat_lt t k && q t) (slot_of slots (suc place))) (length slots) ≡ count_below q k
first_slots slots laws q zero pairs fits = count_below-none _ (length slots) (λ i h. below_first q (slot_of slots (suc i)))
first_slots slots laws q (suc k) pairs fits =
    let law = get_or laws k 0 in
    let at = pairs.slot_law k fits in
    let is = slot_in slots law k at in
    let place = law - 1 in
    let whole : suc place ≡ law = omega (arith, is.from_one) in
    let mine : slot_of slots (suc place) ≡ Some k = ap (slot_of slots) whole ∙ at in
    let before = λ (p : ℕ). of_slot (λ t. nat_lt t k && q t) (slot_of slots (suc p)) in
    let after = λ (p : ℕ). of_slot (λ t. nat_lt t (suc k) && q t) (slot_of slots (suc p)) in
    let off : before place ≡ false = ap (of_slot (λ t. nat_lt t k && q t)) mine ∙ rw (le-ltb k k (omega arith)) refl in
    let on : after place ≡ q k = ap (of_slot (λ t. nat_lt t (suc k) && q t)) mine ∙ rw (lt-ltb k (suc k) (omega arith)) refl in
    let step = one_more before after place (length slots) (omega (arith, is.to_last, is.from_one)) off (λ j differs. elsewhere j differs (slot_of slots (suc j)) refl) in
    let rest = first_slots slots laws q k pairs (omega arith) in
    step ∙ rw (rest, on) refl
  where
    elsewhere : (j : ℕ) → j ≢ get_or laws k 0 - 1 → (o : Option ℕ) → slot_of slots (suc j) ≡ o
        → of_slot (λ t. nat_lt t (suc k) && q t) o ≡ of_slot (λ t. nat_lt t k && q t) o
    elsewhere j differs None at = refl
    elsewhere j differs (Some t) at =
        let spot = (pairs.law_slot (suc j) t at).1 in
        let apart : t ≢ k = λ e. differs (omega (arith, spot, ap (λ n. get_or laws n 0) e)) in
        elim (cases_lt t k) [
          | inl below ↦ rw (lt-ltb t (suc k) (omega arith), lt-ltb t k below) refl
          | inr past ↦ rw (le-ltb t (suc k) (omega (arith, apart)), le-ltb t k past) refl
        ]

-- as many laws as slots
pub slots_laws : (slots laws : List ℕ) (q : ℕ → Bool) → IsOneToOne slots laws
    → count_below q (length laws) ≡ count_below (λ place. of_slot q (slot_of slots (suc place))) (length slots)
slots_laws slots laws q pairs =
    sym (first_slots slots laws q (length laws) pairs (omega arith))
    ∙ count_below-same _ _ (length slots) (λ i h. go i (slot_of slots (suc i)) refl)
  where
    go : (i : ℕ) (o : Option ℕ) → slot_of slots (suc i) ≡ o → of_slot (λ t. nat_lt t (length laws) && q t) o ≡ of_slot q o
    go i None at = refl
    go i (Some t) at = rw (lt-ltb t (length laws) (pairs.law_slot (suc i) t at).0) refl

pub row_reached : (duals slots laws : List ℕ) (reached covered : Bits) (e s : ℕ) → IsOneToOne slots laws → slot_of slots e ≡ Some s
    → count_below (bit reached s) (length laws)
    ≡ count_below (λ place. is_reached (record { duals = duals; slots = slots; reached = reached; covered = covered }) e (place + 1)) (length slots)
unfolding is_reached
row_reached duals slots laws reached covered e s pairs at =
    slots_laws slots laws (bit reached s) pairs
    ∙ count_below-same _ _ (length slots) (λ i h. rw (add-one, at) (go i (slot_of slots (suc i)) refl))
  where
    go : (i : ℕ) (o : Option ℕ) → slot_of slots (suc i) ≡ o → of_slot (bit reached s) o ≡ bit_by_slots reached (Some s) o (nat_eq e (suc i))
    go i None none = sym (apart slots e (suc i) s at none)
    go i (Some t) some = refl

pub row_refuted : (duals slots laws : List ℕ) (reached covered : Bits) (e s : ℕ) → IsOneToOne slots laws → slot_of slots e ≡ Some s
    → count_below (λ column. bit covered s column && not (bit reached s column)) (length laws)
    ≡ count_below (λ place. is_covered (record { duals = duals; slots = slots; reached = reached; covered = covered }) e (place + 1)
    && not (is_reached (record { duals = duals; slots = slots; reached = reached; covered = covered }) e (place + 1))) (length slots)
unfolding is_reached is_covered
row_refuted duals slots laws reached covered e s pairs at =
    slots_laws slots laws (λ column. bit covered s column && not (bit reached s column)) pairs
    ∙ count_below-same _ _ (length slots) (λ i h. rw (add-one, at) (go i (slot_of slots (suc i))))
  where
    go : (i : ℕ) (o : Option ℕ) → of_slot (λ column. bit covered s column && not (bit reached s column)) o
        ≡ (bit_by_slots covered (Some s) o false && not (bit_by_slots reached (Some s) o (nat_eq e (suc i))))
    go i None = refl
    go i (Some t) = refl

-- a law that isn't kept is reached from itself alone
pub lone_reached : (duals slots : List ℕ) (reached covered : Bits) (e : ℕ) → slot_of slots e ≡ None → IsLaw (length slots) e
    → count_below (λ place. is_reached (record { duals = duals; slots = slots; reached = reached; covered = covered }) e (place + 1)) (length slots) ≡ 1
unfolding is_reached
lone_reached duals slots reached covered e none is =
    one_more (λ _. false) (λ place. bit_by_slots reached (slot_of slots e) (slot_of slots (place + 1)) (nat_eq e (place + 1))) (e - 1) (length slots)
    (omega (arith, is.from_one, is.to_last)) refl (λ j differs. rw none (ne_eqb e (j + 1) (λ k. differs (omega (arith, k)))))
    ∙ (let whole : e ≡ e - 1 + 1 = omega (arith, is.from_one) in
    rw (none, eq-eqb e (e - 1 + 1) whole, count_below-none (λ _. false) (length slots) (λ i h. refl)) refl)

pub lone_refuted : (duals slots : List ℕ) (reached covered : Bits) (e : ℕ) → slot_of slots e ≡ None
    → count_below (λ place. is_covered (record { duals = duals; slots = slots; reached = reached; covered = covered }) e (place + 1)
    && not (is_reached (record { duals = duals; slots = slots; reached = reached; covered = covered }) e (place + 1))) (length slots) ≡ 0
unfolding is_covered
lone_refuted duals slots reached covered e none = count_below-none _ (length slots) (λ i h. rw none refl)
