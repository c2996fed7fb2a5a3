-- The truth values of pairs of laws, from the bits of their slots.
use Rattle.std.proofs.Common.{◌≡◌, ◌≢◌, ℕ, zero, suc, ◌<◌, ◌≤◌, Bool, true, false, ◌&&◌, ◌||◌, nat_eq, nat_lt, nat_le, List, [], ◌∷◌, length, get_or, Option, Some, None, IsSome, IfSome, is_some, unwrap_or, ◌^◌, ◌-◌, ◌↔◌, replicate, All, refl, sym, ap, ◌∙◌, subst, inl, inr, arith}
use Rattle.std.specs.List.{list_any}
use Rattle.std.proofs.lemmas.List.{get_or-replicate, get_or_past, length-replicate}
use Rattle.std.proofs.lemmas.Bool.{cases_lt, cases_eq, eqb-true, eq-eqb, ne_eqb, lt-ltb, le-leb, lt-leb, false_from_ne_true, and_right, and_parts, ltb-true, or_cases, or_left, or_right, and_from}
use Rattle.std.proofs.Math.Bool.{or-false, and-true}
use Rattle.etp_theory.specs.Reach.{Fact}
use Rattle.etp_bits.specs.Bits.{Bits, bit, SameSizes}
use Rattle.etp_theory.specs.LawNumbers.{IsLaw, IsOwnInverse, dual_number}
use Rattle.etp_closure.specs.Closures.{Known, StandsFor, SameAnswers, KeepsSlots, IsReserved, slot_of, slot_from, IsKept, is_reached, is_covered, bit_by_slots}
use Rattle.etp_closure.proofs.Standing.{stands_empty, stands_same}
use Rattle.etp_closure.specs.Tables.{IsOneToOne, Extends, IsClosure, IsSquare, IsMarks, IsTurned, MarksUncovered, Links, anew, covered_along, row_of, image_of}
use Rattle.etp_closure.proofs.SlotLemmas.{slot_kept, kept_by_slot, same_slots, reserved_duals}
use Rattle.etp_closure.proofs.Closing.{closed_blank, closed_grown, itself_keeps, itself_only, turned_itself}

-- a law that is kept isn't one that isn't
pub apart : (slots : List ℕ) (x y slot : ℕ) → slot_of slots x ≡ Some slot → slot_of slots y ≡ None → nat_eq x y ≡ false
apart slots x y slot some none = ne_eqb x y (λ e. (cc (some, none, e)))

pub apart_too : (slots : List ℕ) (x y slot : ℕ) → slot_of slots y ≡ Some slot → slot_of slots x ≡ None → nat_eq x y ≡ false
apart_too slots x y slot some none = ne_eqb x y (λ e. (cc (some, none, e)))

reached_step : (r0 r1 : Bits) (row column : ℕ) (sx sy : Option ℕ) (xy xf ty : Bool)
    → (sx ≡ None → xf ≡ false) → (sy ≡ None → ty ≡ false)
    → ((r c : ℕ) → bit r1 r c ≡ (bit r0 r c || (bit r0 r row && bit r0 column c)))
    → bit_by_slots r1 sx sy xy
    ≡ (bit_by_slots r0 sx sy xy || (bit_by_slots r0 sx (Some row) xf && bit_by_slots r0 (Some column) sy ty))
reached_step r0 r1 row column (Some s) (Some t) xy xf ty h k bits = bits s t
reached_step r0 r1 row column (Some s) None xy xf ty h k bits = rw (k refl, and_right (bit r0 s row) false refl) (sym (or-false xy))
reached_step r0 r1 row column None (Some t) xy xf ty h k bits = rw (h refl) (sym (or-false xy))
reached_step r0 r1 row column None None xy xf ty h k bits = rw (h refl) (sym (or-false xy))

covered_step : (r0 c0 c1 : Bits) (row column : ℕ) (sx sy : Option ℕ) (tx yf : Bool)
    → (sx ≡ None → tx ≡ false) → (sy ≡ None → yf ≡ false)
    → ((r c : ℕ) → bit c1 r c ≡ covered_along (bit r0) (bit c0) row column r c)
    → bit_by_slots c1 sx sy false
    ≡ ((bit_by_slots c0 sx sy false || (bit_by_slots r0 (Some column) sx tx && bit_by_slots c0 (Some row) sy false))
    || ((bit_by_slots c0 sx (Some column) false || (bit_by_slots r0 (Some column) sx tx && bit c0 row column))
    && bit_by_slots r0 sy (Some row) yf))
covered_step r0 c0 c1 row column (Some s) (Some t) tx yf h k bits = bits s t
covered_step r0 c0 c1 row column (Some s) None tx yf h k bits =
    rw (k refl, and_right (bit r0 column s) false refl, and_right (bit c0 s column || (bit r0 column s && bit c0 row column)) false refl) refl
covered_step r0 c0 c1 row column None (Some t) tx yf h k bits = rw (h refl) refl
covered_step r0 c0 c1 row column None None tx yf h k bits = rw (h refl) refl

-- the truth values after rows were joined for an edge
pub links_anew : (duals slots : List ℕ) (r0 c0 r1 c1 : Bits) (from to row column : ℕ)
    → slot_of slots from ≡ Some row → slot_of slots to ≡ Some column
    → ((r c : ℕ) → bit r1 r c ≡ (bit r0 r c || (bit r0 r row && bit r0 column c)))
    → ((r c : ℕ) → bit c1 r c ≡ covered_along (bit r0) (bit c0) row column r c)
    → Links (is_reached (record { duals = duals; slots = slots; reached = r0; covered = c0 })) (is_covered (record { duals = duals; slots = slots; reached = r0; covered = c0 }))
    (is_reached (record { duals = duals; slots = slots; reached = r1; covered = c1 })) (is_covered (record { duals = duals; slots = slots; reached = r1; covered = c1 })) from to
unfolding is_reached is_covered
links_anew duals slots r0 c0 r1 c1 from to row column at_from at_to reached covered =
    anew
    (λ x y. rw (at_from, at_to)
    (reached_step r0 r1 row column (slot_of slots x) (slot_of slots y) (nat_eq x y) (nat_eq x from) (nat_eq to y)
    (λ none. apart_too slots x from row at_from none) (λ none. apart slots to y column at_to none) reached))
    (λ x y. rw (at_from, at_to)
    (covered_step r0 c0 c1 row column (slot_of slots x) (slot_of slots y) (nat_eq to x) (nat_eq y from)
    (λ none. apart slots to x column at_to none) (λ none. apart_too slots y from row at_from none) covered))

-- and where the edge was there already
pub links_already : (duals slots : List ℕ) (r0 c0 : Bits) (from to row column : ℕ)
    → slot_of slots from ≡ Some row → slot_of slots to ≡ Some column → bit r0 row column ≡ true
    → is_reached (record { duals = duals; slots = slots; reached = r0; covered = c0 }) from to ≡ true
unfolding is_reached
links_already duals slots r0 c0 from to row column at_from at_to on = rw (at_from, at_to) on

-- ---- pairs

any_same : (p q : ℕ → Bool) (xs : List ℕ) → ((i : ℕ) → i < length xs → p (get_or xs i 0) ≡ q (get_or xs i 0)) → list_any p xs ≡ list_any q xs
any_same p q [] same = refl
any_same p q (x ∷ xs) same =
    let first : p x ≡ q x = same 0 (omega arith) in
    let rest = any_same p q xs (λ i h. same (suc i) (omega arith)) in
    rw (first, rest) refl

any_none : (p : ℕ → Bool) (xs : List ℕ) → ((i : ℕ) → i < length xs → p (get_or xs i 0) ≡ false) → list_any p xs ≡ false
any_none p [] off = refl
any_none p (x ∷ xs) off =
    let first : p x ≡ false = off 0 (omega arith) in
    rw first (any_none p xs (λ i h. off (suc i) (omega arith)))

pub row_is : (slots : List ℕ) (law : ℕ) → IsKept slots law → slot_of slots law ≡ Some (row_of slots law)
row_is slots law kept =
    let at = slot_kept slots law kept in
    at.1 ∙ ap Some (sym (ap (λ (o : Option ℕ). unwrap_or o 0) at.1))

same_if : (x y : Bool) → (x ≡ true → y ≡ true) → (y ≡ true → x ≡ true) → x ≡ y
same_if true true h k = refl
same_if true false h k = sym (h refl)
same_if false true h k = k refl
same_if false false h k = refl

-- the truth values after pairs were covered
pub pairs_covered : (duals slots : List ℕ) (r0 c0 c1 : Bits) (image : ℕ → ℕ) (holds fails : List ℕ)
    → ((i : ℕ) → i < length holds → IsKept slots (image (get_or holds i 0)))
    → ((i : ℕ) → i < length fails → IsKept slots (image (get_or fails i 0)))
    → ((x s y t : ℕ) → slot_of slots x ≡ Some s → slot_of slots y ≡ Some t
    → bit c1 s t ≡ (bit c0 s t || (list_any (λ law. bit r0 (row_of slots (image law)) s) holds && list_any (λ law. bit r0 t (row_of slots (image law))) fails)))
    → (x y : ℕ)
    → is_covered (record { duals = duals; slots = slots; reached = r0; covered = c1 }) x y
    ≡ (is_covered (record { duals = duals; slots = slots; reached = r0; covered = c0 }) x y
    || (list_any (λ law. is_reached (record { duals = duals; slots = slots; reached = r0; covered = c0 }) (image law) x) holds
    && list_any (λ law. is_reached (record { duals = duals; slots = slots; reached = r0; covered = c0 }) y (image law)) fails))
unfolding is_reached is_covered
pairs_covered duals slots r0 c0 c1 image holds fails holds_kept fails_kept bits x y = go (slot_of slots x) (slot_of slots y) refl refl
  where
    from_holds : (s : Option ℕ) (i : ℕ) → i < length holds
        → bit_by_slots r0 (slot_of slots (image (get_or holds i 0))) s (nat_eq (image (get_or holds i 0)) x)
        ≡ bit_by_slots r0 (Some (row_of slots (image (get_or holds i 0)))) s (nat_eq (image (get_or holds i 0)) x)
    from_holds s i h = ap (λ (o : Option ℕ). bit_by_slots r0 o s (nat_eq (image (get_or holds i 0)) x)) (row_is slots (image (get_or holds i 0)) (holds_kept i h))

    to_fails : (t : Option ℕ) (i : ℕ) → i < length fails
        → bit_by_slots r0 t (slot_of slots (image (get_or fails i 0))) (nat_eq y (image (get_or fails i 0)))
        ≡ bit_by_slots r0 t (Some (row_of slots (image (get_or fails i 0)))) (nat_eq y (image (get_or fails i 0)))
    to_fails t i h = ap (λ (o : Option ℕ). bit_by_slots r0 t o (nat_eq y (image (get_or fails i 0)))) (row_is slots (image (get_or fails i 0)) (fails_kept i h))

    go : (sx sy : Option ℕ) → slot_of slots x ≡ sx → slot_of slots y ≡ sy
        → bit_by_slots c1 sx sy false
        ≡ (bit_by_slots c0 sx sy false
        || (list_any (λ law. bit_by_slots r0 (slot_of slots (image law)) sx (nat_eq (image law) x)) holds
        && list_any (λ law. bit_by_slots r0 sy (slot_of slots (image law)) (nat_eq y (image law))) fails))
    go (Some s) (Some t) at_x at_y =
        bits x s y t at_x at_y
        ∙ ap (λ b. bit c0 s t || (b && list_any (λ law. bit r0 t (row_of slots (image law))) fails)) (sym (any_same _ _ holds (from_holds (Some s))))
        ∙ ap (λ b. bit c0 s t || (list_any (λ law. bit_by_slots r0 (slot_of slots (image law)) (Some s) (nat_eq (image law) x)) holds && b)) (sym (any_same _ _ fails (to_fails (Some t))))
    go (Some s) None at_x at_y =
        let off = any_none (λ law. bit_by_slots r0 None (slot_of slots (image law)) (nat_eq y (image law))) fails
        (λ i h. apart_too slots y (image (get_or fails i 0)) (row_of slots (image (get_or fails i 0))) (row_is slots (image (get_or fails i 0)) (fails_kept i h)) at_y) in
        rw off (sym (and_right (list_any (λ law. bit_by_slots r0 (slot_of slots (image law)) (Some s) (nat_eq (image law) x)) holds) false refl))
    go None sy at_x at_y =
        let off = any_none (λ law. bit_by_slots r0 (slot_of slots (image law)) None (nat_eq (image law) x)) holds
        (λ i h. from_holds None i h ∙ apart slots (image (get_or holds i 0)) x (row_of slots (image (get_or holds i 0))) (row_is slots (image (get_or holds i 0)) (holds_kept i h)) at_x) in
        rw off refl

-- ---- no facts

pub same_slot : (slots laws : List ℕ) (x y s t : ℕ) → IsOneToOne slots laws → slot_of slots x ≡ Some s → slot_of slots y ≡ Some t → nat_eq s t ≡ nat_eq x y
same_slot slots laws x y s t pairs at_x at_y =
    elim (cases_eq x y) [
      | inl same ↦
          let equal : s ≡ t = (cc (at_x, at_y, same)) in
          eq-eqb s t equal ∙ sym (eq-eqb x y same)
      | inr differs ↦
          let apart : s ≢ t = λ e. differs (sym (pairs.law_slot x s at_x).1 ∙ ap (λ n. get_or laws n 0) e ∙ (pairs.law_slot y t at_y).1) in
          ne_eqb s t apart ∙ sym (ne_eqb x y differs)
    ]

pub cleared_reached : (duals slots laws : List ℕ) (r0 r1 c1 : Bits) → IsOneToOne slots laws
    → ((r c : ℕ) → bit r0 r c ≡ false)
    → ((r c : ℕ) → bit r1 r c ≡ (bit r0 r c || (nat_eq r c && (nat_le 0 r && nat_lt r (length laws)))))
    → (x y : ℕ) → is_reached (record { duals = duals; slots = slots; reached = r1; covered = c1 }) x y ≡ nat_eq x y
unfolding is_reached
cleared_reached duals slots laws r0 r1 c1 pairs off bits x y = go (slot_of slots x) (slot_of slots y) refl refl
  where
    go : (sx sy : Option ℕ) → slot_of slots x ≡ sx → slot_of slots y ≡ sy → bit_by_slots r1 sx sy (nat_eq x y) ≡ nat_eq x y
    go (Some s) (Some t) at_x at_y =
        let inside = (pairs.law_slot x s at_x).0 in
        bits s t ∙ rw (off s t, lt-ltb s (length laws) inside, le-leb 0 s (omega arith)) (and-true (nat_eq s t) ∙ same_slot slots laws x y s t pairs at_x at_y)
    go (Some s) None at_x at_y = refl
    go None sy at_x at_y = refl

pub cleared_covered : (duals slots : List ℕ) (r1 c1 : Bits) → ((r c : ℕ) → bit c1 r c ≡ false)
    → (x y : ℕ) → is_covered (record { duals = duals; slots = slots; reached = r1; covered = c1 }) x y ≡ false
unfolding is_covered
cleared_covered duals slots r1 c1 off x y = go (slot_of slots x) (slot_of slots y)
  where
    go : (sx sy : Option ℕ) → bit_by_slots c1 sx sy false ≡ false
    go (Some s) (Some t) = off s t
    go (Some s) None = refl
    go None sy = refl

-- the same slots and the same reached bits
pub same_reached : (old new : Known) → new.slots ≡ old.slots → new.reached ≡ old.reached → (x y : ℕ) → is_reached new x y ≡ is_reached old x y
unfolding is_reached
same_reached old new slots reached x y = rw (slots, reached) refl

-- pairs of duals, by the reached pairs before
pub pairs_by_duals : (old mid : Known) (holds fails : List ℕ) → mid.duals ≡ old.duals
    → ((x y : ℕ) → is_reached mid x y ≡ is_reached old x y) → (x y : ℕ)
    → (is_covered mid x y || (list_any (λ law. is_reached mid (dual_number mid.duals law) x) holds && list_any (λ law. is_reached mid y (dual_number mid.duals law)) fails))
    ≡ (is_covered mid x y || (list_any (λ law. is_reached old (dual_number old.duals law) x) holds && list_any (λ law. is_reached old y (dual_number old.duals law)) fails))
pairs_by_duals old mid holds fails duals same x y =
    let one = any_same (λ law. is_reached mid (dual_number mid.duals law) x) (λ law. is_reached old (dual_number old.duals law) x) holds
    (λ i h. same (dual_number mid.duals (get_or holds i 0)) x ∙ ap (λ (ds : List ℕ). is_reached old (dual_number ds (get_or holds i 0)) x) duals) in
    let two = any_same (λ law. is_reached mid y (dual_number mid.duals law)) (λ law. is_reached old y (dual_number old.duals law)) fails
    (λ i h. same y (dual_number mid.duals (get_or fails i 0)) ∙ ap (λ (ds : List ℕ). is_reached old y (dual_number ds (get_or fails i 0))) duals) in
    rw (one, two) refl

-- the slot of a kept law is within both matrices
pub slot_within : (duals slots laws : List ℕ) (reached covered marks reaching : Bits) (has_covered : Bool) → IsClosure duals slots laws reached covered marks reaching has_covered
    → (law slot : ℕ) → slot_of slots law ≡ Some slot
    → (slot < length laws) × (slot < reached.rows) × (slot < reached.columns) × (slot < covered.rows) × (slot < covered.columns) × (slot < marks.columns)
slot_within duals slots laws reached covered marks reaching has_covered is law slot at =
    let inside = (is.paired.law_slot law slot at).0 in
    (inside, omega (arith, is.reached_size.rows_are), omega (arith, is.reached_size.columns_are), omega (arith, is.covered_size.rows_are), omega (arith, is.covered_size.columns_are), omega (arith, is.marks_size.columns_are))

pub blank_square : (matrix : Bits) (count : ℕ) → matrix.rows ≡ count → matrix.columns ≡ count → ((r c : ℕ) → bit matrix r c ≡ false)
    → IsSquare matrix count
blank_square matrix count rows columns off = record {
  rows_are = rows;
  columns_are = columns;
  within = λ row column on. (cc (off row column, on));
}

pub cleared_square : (r0 r1 : Bits) (count : ℕ) → ((r c : ℕ) → bit r0 r c ≡ false) → r1.rows ≡ count → r1.columns ≡ count
    → ((r c : ℕ) → bit r1 r c ≡ (bit r0 r c || (nat_eq r c && (nat_le 0 r && nat_lt r count)))) → IsSquare r1 count
cleared_square r0 r1 count off rows columns bits = record {
  rows_are = rows;
  columns_are = columns;
  within = λ row column on.
      let there = rw (off row column) at (sym (bits row column) ∙ on) in
      let parts = and_parts (nat_eq row column) (nat_le 0 row && nat_lt row count) there in
      let same = eqb-true row column parts.0 in
      let below = ltb-true row count (and_parts (nat_le 0 row) (nat_lt row count) parts.1).1 in
      (below, omega (arith, same, below));
}

pub image_kept : (duals slots : List ℕ) → ((law : ℕ) → IsKept slots law → IsKept slots (dual_number duals law)) → (dual : Bool) (law : ℕ)
    → IsKept slots law → IsKept slots (image_of duals dual law)
image_kept duals slots duals_kept true law kept = duals_kept law kept
image_kept duals slots duals_kept false law kept = kept

-- the covered bits after the rows of a refutation were marked and joined
pub refuted_bits : (c0 c1 : ℕ → ℕ → Bool) (marks line named : ℕ → Bool) → MarksUncovered marks line c0 named
    → ((x y : ℕ) → c1 x y ≡ (c0 x y || (marks x && line y))) → (x y : ℕ) → c1 x y ≡ (c0 x y || (named x && line y))
refuted_bits c0 c1 marks line named uncovered joined x y =
    joined x y
    ∙ same_if (c0 x y || (marks x && line y)) (c0 x y || (named x && line y))
    (λ h. elim (or_cases (c0 x y) (marks x && line y) h) [
      | inl old ↦ or_left (c0 x y) _ old
      | inr new ↦
          let parts = and_parts (marks x) (line y) new in
          or_right (c0 x y) _ (and_from (named x) (line y) (uncovered.sound x parts.0) parts.1)
    ])
    (λ h. elim (or_cases (c0 x y) (named x && line y) h) [
      | inl old ↦ or_left (c0 x y) _ old
      | inr new ↦
          let parts = and_parts (named x) (line y) new in
          elim (uncovered.complete x parts.0) [
            | inl marked ↦ or_right (c0 x y) _ (and_from (marks x) (line y) marked parts.1)
            | inr covered ↦ or_left (c0 x y) _ (covered y parts.1)
          ]
    ])

-- what reaches a law of a list, by turned rows
pub any_turned : (r t : Bits) (rows : ℕ → ℕ) (xs : List ℕ) (y : ℕ) → IsTurned r t
    → list_any (λ law. bit t (rows law) y) xs ≡ list_any (λ law. bit r y (rows law)) xs
any_turned r t rows xs y turned = any_same (λ law. bit t (rows law) y) (λ law. bit r y (rows law)) xs (λ i h. turned.same_pairs y (rows (get_or xs i 0)))

pub slot_own : (slots laws : List ℕ) (x y : ℕ) (o : Option ℕ) → IsOneToOne slots laws → IsSome o → slot_of slots x ≡ o → slot_of slots y ≡ o → x ≡ y
slot_own slots laws x y None pairs some at_x at_y = (cc (some))
slot_own slots laws x y (Some s) pairs some at_x at_y = sym (pairs.law_slot x s at_x).1 ∙ (pairs.law_slot y s at_y).1

pub slot_sized : (slots laws : List ℕ) (matrix : Bits) (law : ℕ) (o : Option ℕ) → IsOneToOne slots laws → IsSquare matrix (length laws)
    → o ≡ slot_of slots law → IfSome o (λ s. (s < matrix.rows) × (s < matrix.columns))
slot_sized slots laws matrix law None pairs size at = tt
slot_sized slots laws matrix law (Some s) pairs size at =
    let inside = (pairs.law_slot law s (sym at)).0 in
    (omega (arith, size.rows_are), omega (arith, size.columns_are))

-- a list of numbers that is its own inverse is no longer than they can say
pub inverse_short : (duals : List ℕ) (bound : ℕ) → IsOwnInverse duals → 0 < bound → ((i : ℕ) → get_or duals i 0 < bound) → length duals < bound
inverse_short duals bound inverse positive small =
    elim (cases_eq (length duals) 0) [
      | inl none ↦ omega (arith, none)
      | inr some ↦
          let last : IsLaw (length duals) (length duals) = record { from_one = omega (arith, some); to_last = omega arith } in
          let at = inverse.twice (length duals) last in
          let below = small (dual_number duals (length duals) - 1) in
          omega (arith, at, below)
    ]

-- no law has a slot yet
pub no_slots : (slots : List ℕ) (n : ℕ) → slots ≡ replicate n 0 → (law : ℕ) → slot_of slots law ≡ None
no_slots slots n is zero = refl
no_slots slots n is (suc place) =
    ap slot_from (ap (λ (ss : List ℕ). get_or ss place 0) is
    ∙ elim (cases_lt place n) [
      | inl below ↦ get_or-replicate n place 0 0 below
      | inr past ↦ get_or_past (replicate n 0) place 0 (omega (arith, length-replicate {A = ℕ} n 0))
    ])

-- a closure with no law kept
pub new_closure : (duals slots laws : List ℕ) (reached covered marks reaching : Bits) (has_covered : Bool) → IsOwnInverse duals → length slots ≡ length duals
    → length duals < 2 ^ 32 → laws ≡ [] → slots ≡ replicate (length duals) 0
    → reached.rows ≡ 0 → reached.columns ≡ 0 → ((r c : ℕ) → bit reached r c ≡ false)
    → covered.rows ≡ 0 → covered.columns ≡ 0 → ((r c : ℕ) → bit covered r c ≡ false)
    → marks.rows ≡ 4 → marks.columns ≡ 0
    → reaching.rows ≡ 0 → reaching.columns ≡ 0 → ((r c : ℕ) → bit reaching r c ≡ false) → IsClosure duals slots laws reached covered marks reaching has_covered
new_closure duals slots laws reached covered marks reaching has_covered inverse size many none zeros r_rows r_columns r_off c_rows c_columns c_off m_rows m_columns t_rows t_columns t_off =
    let empty : length laws ≡ 0 = ap length none in
    let free = no_slots slots (length duals) zeros in
    record {
      own_inverse = inverse;
      same_size = size;
      paired = record {
        slot_law = λ slot below. absurd (omega (arith, empty));
        law_slot = λ law slot at. (cc (free law, at));
      };
      few = omega (arith, empty);
      many = many;
      duals_kept = λ law kept. (cc (kept, ap is_some (free law)));
      reached_size = blank_square reached (length laws) (r_rows ∙ sym empty) (r_columns ∙ sym empty) r_off;
      covered_size = blank_square covered (length laws) (c_rows ∙ sym empty) (c_columns ∙ sym empty) c_off;
      marks_size = record { rows_are = m_rows; columns_are = m_columns ∙ sym empty };
      reaching_size = blank_square reaching (length laws) (t_rows ∙ sym empty) (t_columns ∙ sym empty) t_off;
      turned = record { same_pairs = λ r c. t_off c r ∙ sym (r_off r c) };
      closed = closed_blank (bit reached) (bit covered) r_off c_off;
      none_covered = λ no. c_off;
    }

pub new_stands : (duals slots : List ℕ) (reached covered : Bits) → slots ≡ replicate (length duals) 0
    → StandsFor (record { duals = duals; slots = slots; reached = reached; covered = covered }) []
unfolding is_reached is_covered
new_stands duals slots reached covered zeros =
    let free = no_slots slots (length duals) zeros in
    stands_empty (record { duals = duals; slots = slots; reached = reached; covered = covered })
    (λ x y. rw (free x) refl) (λ x y. rw (free x) refl)

pub reached_by : (duals slots : List ℕ) (reached covered : Bits) (e f : ℕ)
    → bit_by_slots reached (slot_of slots e) (slot_of slots f) (nat_eq e f)
    ≡ is_reached (record { duals = duals; slots = slots; reached = reached; covered = covered }) e f
unfolding is_reached
reached_by duals slots reached covered e f = refl

pub covered_by : (duals slots : List ℕ) (reached covered : Bits) (e f : ℕ)
    → bit_by_slots covered (slot_of slots e) (slot_of slots f) false
    ≡ is_covered (record { duals = duals; slots = slots; reached = reached; covered = covered }) e f
unfolding is_covered
covered_by duals slots reached covered e f = refl

-- ---- more laws kept

pub same_bits_answers : (duals slots : List ℕ) (r0 c0 r1 c1 : Bits) → ((r c : ℕ) → bit r1 r c ≡ bit r0 r c) → ((r c : ℕ) → bit c1 r c ≡ bit c0 r c)
    → SameAnswers (record { duals = duals; slots = slots; reached = r0; covered = c0 }) (record { duals = duals; slots = slots; reached = r1; covered = c1 })
unfolding is_reached is_covered
same_bits_answers duals slots r0 c0 r1 c1 reached covered = record {
  same_reached = λ e f. go r0 r1 reached (slot_of slots e) (slot_of slots f) (nat_eq e f);
  same_covered = λ e f. go c0 c1 covered (slot_of slots e) (slot_of slots f) false;
}
  where
    go : (m0 m1 : Bits) → ((r c : ℕ) → bit m1 r c ≡ bit m0 r c) → (x y : Option ℕ) (d : Bool) → bit_by_slots m1 x y d ≡ bit_by_slots m0 x y d
    go m0 m1 same (Some x) (Some y) d = same x y
    go m0 m1 same (Some x) None d = refl
    go m0 m1 same None y d = refl

-- a bit past the laws that were kept is off
past_row : (m : Bits) (n s t : ℕ) → IsSquare m n → n ≤ s → bit m s t ≡ false
past_row m n s t size past = false_from_ne_true (bit m s t) (λ on. omega (arith, (size.within s t on).0))

past_column : (m : Bits) (n s t : ℕ) → IsSquare m n → n ≤ t → bit m s t ≡ false
past_column m n s t size past = false_from_ne_true (bit m s t) (λ on. omega (arith, (size.within s t on).1))

-- a new slot is past the old ones
new_slot : (old laws new new_laws : List ℕ) (law slot : ℕ) → Extends old laws new new_laws → slot_of old law ≡ None → slot_of new law ≡ Some slot
    → length laws ≤ slot
new_slot old laws new new_laws law slot more none at =
    elim (cases_lt slot (length laws)) [
      | inl below ↦ (cc (more.was_there law slot at below, none))
      | inr past ↦ past
    ]

grown_reached : (slots laws new new_laws : List ℕ) (r0 r1 : Bits) → IsOneToOne slots laws → IsOneToOne new new_laws → Extends slots laws new new_laws
    → IsSquare r0 (length laws)
    → ((r c : ℕ) → bit r1 r c ≡ (bit r0 r c || (nat_eq r c && (nat_le (length laws) r && nat_lt r (length new_laws)))))
    → (x y : ℕ) → bit_by_slots r1 (slot_of new x) (slot_of new y) (nat_eq x y) ≡ bit_by_slots r0 (slot_of slots x) (slot_of slots y) (nat_eq x y)
grown_reached slots laws new new_laws r0 r1 pairs new_pairs more size bits x y = go (slot_of slots x) (slot_of slots y) (slot_of new x) (slot_of new y) refl refl refl refl
  where
    n : ℕ
    n = length laws

    go : (sx sy nx ny : Option ℕ) → slot_of slots x ≡ sx → slot_of slots y ≡ sy → slot_of new x ≡ nx → slot_of new y ≡ ny
        → bit_by_slots r1 nx ny (nat_eq x y) ≡ bit_by_slots r0 sx sy (nat_eq x y)
    go (Some s) (Some t) nx ny at_x at_y new_x new_y =
        let inside = (pairs.law_slot x s at_x).0 in
        rw (sym new_x ∙ more.stays x s at_x, sym new_y ∙ more.stays y t at_y)
        (bits s t ∙ rw (lt-leb (length laws) s inside, and_right (nat_eq s t) false refl) (or-false (bit r0 s t)))
    go (Some s) None nx None at_x at_y new_x new_y = rw (sym new_x ∙ more.stays x s at_x) refl
    go (Some s) None nx (Some t) at_x at_y new_x new_y =
        let inside = (pairs.law_slot x s at_x).0 in
        let past = new_slot slots laws new new_laws y t more at_y new_y in
        rw (sym new_x ∙ more.stays x s at_x)
        (bits s t ∙ rw (past_column r0 (length laws) s t size past, lt-leb (length laws) s inside, and_right (nat_eq s t) false refl) (sym (apart slots x y s at_x at_y)))
    go None sy None ny at_x at_y new_x new_y = refl
    go None (Some t) (Some s) ny at_x at_y new_x new_y =
        let inside = (pairs.law_slot y t at_y).0 in
        let past = new_slot slots laws new new_laws x s more at_x new_x in
        let differs : s ≢ t = omega arith in
        rw (sym new_y ∙ more.stays y t at_y)
        (bits s t ∙ rw (past_row r0 (length laws) s t size past, ne_eqb s t differs) (sym (apart_too slots x y t at_y at_x)))
    go None None (Some s) None at_x at_y new_x new_y = refl
    go None None (Some s) (Some t) at_x at_y new_x new_y =
        let past = new_slot slots laws new new_laws x s more at_x new_x in
        let inside = (new_pairs.law_slot x s new_x).0 in
        bits s t ∙ rw (past_row r0 (length laws) s t size past, le-leb (length laws) s past, lt-ltb s (length new_laws) inside)
        (and-true (nat_eq s t) ∙ same_slot new new_laws x y s t new_pairs new_x new_y)

grown_covered : (slots laws new new_laws : List ℕ) (c0 c1 : Bits) → Extends slots laws new new_laws → IsSquare c0 (length laws)
    → ((r c : ℕ) → bit c1 r c ≡ bit c0 r c)
    → (x y : ℕ) → bit_by_slots c1 (slot_of new x) (slot_of new y) false ≡ bit_by_slots c0 (slot_of slots x) (slot_of slots y) false
grown_covered slots laws new new_laws c0 c1 more size bits x y = go (slot_of slots x) (slot_of slots y) (slot_of new x) (slot_of new y) refl refl refl refl
  where
    go : (sx sy nx ny : Option ℕ) → slot_of slots x ≡ sx → slot_of slots y ≡ sy → slot_of new x ≡ nx → slot_of new y ≡ ny
        → bit_by_slots c1 nx ny false ≡ bit_by_slots c0 sx sy false
    go (Some s) (Some t) nx ny at_x at_y new_x new_y =
        rw (sym new_x ∙ more.stays x s at_x, sym new_y ∙ more.stays y t at_y) (bits s t)
    go (Some s) None None ny at_x at_y new_x new_y = refl
    go (Some s) None (Some u) None at_x at_y new_x new_y = refl
    go (Some s) None (Some u) (Some t) at_x at_y new_x new_y =
        bits u t ∙ past_column c0 (length laws) u t size (new_slot slots laws new new_laws y t more at_y new_y)
    go None sy None ny at_x at_y new_x new_y = refl
    go None sy (Some s) None at_x at_y new_x new_y = refl
    go None sy (Some s) (Some t) at_x at_y new_x new_y =
        bits s t ∙ past_row c0 (length laws) s t size (new_slot slots laws new new_laws x s more at_x new_x)

pub grown_answers : (duals slots laws new new_laws : List ℕ) (r0 c0 r1 c1 : Bits) → IsOneToOne slots laws → IsOneToOne new new_laws → Extends slots laws new new_laws
    → IsSquare r0 (length laws) → IsSquare c0 (length laws)
    → ((r c : ℕ) → bit r1 r c ≡ (bit r0 r c || (nat_eq r c && (nat_le (length laws) r && nat_lt r (length new_laws)))))
    → ((r c : ℕ) → bit c1 r c ≡ bit c0 r c)
    → SameAnswers (record { duals = duals; slots = slots; reached = r0; covered = c0 }) (record { duals = duals; slots = new; reached = r1; covered = c1 })
unfolding is_reached is_covered
grown_answers duals slots laws new new_laws r0 c0 r1 c1 pairs new_pairs more r_size c_size reached covered = record {
  same_reached = grown_reached slots laws new new_laws r0 r1 pairs new_pairs more r_size reached;
  same_covered = grown_covered slots laws new new_laws c0 c1 more c_size covered;
}

-- slots that were taken away again
pub slots_back : (old laws new new_laws back : List ℕ) (count : ℕ) → IsOneToOne old laws → Extends old laws new new_laws → count ≡ length laws
    → length back ≡ length new
    → ((law slot : ℕ) → (slot_of back law ≡ Some slot) ↔ ((slot_of new law ≡ Some slot) × (slot < count))) → back ≡ old
slots_back old laws new new_laws back count pairs more size whole same =
    same_slots back old (whole ∙ more.same_size)
    (λ law slot. (
      (λ at. let both = (same law slot).0 at in more.was_there law slot both.0 (omega (arith, both.1, size))),
      (λ at. (same law slot).1 (more.stays law slot at, omega (arith, size, (pairs.law_slot law slot at).0))),
    ))

-- the same bits on, and those of new laws with themselves
pub grown_square : (r0 r1 r2 : Bits) (before count : ℕ) → IsSquare r1 count → ((r c : ℕ) → bit r1 r c ≡ bit r0 r c) → SameSizes r1 r2
    → ((r c : ℕ) → bit r2 r c ≡ (bit r1 r c || (nat_eq r c && (nat_le before r && nat_lt r count)))) → IsSquare r2 count
grown_square r0 r1 r2 before count size same sizes bits = record {
  rows_are = sizes.rows_stay ∙ size.rows_are;
  columns_are = sizes.columns_stay ∙ size.columns_are;
  within = λ r c on.
      elim (or_cases (bit r1 r c) (nat_eq r c && (nat_le before r && nat_lt r count)) (sym (bits r c) ∙ on)) [
        | inl old ↦ size.within r c old
        | inr new ↦
            let parts = and_parts (nat_eq r c) (nat_le before r && nat_lt r count) new in
            let equal = eqb-true r c parts.0 in
            let below = ltb-true r count (and_parts (nat_le before r) (nat_lt r count) parts.1).1 in
            (below, omega (arith, equal, below))
      ];
}

pub extends_same : (old laws back back_laws : List ℕ) → back ≡ old → length back_laws ≡ length laws → Extends old laws back back_laws
extends_same old laws back back_laws same size = record {
  same_size = ap length same;
  more = omega (arith, size);
  stays = λ law slot at. ap (λ (ss : List ℕ). slot_of ss law) same ∙ at;
  was_there = λ law slot at below. ap (λ (ss : List ℕ). slot_of ss law) (sym same) ∙ at;
}

-- what a closure is after more laws were kept, or after all was given back
pub record Reserved (duals slots : List ℕ) (r0 c0 : Bits) (new new_laws : List ℕ) (r1 c1 marks t1 : Bits) (has_covered : Bool) : Type 0 where
  pub is : IsClosure duals new new_laws r1 c1 marks t1 has_covered
  pub keeps : KeepsSlots slots new
  pub answers : SameAnswers (record { duals = duals; slots = slots; reached = r0; covered = c0 }) (record { duals = duals; slots = new; reached = r1; covered = c1 })
  pub stands : (facts : List Fact) → StandsFor (record { duals = duals; slots = slots; reached = r0; covered = c0 }) facts
      → StandsFor (record { duals = duals; slots = new; reached = r1; covered = c1 }) facts

keeps_all : (old new : Known) → new.duals ≡ old.duals → KeepsSlots old.slots new.slots → SameAnswers old new
    → (facts : List Fact) → StandsFor old facts → StandsFor new facts
keeps_all old new duals keeps same facts stands =
    stands_same old new facts duals
    (λ law kept. let at = slot_kept old.slots law kept in kept_by_slot new.slots law at.0 (keeps law at.0 at.1))
    same.same_reached same.same_covered stands

pub reserve_ok : (duals slots laws : List ℕ) (r0 c0 marks0 t0 : Bits) (h : Bool) (first second new new_laws : List ℕ) (r1 c1 marks r2 t1 t2 : Bits) (before count : ℕ)
    → IsClosure duals slots laws r0 c0 marks0 t0 h → All (IsLaw (length duals)) first → All (IsLaw (length duals)) second
    → before ≡ length laws → count ≡ length new_laws → length new_laws < 2 ^ 32
    → IsOneToOne new new_laws → Extends slots laws new new_laws
    → ((law : ℕ) → IsKept new law ↔ IsReserved duals slots first second law)
    → IsSquare r1 count → IsSquare c1 count → IsMarks marks count
    → ((r c : ℕ) → bit r1 r c ≡ bit r0 r c) → ((r c : ℕ) → bit c1 r c ≡ bit c0 r c) → SameSizes r1 r2
    → ((r c : ℕ) → bit r2 r c ≡ (bit r1 r c || (nat_eq r c && (nat_le before r && nat_lt r count))))
    → IsSquare t1 count → ((r c : ℕ) → bit t1 r c ≡ bit t0 r c) → SameSizes t1 t2
    → ((r c : ℕ) → bit t2 r c ≡ (bit t1 r c || (nat_eq r c && (nat_le before r && nat_lt r count))))
    → Reserved duals slots r0 c0 new new_laws r2 c1 marks t2 h
reserve_ok duals slots laws r0 c0 marks0 t0 h first second new new_laws r1 c1 marks r2 t1 t2 before count is first_in second_in at_before at_count few pairs more kept r_size c_size m_size r_same c_same sizes bits t_size t_same t_sizes t_bits =
    let square = grown_square r0 r1 r2 before count r_size r_same sizes bits in
    let whole : (r c : ℕ) → bit r2 r c ≡ (bit r0 r c || (nat_eq r c && (nat_le (length laws) r && nat_lt r (length new_laws)))) = λ r c.
    bits r c ∙ rw (r_same r c, at_before, at_count) refl in
    let same = grown_answers duals slots laws new new_laws r0 c0 r2 c1 is.paired pairs more is.reached_size is.covered_size whole c_same in
    record {
      is = record {
        own_inverse = is.own_inverse;
        same_size = more.same_size ∙ is.same_size;
        paired = pairs;
        few = few;
        many = is.many;
        duals_kept = reserved_duals duals first second slots new is.own_inverse first_in second_in is.duals_kept kept;
        reached_size = subst (IsSquare r2) at_count square;
        covered_size = subst (IsSquare c1) at_count c_size;
        marks_size = subst (IsMarks marks) at_count m_size;
        reaching_size = subst (IsSquare t2) at_count (grown_square t0 t1 t2 before count t_size t_same t_sizes t_bits);
        turned = turned_itself r1 t1 r2 t2 before count (λ r c. t_same c r ∙ is.turned.same_pairs r c ∙ sym (r_same r c)) bits t_bits;
        closed = closed_grown (bit r0) (bit c0) (bit r2) (bit c1) is.closed
            (λ x y on. itself_keeps r1 r2 before count x y bits (r_same x y ∙ on))
            (λ x y on. elim (itself_only r1 r2 before count x y bits on) [ inl old ↦ inl (sym (r_same x y) ∙ old) | inr equal ↦ inr equal ])
            c_same;
        none_covered = λ no r c. c_same r c ∙ is.none_covered no r c;
      };
      keeps = more.stays;
      answers = same;
      stands = keeps_all (record { duals = duals; slots = slots; reached = r0; covered = c0 }) (record { duals = duals; slots = new; reached = r2; covered = c1 }) refl more.stays same;
    }

pub reserve_err : (duals slots laws : List ℕ) (r0 c0 marks0 t0 : Bits) (h : Bool) (back back_laws : List ℕ) (r1 c1 marks t1 : Bits) (before : ℕ)
    → IsClosure duals slots laws r0 c0 marks0 t0 h → before ≡ length laws
    → back ≡ slots → IsOneToOne back back_laws → length back_laws ≡ before
    → IsSquare r1 before → IsSquare c1 before → IsMarks marks before
    → ((r c : ℕ) → bit r1 r c ≡ bit r0 r c) → ((r c : ℕ) → bit c1 r c ≡ bit c0 r c)
    → IsSquare t1 before → ((r c : ℕ) → bit t1 r c ≡ bit t0 r c)
    → Reserved duals slots r0 c0 back back_laws r1 c1 marks t1 h
reserve_err duals slots laws r0 c0 marks0 t0 h back back_laws r1 c1 marks t1 before is at_before same pairs size r_size c_size m_size r_same c_same t_size t_same =
    let keeps : KeepsSlots slots back = λ law slot at. ap (λ (ss : List ℕ). slot_of ss law) same ∙ at in
    let answers = subst (λ (ss : List ℕ). SameAnswers (record { duals = duals; slots = slots; reached = r0; covered = c0 }) (record { duals = duals; slots = ss; reached = r1; covered = c1 })) (sym same)
    (same_bits_answers duals slots r0 c0 r1 c1 r_same c_same) in
    record {
      is = record {
        own_inverse = is.own_inverse;
        same_size = ap length same ∙ is.same_size;
        paired = pairs;
        few = omega (arith, is.few, at_before, size);
        many = is.many;
        duals_kept = subst (λ (ss : List ℕ). (law : ℕ) → IsKept ss law → IsKept ss (dual_number duals law)) (sym same) is.duals_kept;
        reached_size = subst (IsSquare r1) (sym size) r_size;
        covered_size = subst (IsSquare c1) (sym size) c_size;
        marks_size = subst (IsMarks marks) (sym size) m_size;
        reaching_size = subst (IsSquare t1) (sym size) t_size;
        turned = record { same_pairs = λ r c. t_same c r ∙ is.turned.same_pairs r c ∙ sym (r_same r c) };
        closed = closed_grown (bit r0) (bit c0) (bit r1) (bit c1) is.closed (λ x y on. r_same x y ∙ on) (λ x y on. inl (sym (r_same x y) ∙ on)) c_same;
        none_covered = λ no r c. c_same r c ∙ is.none_covered no r c;
      };
      keeps = keeps;
      answers = answers;
      stands = keeps_all (record { duals = duals; slots = slots; reached = r0; covered = c0 }) (record { duals = duals; slots = back; reached = r1; covered = c1 }) refl keeps answers;
    }
