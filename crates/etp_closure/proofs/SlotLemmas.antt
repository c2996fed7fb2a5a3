-- Lemmas of the slots of kept laws.
use Rattle.std.proofs.Common.{◌≡◌, ◌≢◌, ℕ, zero, suc, ◌<◌, ◌≤◌, ◌+◌, ◌-◌, ◌↔◌, List, [], ◌∷◌, ◌++◌, length, get_or, set, take, Option, Some, None, IsSome, Contains, All, refl, sym, ap, ◌∙◌, subst, ◌⊎◌, inl, inr, arith, get_or-set_same, get_or-set_other, add-one}
use Rattle.std.proofs.lemmas.Bool.{cases_lt, cases_eq}
use Rattle.std.proofs.lemmas.List.{get_or_append_left, get_or_push, length_push, get_or_past, ext_get_or, length-set, length-take-le, get_or-take, get_or_default}
use Rattle.std.proofs.lemmas.Option.{same_Some}
use Rattle.etp_theory.specs.LawNumbers.{IsLaw, IsOwnInverse, dual_number}
use Rattle.etp_closure.specs.Closures.{slot_of, slot_from, IsKept, IsReserved, kept_before, in_first, in_second, dual_in_first, dual_in_second}
use Rattle.etp_closure.specs.Tables.{IsOneToOne, Extends, IsNamed, listed, dual_listed}

-- a law's slot after one code was written
pub slot_of-set_same : (slots : List ℕ) (law code : ℕ) → IsLaw (length slots) law → slot_of (set slots (law - 1) code) law ≡ slot_from code
slot_of-set_same slots zero code is = absurd (omega (arith, is.from_one))
slot_of-set_same slots (suc place) code is =
    let at : suc place - 1 ≡ place = omega arith in
    rw at (ap slot_from (get_or-set_same slots place code 0 (omega (arith, is.to_last))))

pub slot_of-set_other : (slots : List ℕ) (law code other : ℕ) → IsLaw (length slots) law → other ≢ law
    → slot_of (set slots (law - 1) code) other ≡ slot_of slots other
slot_of-set_other slots law code zero is differs = refl
slot_of-set_other slots law code (suc place) is differs =
    ap slot_from (get_or-set_other slots (law - 1) place code 0 (λ e. differs (omega (arith, e, is.from_one))))

-- a law with a slot is in the list
pub slot_in : (slots : List ℕ) (law slot : ℕ) → slot_of slots law ≡ Some slot → IsLaw (length slots) law
slot_in slots zero slot is = (cc (is))
slot_in slots (suc place) slot is =
    elim (cases_lt place (length slots)) [
      | inl below ↦ record { from_one = omega arith; to_last = omega arith }
      | inr past ↦ (cc (is, ap slot_from (get_or_past slots place 0 past)))
    ]

-- one law more has the next slot
pub one_to_one-push : (slots laws : List ℕ) (law : ℕ) → IsOneToOne slots laws → IsLaw (length slots) law → slot_of slots law ≡ None
    → IsOneToOne (set slots (law - 1) (length laws + 1)) (laws ++ law ∷ [])
one_to_one-push slots laws law pairs is free = record {
  slot_law = λ slot below.
      elim (cases_lt slot (length laws)) [
        | inl before ↦
            let old = pairs.slot_law slot before in
            let same = get_or_append_left laws (law ∷ []) 0 slot before in
            let differs : get_or laws slot 0 ≢ law = λ e. (cc (old, free, e)) in
            rw same (slot_of-set_other slots law (length laws + 1) (get_or laws slot 0) is differs ∙ old)
        | inr past ↦
            let last : slot ≡ length laws = omega (arith, length_push laws law) in
            rw (get_or_push laws law 0 slot (sym last))
            (slot_of-set_same slots law (length laws + 1) is ∙ rw (add-one, last) refl)
      ];
  law_slot = λ other slot at.
      elim (cases_eq other law) [
        | inl same ↦
            let mine = sym (slot_of-set_same slots law (length laws + 1) is) ∙ ap (slot_of (set slots (law - 1) (length laws + 1))) (sym same) ∙ at in
            let last : slot ≡ length laws = same_Some _ _ (sym mine ∙ rw add-one refl) in
            ((let whole = length_push laws law in omega (arith, whole)), get_or_push laws law 0 slot (sym last) ∙ sym same)
        | inr differs ↦
            let old = pairs.law_slot other slot (sym (slot_of-set_other slots law (length laws + 1) other is differs) ∙ at) in
            ((let whole = length_push laws law in omega (arith, whole, old.0)), get_or_append_left laws (law ∷ []) 0 slot old.0 ∙ old.1)
      ];
}

-- the laws' slots decide the list
pub same_slots : (xs ys : List ℕ) → length xs ≡ length ys → ((law slot : ℕ) → (slot_of xs law ≡ Some slot) ↔ (slot_of ys law ≡ Some slot)) → xs ≡ ys
same_slots xs ys size same = ext_get_or 0 xs ys size (λ i below. go (get_or xs i 0) (get_or ys i 0) (λ slot. same (suc i) slot))
  where
    go : (x y : ℕ) → ((slot : ℕ) → (slot_from x ≡ Some slot) ↔ (slot_from y ≡ Some slot)) → x ≡ y
    go zero zero h = refl
    go zero (suc y) h = (cc ((h y).1 refl))
    go (suc x) zero h = (cc ((h x).0 refl))
    go (suc x) (suc y) h = ap suc (same_Some _ _ (sym ((h x).0 refl)))

-- the laws with places from `count` up to `place` lost their slots
pub record Forgets (slots now : List ℕ) (count place : ℕ) : Type 0 where
  pub size : length now ≡ length slots
  pub stays : (law slot : ℕ) → slot_of slots law ≡ Some slot → (slot < count) ⊎ (place ≤ slot) → slot_of now law ≡ Some slot
  pub was_there : (law slot : ℕ) → slot_of now law ≡ Some slot → slot_of slots law ≡ Some slot
  pub left : (law slot : ℕ) → slot_of now law ≡ Some slot → (slot < count) ⊎ (place ≤ slot)

pub forgets_none : (slots : List ℕ) (count : ℕ) → Forgets slots slots count count
forgets_none slots count = record {
  size = refl;
  stays = λ law slot is side. is;
  was_there = λ law slot is. is;
  left = λ law slot is. elim (cases_lt slot count) [ inl below ↦ inl below | inr past ↦ inr past ];
}

pub forgets_one : (slots now laws : List ℕ) (count place : ℕ) → IsOneToOne slots laws → Forgets slots now count place
    → count ≤ place → place < length laws → Forgets slots (set now (get_or laws place 0 - 1) 0) count (place + 1)
forgets_one slots now laws count place pairs before past inside =
    let law = get_or laws place 0 in
    let mine = pairs.slot_law place inside in
    let was = slot_in slots law place mine in
    let is : IsLaw (length now) law = subst (λ n. IsLaw n law) (sym before.size) was in
    let new = set now (law - 1) 0 in
    record {
      size = length-set now (law - 1) 0 ∙ before.size;
      stays = λ other slot at side.
          elim (cases_eq other law) [
            | inl same ↦
                let spot : slot ≡ place = same_Some _ _ (sym at ∙ ap (slot_of slots) same ∙ mine) in
                absurd (elim side [ inl below ↦ omega (arith, below, spot) | inr beyond ↦ omega (arith, beyond, spot) ])
            | inr differs ↦
                slot_of-set_other now law 0 other is differs
                ∙ before.stays other slot at (elim side [ inl below ↦ inl below | inr beyond ↦ inr (omega (arith, beyond)) ])
          ];
      was_there = λ other slot at.
          elim (cases_eq other law) [
            | inl same ↦ (cc (slot_of-set_same now law 0 is, at, same))
            | inr differs ↦ before.was_there other slot (sym (slot_of-set_other now law 0 other is differs) ∙ at)
          ];
      left = λ other slot at.
          elim (cases_eq other law) [
            | inl same ↦ (cc (slot_of-set_same now law 0 is, at, same))
            | inr differs ↦
                let old = sym (slot_of-set_other now law 0 other is differs) ∙ at in
                elim (before.left other slot old) [
                  | inl below ↦ inl below
                  | inr beyond ↦
                      let spot = pairs.law_slot other slot (before.was_there other slot old) in
                      let apart : slot ≢ place = λ e. differs (sym spot.1 ∙ ap (λ n. get_or laws n 0) e) in
                      inr (omega (arith, beyond, apart))
                ]
          ];
    }

-- all laws from `count` on lost their slots
pub forgotten : (slots now laws : List ℕ) (count : ℕ) → IsOneToOne slots laws → Forgets slots now count (length laws) → count ≤ length laws
    → (law slot : ℕ) → (slot_of now law ≡ Some slot) ↔ ((slot_of slots law ≡ Some slot) × (slot < count))
forgotten slots now laws count pairs after fits law slot = (
  (λ at.
      let old = after.was_there law slot at in (
        old,
        elim (after.left law slot at) [
          | inl below ↦ below
          | inr beyond ↦ absurd (omega (arith, beyond, (pairs.law_slot law slot old).0))
        ],
      )),
  (λ h. after.stays law slot h.0 (inl h.1)),
)

pub one_to_one-take : (slots now laws : List ℕ) (count : ℕ) → IsOneToOne slots laws → Forgets slots now count (length laws) → count ≤ length laws
    → IsOneToOne now (take count laws)
one_to_one-take slots now laws count pairs after fits =
    let size = length-take-le count laws fits in
    record {
      slot_law = λ slot below.
          let inside : slot < count = omega (arith, size) in
          rw (get_or-take count laws slot 0 inside) (after.stays (get_or laws slot 0) slot (pairs.slot_law slot (omega arith)) (inl inside));
      law_slot = λ law slot at.
          let both = (forgotten slots now laws count pairs after fits law slot).0 at in
          (omega (arith, size, both.1), get_or-take count laws slot 0 both.1 ∙ (pairs.law_slot law slot both.0).1);
    }

pub some_of : {X : Type 0} (o : Option X) → IsSome o → (x : X) × (o ≡ Some x)
some_of None is = (cc (is))
some_of (Some x) is = (x, refl)

pub slot_kept : (slots : List ℕ) (law : ℕ) → IsKept slots law → (slot : ℕ) × (slot_of slots law ≡ Some slot)
slot_kept slots law kept = some_of (slot_of slots law) kept

pub kept_by_slot : (slots : List ℕ) (law slot : ℕ) → slot_of slots law ≡ Some slot → IsKept slots law
kept_by_slot slots law slot at = subst (λ (o : Option ℕ). IsSome o) (sym at) refl

pub kept_on : {old old_laws new new_laws : List ℕ} → Extends old old_laws new new_laws → (law : ℕ) → IsKept old law → IsKept new law
kept_on {old} {old_laws} {new} {new_laws} more law kept =
    let at = slot_kept old law kept in
    kept_by_slot new law at.0 (more.stays law at.0 at.1)

pub extends_then : {a la b lb c lc : List ℕ} → Extends a la b lb → Extends b lb c lc → Extends a la c lc
extends_then first second = record {
  same_size = second.same_size ∙ first.same_size;
  more = omega (arith, first.more, second.more);
  stays = λ law slot at. second.stays law slot (first.stays law slot at);
  was_there = λ law slot at below. first.was_there law slot (second.was_there law slot at (omega (arith, first.more))) below;
}

-- an item of a list is in it
pub item_among : (xs : List ℕ) (i : ℕ) → i < length xs → Contains xs (get_or xs i 0)
item_among xs i inside = (i, inside, get_or_default xs i (get_or xs i 0) 0 inside)

kept_among : (slots list : List ℕ) (of : ℕ → ℕ) → ((k d : ℕ) → k < length list → IsKept slots (of (get_or list k d)))
    → (law : ℕ) → Contains list law → IsKept slots (of law)
kept_among slots list of kept law among = subst (λ n. IsKept slots (of n)) among.2 (kept among.0 law among.1)

-- which laws are kept after two lists were
pub reserved : (duals first second old old_laws mid mid_laws new new_laws : List ℕ)
    → Extends old old_laws mid mid_laws → Extends mid mid_laws new new_laws
    → All (λ law. IsKept mid law × IsKept mid (dual_number duals law)) first
    → All (λ law. IsKept new law × IsKept new (dual_number duals law)) second
    → ((other : ℕ) → IsKept mid other → IsKept old other ⊎ IsNamed duals first other)
    → ((other : ℕ) → IsKept new other → IsKept mid other ⊎ IsNamed duals second other)
    → (law : ℕ) → IsKept new law ↔ IsReserved duals old first second law
reserved duals first second old old_laws mid mid_laws new new_laws one two kept_first kept_second only_first only_second law =
    (forward, backward)
  where
    in_first_too : IsKept old law ⊎ IsNamed duals first law → IsReserved duals old first second law
    in_first_too (inl kept) = kept_before kept
    in_first_too (inr (listed among)) = in_first among
    in_first_too (inr (dual_listed other among is)) = dual_in_first other among is

    in_second_too : IsKept mid law ⊎ IsNamed duals second law → IsReserved duals old first second law
    in_second_too (inl kept) = in_first_too (only_first law kept)
    in_second_too (inr (listed among)) = in_second among
    in_second_too (inr (dual_listed other among is)) = dual_in_second other among is

    forward : IsKept new law → IsReserved duals old first second law
    forward kept = in_second_too (only_second law kept)

    backward : IsReserved duals old first second law → IsKept new law
    backward (kept_before kept) = kept_on two law (kept_on one law kept)
    backward (in_first among) = kept_on two law (kept_among mid first (λ n. n) (λ k d h. (kept_first k d h).0) law among)
    backward (in_second among) = kept_among new second (λ n. n) (λ k d h. (kept_second k d h).0) law among
    backward (dual_in_first other among is) =
        kept_on two law (subst (IsKept mid) (sym is) (kept_among mid first (dual_number duals) (λ k d h. (kept_first k d h).1) other among))
    backward (dual_in_second other among is) =
        subst (IsKept new) (sym is) (kept_among new second (dual_number duals) (λ k d h. (kept_second k d h).1) other among)

-- the kept laws have their duals among them
pub reserved_duals : (duals first second old new : List ℕ) → IsOwnInverse duals → All (IsLaw (length duals)) first → All (IsLaw (length duals)) second
    → ((law : ℕ) → IsKept old law → IsKept old (dual_number duals law))
    → ((law : ℕ) → IsKept new law ↔ IsReserved duals old first second law)
    → (law : ℕ) → IsKept new law → IsKept new (dual_number duals law)
reserved_duals duals first second old new inverse first_in second_in old_duals kept law is = (kept (dual_number duals law)).1 (go ((kept law).0 is))
  where
    within : (list : List ℕ) → All (IsLaw (length duals)) list → (other : ℕ) → Contains list other → IsLaw (length duals) other
    within list all other among = subst (IsLaw (length duals)) among.2 (all among.0 other among.1)

    back : (list : List ℕ) → All (IsLaw (length duals)) list → (other : ℕ) → Contains list other → law ≡ dual_number duals other → Contains list (dual_number duals law)
    back list all other among at =
        subst (Contains list) (sym (ap (dual_number duals) at ∙ inverse.twice other (within list all other among))) among

    go : IsReserved duals old first second law → IsReserved duals old first second (dual_number duals law)
    go (kept_before h) = kept_before (old_duals law h)
    go (in_first among) = dual_in_first law among refl
    go (in_second among) = dual_in_second law among refl
    go (dual_in_first other among at) = in_first (back first first_in other among at)
    go (dual_in_second other among at) = in_second (back second second_in other among at)
