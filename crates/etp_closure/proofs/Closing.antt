-- Reached and covered pairs stay closed, and marked rows are enough to keep them so.
use Rattle.std.proofs.Common.{◌≡◌, ℕ, ◌<◌, Bool, true, false, not, ◌&&◌, ◌||◌, nat_eq, nat_lt, nat_le, refl, sym, ap, ◌∙◌, ◌⊎◌, inl, inr, arith}
use Rattle.std.proofs.lemmas.Bool.{cases_eq, eqb-true, ne_eqb, or_cases, and_parts, and_from, or_left, or_right, lt-ltb, le-ltb, cases_lt, false_from_ne_true}
use Rattle.etp_bits.specs.Bits.{Bits, bit, SameSizes}
use Rattle.etp_closure.specs.Tables.{IsSquare, IsTurned, IsClosed, moved_along, covered_along}
use Rattle.etp_closure.proofs.Relations.{Joined, as_before, by_edge}

-- ---- marks leave out what is there already

drop_left : (p u v w : Bool) → (v ≡ true → w ≡ true → p ≡ true) → (p || ((u && not v) && w)) ≡ (p || (u && w))
drop_left true u v w there = refl
drop_left false false v w there = refl
drop_left false true false w there = refl
drop_left false true true false there = refl
drop_left false true true true there = there refl refl

drop_right : (p s u v : Bool) → (s ≡ true → v ≡ true → p ≡ true) → (p || (s && (u && not v))) ≡ (p || (s && u))
drop_right true s u v there = refl
drop_right false false u v there = refl
drop_right false true false v there = refl
drop_right false true true false there = refl
drop_right false true true true there = there refl refl

-- the reached pairs after marked rows were joined
pub reach_linked : (r new : ℕ → ℕ → Bool) (a b : ℕ) (starts ends : ℕ → Bool)
    → ((x y z : ℕ) → r x y ≡ true → r y z ≡ true → r x z ≡ true)
    → ((x : ℕ) → starts x ≡ (r x a && not (r x b))) → ((y : ℕ) → ends y ≡ (r b y && not (r a y)))
    → ((x y : ℕ) → new x y ≡ (r x y || (starts x && ends y))) → (x y : ℕ) → new x y ≡ (r x y || (r x a && r b y))
reach_linked r new a b starts ends onward starts_are ends_are joined x y =
    joined x y
    ∙ ap (λ s. r x y || (s && ends y)) (starts_are x)
    ∙ ap (λ e. r x y || ((r x a && not (r x b)) && e)) (ends_are y)
    ∙ drop_left (r x y) (r x a) (r x b) (r b y && not (r a y)) (λ h k. onward x b y h (and_parts (r b y) (not (r a y)) k).0)
    ∙ drop_right (r x y) (r x a) (r b y) (r a y) (λ h k. onward x a y h k)

-- the covered pairs after marked rows were joined
pub covered_linked : (r c new : ℕ → ℕ → Bool) (a b : ℕ) (starts ends : ℕ → Bool) → IsClosed r c
    → ((x : ℕ) → starts x ≡ (r x a && not (r x b))) → ((y : ℕ) → ends y ≡ (r b y && not (r a y)))
    → ((x y : ℕ) → new x y ≡ moved_along starts ends c a b x y) → (x y : ℕ) → new x y ≡ covered_along r c a b x y
covered_linked r c new a b starts ends closed starts_are ends_are moved x y =
    moved x y
    ∙ ap (λ m. m || ((c x b || (ends x && c a b)) && starts y)) (half y)
    ∙ ap (λ m. (c x y || (r b x && c a y)) || (m && starts y)) (half b)
    ∙ ap (λ s. (c x y || (r b x && c a y)) || ((c x b || (r b x && c a b)) && s)) (starts_are y)
    ∙ drop_right (c x y || (r b x && c a y)) (c x b || (r b x && c a b)) (r y a) (r y b) back
  where
    half : (z : ℕ) → (c x z || (ends x && c a z)) ≡ (c x z || (r b x && c a z))
    half z =
        ap (λ e. c x z || (e && c a z)) (ends_are x)
        ∙ drop_left (c x z) (r b x) (r a x) (c a z) (λ h k. closed.moves_on a z x k h)

    back : (c x b || (r b x && c a b)) ≡ true → r y b ≡ true → (c x y || (r b x && c a y)) ≡ true
    back h k =
        elim (or_cases (c x b) (r b x && c a b) h) [
          | inl old ↦ or_left (c x y) _ (closed.moves_back x b y old k)
          | inr new ↦
              let parts = and_parts (r b x) (c a b) new in
              or_right (c x y) _ (and_from (r b x) (c a y) parts.0 (closed.moves_back a b y parts.1 k))
        ]

-- ---- after an edge more

-- a covered pair after an edge from a to b
data Moved (r c : ℕ → ℕ → Bool) (a b x y : ℕ) : Type 0 where
  stays : c x y ≡ true → Moved r c a b x y
  goes_on : r b x ≡ true → c a y ≡ true → Moved r c a b x y
  goes_back : c x b ≡ true → r y a ≡ true → Moved r c a b x y
  goes_both : r b x ≡ true → c a b ≡ true → r y a ≡ true → Moved r c a b x y

from_moved : (r c : ℕ → ℕ → Bool) (a b x y : ℕ) → Moved r c a b x y → covered_along r c a b x y ≡ true
from_moved r c a b x y (stays h) = or_left (c x y || (r b x && c a y)) _ (or_left (c x y) _ h)
from_moved r c a b x y (goes_on h k) = or_left (c x y || (r b x && c a y)) _ (or_right (c x y) _ (and_from (r b x) (c a y) h k))
from_moved r c a b x y (goes_back h k) =
    or_right (c x y || (r b x && c a y)) _ (and_from (c x b || (r b x && c a b)) (r y a) (or_left (c x b) _ h) k)
from_moved r c a b x y (goes_both h k l) =
    or_right (c x y || (r b x && c a y)) _ (and_from (c x b || (r b x && c a b)) (r y a) (or_right (c x b) _ (and_from (r b x) (c a b) h k)) l)

to_moved : (r c : ℕ → ℕ → Bool) (a b x y : ℕ) → covered_along r c a b x y ≡ true → Moved r c a b x y
to_moved r c a b x y h =
    elim (or_cases (c x y || (r b x && c a y)) ((c x b || (r b x && c a b)) && r y a) h) [
      | inl first ↦
          elim (or_cases (c x y) (r b x && c a y) first) [
            | inl old ↦ stays old
            | inr new ↦ let parts = and_parts (r b x) (c a y) new in goes_on parts.0 parts.1
          ]
      | inr second ↦
          let parts = and_parts (c x b || (r b x && c a b)) (r y a) second in
          elim (or_cases (c x b) (r b x && c a b) parts.0) [
            | inl old ↦ goes_back old parts.1
            | inr new ↦ let both = and_parts (r b x) (c a b) new in goes_both both.0 both.1 parts.1
          ]
    ]

to_joined : (r : ℕ → ℕ → Bool) (a b x y : ℕ) → (r x y || (r x a && r b y)) ≡ true → Joined (λ u v. r u v ≡ true) a b x y
to_joined r a b x y h =
    elim (or_cases (r x y) (r x a && r b y) h) [
      | inl old ↦ as_before old
      | inr new ↦ let parts = and_parts (r x a) (r b y) new in by_edge parts.0 parts.1
    ]

from_joined : (r : ℕ → ℕ → Bool) (a b x y : ℕ) → Joined (λ u v. r u v ≡ true) a b x y → (r x y || (r x a && r b y)) ≡ true
from_joined r a b x y (as_before h) = or_left (r x y) _ h
from_joined r a b x y (by_edge h k) = or_right (r x y) _ (and_from (r x a) (r b y) h k)

pub closed_linked : (r c new_r new_c : ℕ → ℕ → Bool) (a b : ℕ) → IsClosed r c
    → ((x y : ℕ) → new_r x y ≡ (r x y || (r x a && r b y))) → ((x y : ℕ) → new_c x y ≡ covered_along r c a b x y)
    → IsClosed new_r new_c
closed_linked r c new_r new_c a b closed reached covered = record {
  onward = λ x y z h k. reached x z ∙ from_joined r a b x z (go x y z (to_joined r a b x y (sym (reached x y) ∙ h)) (to_joined r a b y z (sym (reached y z) ∙ k)));
  moves_on = λ x y z h k. covered z y ∙ from_moved r c a b z y (on x y z (to_moved r c a b x y (sym (covered x y) ∙ h)) (to_joined r a b x z (sym (reached x z) ∙ k)));
  moves_back = λ x y z h k. covered x z ∙ from_moved r c a b x z (back x y z (to_moved r c a b x y (sym (covered x y) ∙ h)) (to_joined r a b z y (sym (reached z y) ∙ k)));
}
  where
    go : (x y z : ℕ) → Joined (λ u v. r u v ≡ true) a b x y → Joined (λ u v. r u v ≡ true) a b y z → Joined (λ u v. r u v ≡ true) a b x z
    go x y z (as_before p) (as_before q) = as_before (closed.onward x y z p q)
    go x y z (as_before p) (by_edge q s) = by_edge (closed.onward x y a p q) s
    go x y z (by_edge p s) (as_before q) = by_edge p (closed.onward b y z s q)
    go x y z (by_edge p s) (by_edge q t) = by_edge p t

    on : (x y z : ℕ) → Moved r c a b x y → Joined (λ u v. r u v ≡ true) a b x z → Moved r c a b z y
    on x y z (stays h) (as_before p) = stays (closed.moves_on x y z h p)
    on x y z (stays h) (by_edge p q) = goes_on q (closed.moves_on x y a h p)
    on x y z (goes_on h k) (as_before p) = goes_on (closed.onward b x z h p) k
    on x y z (goes_on h k) (by_edge p q) = goes_on q k
    on x y z (goes_back h k) (as_before p) = goes_back (closed.moves_on x b z h p) k
    on x y z (goes_back h k) (by_edge p q) = goes_both q (closed.moves_on x b a h p) k
    on x y z (goes_both h k l) (as_before p) = goes_both (closed.onward b x z h p) k l
    on x y z (goes_both h k l) (by_edge p q) = goes_both q k l

    back : (x y z : ℕ) → Moved r c a b x y → Joined (λ u v. r u v ≡ true) a b z y → Moved r c a b x z
    back x y z (stays h) (as_before p) = stays (closed.moves_back x y z h p)
    back x y z (stays h) (by_edge p q) = goes_back (closed.moves_back x y b h q) p
    back x y z (goes_on h k) (as_before p) = goes_on h (closed.moves_back a y z k p)
    back x y z (goes_on h k) (by_edge p q) = goes_both h (closed.moves_back a y b k q) p
    back x y z (goes_back h k) (as_before p) = goes_back h (closed.onward z y a p k)
    back x y z (goes_back h k) (by_edge p q) = goes_back h p
    back x y z (goes_both h k l) (as_before p) = goes_both h k (closed.onward z y a p l)
    back x y z (goes_both h k l) (by_edge p q) = goes_both h k p

-- ---- after pairs were covered

pub closed_paired : (r c new : ℕ → ℕ → Bool) (from back : ℕ → Bool) → IsClosed r c
    → ((x z : ℕ) → from x ≡ true → r x z ≡ true → from z ≡ true) → ((y z : ℕ) → back y ≡ true → r z y ≡ true → back z ≡ true)
    → ((x y : ℕ) → new x y ≡ (c x y || (from x && back y))) → IsClosed r new
closed_paired r c new from back closed on_from on_back paired = record {
  onward = closed.onward;
  moves_on = λ x y z h k.
      paired z y
      ∙ elim (or_cases (c x y) (from x && back y) (sym (paired x y) ∙ h)) [
        | inl old ↦ or_left (c z y) _ (closed.moves_on x y z old k)
        | inr pair ↦
            let parts = and_parts (from x) (back y) pair in
            or_right (c z y) _ (and_from (from z) (back y) (on_from x z parts.0 k) parts.1)
      ];
  moves_back = λ x y z h k.
      paired x z
      ∙ elim (or_cases (c x y) (from x && back y) (sym (paired x y) ∙ h)) [
        | inl old ↦ or_left (c x z) _ (closed.moves_back x y z old k)
        | inr pair ↦
            let parts = and_parts (from x) (back y) pair in
            or_right (c x z) _ (and_from (from x) (back z) parts.0 (on_back y z parts.1 k))
      ];
}

-- ---- with new laws, or with no fact

-- some laws more reach themselves
pub closed_grown : (r c new_r new_c : ℕ → ℕ → Bool) → IsClosed r c
    → ((x y : ℕ) → r x y ≡ true → new_r x y ≡ true) → ((x y : ℕ) → new_r x y ≡ true → (r x y ≡ true) ⊎ (x ≡ y))
    → ((x y : ℕ) → new_c x y ≡ c x y) → IsClosed new_r new_c
closed_grown r c new_r new_c closed keeps only same = record {
  onward = λ x y z h k.
      elim (only x y h) [
        | inr equal ↦ ap (λ n. new_r n z) equal ∙ k
        | inl old ↦
            elim (only y z k) [
              | inr equal ↦ ap (λ n. new_r x n) (sym equal) ∙ h
              | inl older ↦ keeps x z (closed.onward x y z old older)
            ]
      ];
  moves_on = λ x y z h k.
      same z y
      ∙ elim (only x z k) [
        | inr equal ↦ ap (λ n. c n y) (sym equal) ∙ sym (same x y) ∙ h
        | inl old ↦ closed.moves_on x y z (sym (same x y) ∙ h) old
      ];
  moves_back = λ x y z h k.
      same x z
      ∙ elim (only z y k) [
        | inr equal ↦ ap (λ n. c x n) equal ∙ sym (same x y) ∙ h
        | inl old ↦ closed.moves_back x y z (sym (same x y) ∙ h) old
      ];
}

-- nothing is covered or reached
pub closed_blank : (r c : ℕ → ℕ → Bool) → ((x y : ℕ) → r x y ≡ false) → ((x y : ℕ) → c x y ≡ false) → IsClosed r c
closed_blank r c no_reach none = record {
  onward = λ x y z h k. (cc (no_reach x y, h));
  moves_on = λ x y z h k. (cc (none x y, h));
  moves_back = λ x y z h k. (cc (none x y, h));
}

-- the reached pairs after some laws more reach themselves
pub itself_keeps : (r0 r1 : Bits) (first count x y : ℕ)
    → ((r c : ℕ) → bit r1 r c ≡ (bit r0 r c || (nat_eq r c && (nat_le first r && nat_lt r count)))) → bit r0 x y ≡ true → bit r1 x y ≡ true
itself_keeps r0 r1 first count x y bits on = bits x y ∙ or_left (bit r0 x y) _ on

pub itself_only : (r0 r1 : Bits) (first count x y : ℕ)
    → ((r c : ℕ) → bit r1 r c ≡ (bit r0 r c || (nat_eq r c && (nat_le first r && nat_lt r count))))
    → bit r1 x y ≡ true → (bit r0 x y ≡ true) ⊎ (x ≡ y)
itself_only r0 r1 first count x y bits on =
    elim (or_cases (bit r0 x y) (nat_eq x y && (nat_le first x && nat_lt x count)) (sym (bits x y) ∙ on)) [
      | inl old ↦ inl old
      | inr new ↦ inr (eqb-true x y (and_parts (nat_eq x y) (nat_le first x && nat_lt x count) new).0)
    ]

pub turned_itself : (r0 t0 r1 t1 : Bits) (first count : ℕ) → ((r c : ℕ) → bit t0 c r ≡ bit r0 r c)
    → ((r c : ℕ) → bit r1 r c ≡ (bit r0 r c || (nat_eq r c && (nat_le first r && nat_lt r count))))
    → ((r c : ℕ) → bit t1 r c ≡ (bit t0 r c || (nat_eq r c && (nat_le first r && nat_lt r count)))) → IsTurned r1 t1
turned_itself r0 t0 r1 t1 first count turned r_bits t_bits = record {
  same_pairs = λ r c.
      t_bits c r ∙ ap (λ b. b || (nat_eq c r && (nat_le first c && nat_lt c count))) (turned r c)
      ∙ elim (cases_eq r c) [
        | inl same ↦ rw same (sym (r_bits c c))
        | inr differs ↦
            rw (ne_eqb c r (λ e. differs (sym e)))
            (sym (r_bits r c ∙ rw (ne_eqb r c differs) refl))
      ];
}

flip_and : (a b : Bool) → (a && b) ≡ (b && a)
flip_and true true = refl
flip_and true false = refl
flip_and false true = refl
flip_and false false = refl

pub turned_linked : (r0 t0 r1 t1 : Bits) (starts ends : ℕ → Bool) → IsTurned r0 t0
    → ((x y : ℕ) → bit r1 x y ≡ (bit r0 x y || (starts x && ends y))) → ((x y : ℕ) → bit t1 x y ≡ (bit t0 x y || (ends x && starts y)))
    → IsTurned r1 t1
turned_linked r0 t0 r1 t1 starts ends turned r_bits t_bits = record {
  same_pairs = λ r c.
      t_bits c r ∙ ap (λ b. b || (ends c && starts r)) (turned.same_pairs r c)
      ∙ ap (λ b. bit r0 r c || b) (flip_and (ends c) (starts r)) ∙ sym (r_bits r c);
}

pub turned_onward : (r t : Bits) → IsTurned r t → ((x y z : ℕ) → bit r x y ≡ true → bit r y z ≡ true → bit r x z ≡ true)
    → (x y z : ℕ) → bit t x y ≡ true → bit t y z ≡ true → bit t x z ≡ true
turned_onward r t turned onward x y z h k =
    turned.same_pairs z x ∙ onward z y x (sym (turned.same_pairs z y) ∙ k) (sym (turned.same_pairs y x) ∙ h)

-- sizes stay where bits are turned on within them
pub square_joined : (old new : Bits) (count : ℕ) (further : ℕ → ℕ → Bool) → IsSquare old count → SameSizes old new
    → ((x y : ℕ) → bit new x y ≡ (bit old x y || further x y)) → ((x y : ℕ) → further x y ≡ true → (x < count) × (y < count)) → IsSquare new count
square_joined old new count further size sizes joined inside = record {
  rows_are = sizes.rows_stay ∙ size.rows_are;
  columns_are = sizes.columns_stay ∙ size.columns_are;
  within = λ x y on.
      elim (or_cases (bit old x y) (further x y) (sym (joined x y) ∙ on)) [ inl before ↦ size.within x y before | inr new ↦ inside x y new ];
}

-- the covered pairs after the marked rows of an edge were joined
pub moved_marked : (m0 m1 m2 c0 c1 c2 : ℕ → ℕ → Bool) (from to rows : ℕ)
    → ((c : ℕ) → m0 2 c ≡ false) → ((c : ℕ) → m0 3 c ≡ false)
    → ((r c : ℕ) → m1 r c ≡ (m0 r c || (nat_eq r 2 && c0 from c)))
    → ((r c : ℕ) → c1 r c ≡ (c0 r c || (m1 1 r && m1 2 c)))
    → ((r c : ℕ) → m2 r c ≡ (m1 r c || (nat_eq r 3 && (nat_lt c rows && c1 c to))))
    → ((r c : ℕ) → c2 r c ≡ (c1 r c || (m2 3 r && m2 0 c)))
    → ((r c : ℕ) → c0 r c ≡ true → r < rows) → ((r : ℕ) → m0 1 r ≡ true → r < rows)
    → (r c : ℕ) → c2 r c ≡ moved_along (m0 0) (m0 1) c0 from to r c
moved_marked m0 m1 m2 c0 c1 c2 from to rows third fourth joined moved marked back inside ends_in r c =
    let none : (b : Bool) → (b || false) ≡ b = λ b. elim b as (λ b. (b || false) ≡ b) [ true ↦ refl | false ↦ refl ] in
    let ends : m1 1 r ≡ m0 1 r = joined 1 r ∙ none (m0 1 r) in
    let line : (k : ℕ) → m1 2 k ≡ c0 from k = λ k. joined 2 k ∙ rw (third k) refl in
    let starts : m2 0 c ≡ m0 0 c = marked 0 c ∙ none (m1 0 c) ∙ joined 0 c ∙ none (m0 0 c) in
    let first : (k : ℕ) → c1 r k ≡ (c0 r k || (m0 1 r && c0 from k)) = λ k. moved r k ∙ ap (λ b. c0 r k || (b && m1 2 k)) ends ∙ ap (λ b. c0 r k || (m0 1 r && b)) (line k) in
    let row_in : c1 r to ≡ true → r < rows = λ on.
    elim (or_cases (c0 r to) (m0 1 r && c0 from to) (sym (first to) ∙ on)) [
      | inl before ↦ inside r to before
      | inr new ↦ ends_in r (and_parts (m0 1 r) (c0 from to) new).0
    ] in
    let column : m2 3 r ≡ c1 r to =
    marked 3 r ∙ rw (joined 3 r, fourth r) (elim (cases_lt r rows) [
      | inl below ↦ rw (lt-ltb r rows below) refl
      | inr past ↦ rw (le-ltb r rows past) (sym (false_from_ne_true (c1 r to) (λ on. omega (arith, row_in on))))
    ]) in
    back r c ∙ ap (λ b. c1 r c || (b && m2 0 c)) column ∙ ap (λ b. c1 r c || (c1 r to && b)) starts
    ∙ ap (λ b. b || (c1 r to && m0 0 c)) (first c) ∙ ap (λ b. (c0 r c || (m0 1 r && c0 from c)) || (b && m0 0 c)) (first to)

-- and where nothing is covered
pub moved_none : (starts ends : ℕ → Bool) (c : ℕ → ℕ → Bool) (from to x y : ℕ) → ((r k : ℕ) → c r k ≡ false)
    → c x y ≡ moved_along starts ends c from to x y
moved_none starts ends c from to x y off =
    rw (off x y, off from y, off x to, off from to) (elim (ends x) as (λ b. false ≡ ((false || (b && false)) || ((false || (b && false)) && starts y))) [ true ↦ refl | false ↦ refl ])

-- a covered pair is within the sizes after it was moved
pub moved_inside : (old new : Bits) (starts ends : ℕ → Bool) (from to count : ℕ) → IsSquare old count → SameSizes old new
    → ((x : ℕ) → starts x ≡ true → x < count) → ((x : ℕ) → ends x ≡ true → x < count)
    → ((x y : ℕ) → bit new x y ≡ moved_along starts ends (bit old) from to x y) → IsSquare new count
moved_inside old new starts ends from to count size sizes starts_in ends_in moved = record {
  rows_are = sizes.rows_stay ∙ size.rows_are;
  columns_are = sizes.columns_stay ∙ size.columns_are;
  within = λ x y on. go x y (sym (moved x y) ∙ on);
}
  where
    half : (x z : ℕ) → (bit old x z || (ends x && bit old from z)) ≡ true → (x < count) × (z < count)
    half x z on =
        elim (or_cases (bit old x z) (ends x && bit old from z) on) [
          | inl before ↦ size.within x z before
          | inr new ↦ let parts = and_parts (ends x) (bit old from z) new in (ends_in x parts.0, (size.within from z parts.1).1)
        ]

    go : (x y : ℕ) → moved_along starts ends (bit old) from to x y ≡ true → (x < count) × (y < count)
    go x y on =
        elim (or_cases (bit old x y || (ends x && bit old from y)) ((bit old x to || (ends x && bit old from to)) && starts y) on) [
          | inl first ↦ half x y first
          | inr second ↦
              let parts = and_parts (bit old x to || (ends x && bit old from to)) (starts y) second in
              ((half x to parts.0).0, starts_in y parts.1)
        ]
