-- A matrix-linear magma and its laws are right or have a first offence, and it is the only one.
use Rattle.std.proofs.Common.{◌≡◌, ℕ, ◌+◌, ◌*◌, ◌<◌, ◌≤◌, ◌⊎◌, inl, inr, All, List, Option, None, Some, length, take, slice_get, slice_index, refl, sym, ◌∙◌, ap, subst, arith}
use Rattle.std.proofs.lemmas.Bool.{cases_order}
use Rattle.std.proofs.lemmas.List.{get_or-take, length-take}
use Rattle.std.proofs.lemmas.List.Elements.{All-get_or}
use Rattle.std.proofs.lemmas.Nat.{same_from_place}
use Rattle.std.proofs.lemmas.Option.{slice_get_within, get_or_from_slice_get, same_Some}
use Rattle.etp_theory.specs.Trees.{Equation}
use Rattle.etp_theory.specs.Magmas.{meaning}
use Rattle.etp_theory.specs.LawNumbers.{law_numbered}
use Rattle.etp_matrix.specs.Magmas.{MatrixMagma, times, IsMatrixMagma, IsFirstOutOfRange, AreBelow, numbers_of, width_of}
use Rattle.etp_matrix.specs.Failures.{point, IsPoint, IsBefore, padded, IsFirstFailure}
use Rattle.etp_matrix.specs.Judgements.{LawHolds, LawFails, LawFailsBy, IsOutOfRange, IsHoldsOffence, IsFailsOffence, IsFirstOffence, in_holds, in_fails}
use Rattle.etp_matrix.specs.declared.parts.Part.{Part}
use Rattle.etp_matrix.specs.declared.parts.Part.TheVariants.{A, B, C}
use Rattle.etp_matrix.specs.declared.parts.MatrixFailure.{MatrixFailure}
use Rattle.etp_matrix.specs.declared.refusal.MatrixRefusal.{MatrixRefusal}
use Rattle.etp_matrix.specs.declared.refusal.MatrixRefusal.TheVariants.{Modulus, Entry, HoldsFails, FailsHolds}
use Rattle.etp_matrix.proofs.Judged.{fails_by}
use Rattle.etp_matrix.proofs.Meaning.{both}

-- what holds of all numbers holds of the one at a place
at_place : (P : ℕ → Type 0) (xs : List ℕ) (place n : ℕ) → slice_get xs place ≡ Some n → All P xs → P n
at_place P xs place n h all =
    subst P (get_or_from_slice_get xs place n n h) (All-get_or P xs place n (slice_get_within xs place n h) all)

-- and what holds of the numbers up to a place holds of one before it
before_place : (P : ℕ → Type 0) (xs : List ℕ) (i j n : ℕ) → i < j → slice_get xs i ≡ Some n → All P (take j xs) → P n
before_place P xs i j n l h all =
    let within : i < length (take j xs) = omega (arith, length-take j xs, slice_get_within xs i n h) in
    subst P (get_or-take j xs i n l ∙ get_or_from_slice_get xs i n n h) (All-get_or P (take j xs) i n within all)

-- where all numbers are in range none is out of it
below_at : (m : ℕ) (xs : List ℕ) (n value : ℕ) → AreBelow m xs → slice_get xs n ≡ Some value → m ≤ value → ⊥
below_at m xs n value below stands large =
    let small : value < m = at_place (λ k. k < m) xs n value stands below in
    omega (arith, small, large)

in_range : (x : MatrixMagma) (part : Part) (row column value : ℕ) → IsMatrixMagma x → IsFirstOutOfRange x part row column value → ⊥
in_range x A row column value ok h = below_at x.modulus x.a (row * x.size + column) value ok.a_below h.stands h.too_large
in_range x B row column value ok h = below_at x.modulus x.b (row * x.size + column) value ok.b_below h.stands h.too_large
in_range x C row column value ok h = below_at x.modulus x.c (row * 1 + column) value ok.c_below h.stands h.too_large

pub in_or_out : (x : MatrixMagma) (r : MatrixRefusal) → IsMatrixMagma x → IsOutOfRange x r → ⊥
in_or_out x (Modulus value) ok h = h.0 ok.modulus
in_or_out x (Entry part row column value) ok h = in_range x part row column value ok h
in_or_out x (HoldsFails law failure) ok h = h
in_or_out x (FailsHolds law) ok h = h

-- a part is before another one, or the same, or behind it
abbrev pub IsEarlier : Part → Part → Type 0
IsEarlier A A = ⊥
IsEarlier A B = Unit {0}
IsEarlier A C = Unit {0}
IsEarlier B A = ⊥
IsEarlier B B = ⊥
IsEarlier B C = Unit {0}
IsEarlier C q = ⊥

by_part : (p q : Part) → (p ≡ q) ⊎ (IsEarlier p q ⊎ IsEarlier q p)
by_part A A = inl refl
by_part A B = inr (inl tt)
by_part A C = inr (inl tt)
by_part B A = inr (inr tt)
by_part B B = inl refl
by_part B C = inr (inl tt)
by_part C A = inr (inr tt)
by_part C B = inr (inr tt)
by_part C C = inl refl

module _ (x : MatrixMagma) where
  earlier_below : (p q : Part) (row column value : ℕ) → IsEarlier p q → IsFirstOutOfRange x q row column value → AreBelow x.modulus (numbers_of x p)
  earlier_below A A row column value e h = absurd e
  earlier_below A B row column value e h = h.earlier_parts
  earlier_below A C row column value e h = h.earlier_parts.0
  earlier_below B A row column value e h = absurd e
  earlier_below B B row column value e h = absurd e
  earlier_below B C row column value e h = h.earlier_parts.1
  earlier_below C q row column value e h = absurd e

  not_later : (p q : Part) (r c v s d w : ℕ) → IsEarlier p q → IsFirstOutOfRange x p r c v → IsFirstOutOfRange x q s d w → ⊥
  not_later p q r c v s d w e h k =
      below_at x.modulus (numbers_of x p) (r * width_of x p + c) v (earlier_below p q s d w e k) h.stands h.too_large

  not_before : (p : Part) (r c v s d w : ℕ) → r * width_of x p + c < s * width_of x p + d → IsFirstOutOfRange x p r c v → IsFirstOutOfRange x p s d w → ⊥
  not_before p r c v s d w e h k =
      let place = r * width_of x p + c in
      let small : slice_index (numbers_of x p) place < x.modulus = k.earlier place e in
      let is : slice_index (numbers_of x p) place ≡ v = get_or_from_slice_get (numbers_of x p) place v 0 h.stands in
      omega (arith, small, is, h.too_large)

  one_entry : (p : Part) (r c v s d w : ℕ) → IsFirstOutOfRange x p r c v → IsFirstOutOfRange x p s d w → Entry p r c v ≡ Entry p s d w
  one_entry p r c v s d w h k = by (cases_order (r * width_of x p + c) (s * width_of x p + d))
    where
      by : (r * width_of x p + c ≡ s * width_of x p + d) ⊎ ((r * width_of x p + c < s * width_of x p + d) ⊎ (s * width_of x p + d < r * width_of x p + c)) → Entry p r c v ≡ Entry p s d w
      by (inl e) =
          let place = same_from_place r c s d (width_of x p) h.column_within k.column_within e in
          let i : r ≡ s = place.0 in
          let j : c ≡ d = place.1 in
          let l : v ≡ w = same_Some v w (sym h.stands ∙ ap (slice_get (numbers_of x p)) e ∙ k.stands) in
          cc
      by (inr (inl e)) = absurd (not_before p r c v s d w e h k)
      by (inr (inr e)) = absurd (not_before p s d w r c v e k h)

  one_place : (p q : Part) (r c v s d w : ℕ) → IsFirstOutOfRange x p r c v → IsFirstOutOfRange x q s d w → Entry p r c v ≡ Entry q s d w
  one_place p q r c v s d w h k = by (by_part p q)
    where
      by : (p ≡ q) ⊎ (IsEarlier p q ⊎ IsEarlier q p) → Entry p r c v ≡ Entry q s d w
      by (inl e) = subst (λ (z : Part). IsFirstOutOfRange x z s d w → Entry p r c v ≡ Entry z s d w) e (λ k. one_entry p r c v s d w h k) k
      by (inr (inl e)) = absurd (not_later p q r c v s d w e h k)
      by (inr (inr e)) = absurd (not_later q p s d w r c v e k h)

  pub one_out_of_range : (r s : MatrixRefusal) → IsOutOfRange x r → IsOutOfRange x s → r ≡ s
  one_out_of_range (Modulus v) (Modulus w) p q = ap Modulus (p.1 ∙ sym q.1)
  one_out_of_range (Modulus v) (Entry part row column value) p q = absurd (p.0 q.modulus)
  one_out_of_range (Modulus v) (HoldsFails law failure) p q = absurd q
  one_out_of_range (Modulus v) (FailsHolds law) p q = absurd q
  one_out_of_range (Entry i r c v) (Entry j s d w) p q = one_place i j r c v s d w p q
  one_out_of_range (Entry i r c v) (Modulus w) p q = absurd (q.0 p.modulus)
  one_out_of_range (Entry i r c v) (HoldsFails law failure) p q = absurd q
  one_out_of_range (Entry i r c v) (FailsHolds law) p q = absurd q
  one_out_of_range (HoldsFails law failure) s p q = absurd p
  one_out_of_range (FailsHolds law) s p q = absurd p

-- of two points one is before the other
either_before : (p q : Option (ℕ × ℕ)) → (p ≡ q) ⊎ (IsBefore p q ⊎ IsBefore q p)
either_before None None = inl refl
either_before None (Some v) = inr (inl tt)
either_before (Some u) None = inr (inr tt)
either_before (Some u) (Some v) = by (cases_order u.0 v.0) (cases_order u.1 v.1)
  where
    by : (u.0 ≡ v.0) ⊎ ((u.0 < v.0) ⊎ (v.0 < u.0)) → (u.1 ≡ v.1) ⊎ ((u.1 < v.1) ⊎ (v.1 < u.1)) → (Some u ≡ Some v) ⊎ (IsBefore (Some u) (Some v) ⊎ IsBefore (Some v) (Some u))
    by (inl e) (inl f) = inl (ap (λ z. Some (z, u.1)) e ∙ ap (λ z. Some (v.0, z)) f)
    by (inl e) (inr (inl f)) = inr (inl (inr (e, f)))
    by (inl e) (inr (inr f)) = inr (inr (inr (sym e, f)))
    by (inr (inl e)) k = inr (inl (inl e))
    by (inr (inr e)) k = inr (inr (inl e))

same_failure : (f g : MatrixFailure) → f.at ≡ g.at → f.left ≡ g.left → f.right ≡ g.right → f ≡ g
same_failure f g v l r =
    ap (λ z. record { at = z; left = f.left; right = f.right }) v ∙ ap (λ z. record { at = g.at; left = z; right = f.right }) l
    ∙ ap (λ z. record { at = g.at; left = g.left; right = z }) r

-- a law fails first at one point
module _ (x : MatrixMagma) (e : Equation) where
  not_first : (f g : MatrixFailure) → IsFirstFailure x e f → IsFirstFailure x e g → IsBefore f.at g.at → ⊥
  not_first f g p q h = p.differ (p.left_is ∙ ap padded (q.before f.at p.is_point h) ∙ sym p.right_is)

  pub one_failure : (f g : MatrixFailure) → IsFirstFailure x e f → IsFirstFailure x e g → f ≡ g
  one_failure f g p q = by (either_before f.at g.at)
    where
      by : (f.at ≡ g.at) ⊎ (IsBefore f.at g.at ⊎ IsBefore g.at f.at) → f ≡ g
      by (inl v) =
          same_failure f g v (p.left_is ∙ ap (λ u. padded (meaning (times x) (point x u) e.left)) v ∙ sym q.left_is)
          (p.right_is ∙ ap (λ u. padded (meaning (times x) (point x u) e.right)) v ∙ sym q.right_is)
      by (inr (inl h)) = absurd (not_first f g p q h)
      by (inr (inr h)) = absurd (not_first g f q p h)

same_number : (xs : List ℕ) (i j m n : ℕ) → i ≡ j → slice_get xs i ≡ Some m → slice_get xs j ≡ Some n → m ≡ n
same_number xs i j m n e h k = same_Some m n (sym h ∙ ap (slice_get xs) e ∙ k)

module _ (laws : List Equation) (x : MatrixMagma) where
  one_failure_of : (m n : ℕ) (f g : MatrixFailure) → m ≡ n → LawFailsBy laws x m f → LawFailsBy laws x n g → HoldsFails m f ≡ HoldsFails n g
  one_failure_of m n f g e p q =
      let law : p.law ≡ q.law = same_Some p.law q.law (sym p.listed ∙ ap (law_numbered laws) e ∙ q.listed) in
      let same = one_failure x q.law f g (subst (λ (z : Equation). IsFirstFailure x z f) law p.first) q.first in
      ap (λ z. HoldsFails z f) e ∙ ap (HoldsFails n) same

  module _ (holds : List ℕ) where
    holds_before : (r s : MatrixRefusal) (o : IsHoldsOffence laws x holds r) (p : IsHoldsOffence laws x holds s) → o.place < p.place → ⊥
    holds_before r s o p h =
        both laws x o.number (before_place (LawHolds laws x) holds o.place p.place o.number h o.stands p.before) (fails_by laws x o.number o.failure o.fails)

    one_holds : (r s : MatrixRefusal) → IsHoldsOffence laws x holds r → IsHoldsOffence laws x holds s → r ≡ s
    one_holds r s o p = by (cases_order o.place p.place)
      where
        by : (o.place ≡ p.place) ⊎ ((o.place < p.place) ⊎ (p.place < o.place)) → r ≡ s
        by (inl k) = o.is ∙ one_failure_of o.number p.number o.failure p.failure (same_number holds o.place p.place o.number p.number k o.stands p.stands) o.fails p.fails ∙ sym p.is
        by (inr (inl h)) = absurd (holds_before r s o p h)
        by (inr (inr h)) = absurd (holds_before s r p o h)

    held_or_refused : (r : MatrixRefusal) → All (LawHolds laws x) holds → IsHoldsOffence laws x holds r → ⊥
    held_or_refused r all o =
        both laws x o.number (at_place (LawHolds laws x) holds o.place o.number o.stands all) (fails_by laws x o.number o.failure o.fails)

  module _ (fails : List ℕ) where
    fails_before : (r s : MatrixRefusal) (o : IsFailsOffence laws x fails r) (p : IsFailsOffence laws x fails s) → o.place < p.place → ⊥
    fails_before r s o p h = both laws x o.number o.holds (before_place (LawFails laws x) fails o.place p.place o.number h o.stands p.before)

    one_fails : (r s : MatrixRefusal) → IsFailsOffence laws x fails r → IsFailsOffence laws x fails s → r ≡ s
    one_fails r s o p = by (cases_order o.place p.place)
      where
        by : (o.place ≡ p.place) ⊎ ((o.place < p.place) ⊎ (p.place < o.place)) → r ≡ s
        by (inl k) = o.is ∙ ap FailsHolds (same_number fails o.place p.place o.number p.number k o.stands p.stands) ∙ sym p.is
        by (inr (inl h)) = absurd (fails_before r s o p h)
        by (inr (inr h)) = absurd (fails_before s r p o h)

  pub one_offence : (holds fails : List ℕ) (r s : MatrixRefusal) → IsFirstOffence laws x holds fails r → IsFirstOffence laws x holds fails s → r ≡ s
  one_offence holds fails r s (in_holds o) (in_holds p) = one_holds holds r s o p
  one_offence holds fails r s (in_holds o) (in_fails a p) = absurd (held_or_refused holds r a o)
  one_offence holds fails r s (in_fails a o) (in_holds p) = absurd (held_or_refused holds s a p)
  one_offence holds fails r s (in_fails a o) (in_fails b p) = one_fails fails r s o p
