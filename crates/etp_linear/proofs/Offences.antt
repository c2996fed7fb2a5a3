-- A linear magma and its laws are right or have a first offence, and it is the only one.
use Rattle.std.proofs.Common.{◌≡◌, ℕ, ◌<◌, ◌⊎◌, inl, inr, All, List, Option, None, Some, slice_get, refl, sym, ◌∙◌, ap, subst}
use Rattle.std.specs.Prelude.{ℤ, pos}
use Rattle.std.proofs.lemmas.Bool.{cases_order}
use Rattle.std.proofs.lemmas.Option.{same_Some}
use Rattle.etp_laws.proofs.NumberLists.{at_place, before_place}
use Rattle.etp_theory.specs.Trees.{Equation}
use Rattle.etp_theory.specs.Magmas.{meaning}
use Rattle.etp_theory.specs.LawNumbers.{law_numbered}
use Rattle.etp_linear.specs.Magmas.{LinearMagma, times, IsLinearMagma, IsFirstOutOfRange}
use Rattle.etp_linear.specs.Failures.{point, IsBefore, IsFirstFailure}
use Rattle.etp_linear.specs.Judgements.{LawHolds, LawFails, LawFailsBy, IsOutOfRange, IsHoldsOffence, IsFailsOffence, IsFirstOffence, in_holds, in_fails}
use Rattle.etp_linear.specs.declared.parts.Which.{Which}
use Rattle.etp_linear.specs.declared.parts.Which.TheVariants.{Modulus, A, B, C}
use Rattle.etp_linear.specs.declared.parts.LinearFailure.{LinearFailure}
use Rattle.etp_linear.specs.declared.refusal.LinearRefusal.{LinearRefusal}
use Rattle.etp_linear.specs.declared.refusal.LinearRefusal.TheVariants.{Coefficient, HoldsFails, FailsHolds}
use Rattle.etp_linear.proofs.Judged.{fails_by}
use Rattle.etp_linear.proofs.Meaning.{both}

-- where all numbers are in range none is out of it
in_range : (l : LinearMagma) (which : Which) (value : ℤ) → IsLinearMagma l → IsFirstOutOfRange l which value → ⊥
in_range l Modulus value ok h = ok.modulus h.0
in_range l A value ok h = h.1 ok.a_in_range
in_range l B value ok h = h.2 ok.b_in_range
in_range l C value ok h = h.3 ok.c_in_range

pub in_or_out : (l : LinearMagma) (r : LinearRefusal) → IsLinearMagma l → IsOutOfRange l r → ⊥
in_or_out l (Coefficient which value) ok h = in_range l which value ok h
in_or_out l (HoldsFails law failure) ok h = h
in_or_out l (FailsHolds law) ok h = h

same_value : (which : Which) (v w z : ℤ) → v ≡ z → w ≡ z → Coefficient which v ≡ Coefficient which w
same_value which v w z h k = ap (Coefficient which) (h ∙ sym k)

one_number : (l : LinearMagma) (i j : Which) (v w : ℤ) → IsFirstOutOfRange l i v → IsFirstOutOfRange l j w → Coefficient i v ≡ Coefficient j w
one_number l Modulus Modulus v w p q = same_value Modulus v w (pos 0) p.1 q.1
one_number l Modulus A v w p q = absurd (q.0 p.0)
one_number l Modulus B v w p q = absurd (q.0 p.0)
one_number l Modulus C v w p q = absurd (q.0 p.0)
one_number l A Modulus v w p q = absurd (p.0 q.0)
one_number l A A v w p q = same_value A v w l.a p.2 q.2
one_number l A B v w p q = absurd (p.1 q.1)
one_number l A C v w p q = absurd (p.1 q.1)
one_number l B Modulus v w p q = absurd (p.0 q.0)
one_number l B A v w p q = absurd (q.1 p.1)
one_number l B B v w p q = same_value B v w l.b p.3 q.3
one_number l B C v w p q = absurd (p.2 q.2)
one_number l C Modulus v w p q = absurd (p.0 q.0)
one_number l C A v w p q = absurd (q.1 p.1)
one_number l C B v w p q = absurd (q.2 p.2)
one_number l C C v w p q = same_value C v w l.c p.4 q.4

pub one_out_of_range : (l : LinearMagma) (r s : LinearRefusal) → IsOutOfRange l r → IsOutOfRange l s → r ≡ s
one_out_of_range l (Coefficient i v) (Coefficient j w) p q = one_number l i j v w p q
one_out_of_range l (Coefficient i v) (HoldsFails law failure) p q = absurd q
one_out_of_range l (Coefficient i v) (FailsHolds law) p q = absurd q
one_out_of_range l (HoldsFails law failure) s p q = absurd p
one_out_of_range l (FailsHolds law) s p q = absurd p

-- of two points one is before the other
either_before : (p q : Option ℕ) → (p ≡ q) ⊎ (IsBefore p q ⊎ IsBefore q p)
either_before None None = inl refl
either_before None (Some v) = inr (inl tt)
either_before (Some u) None = inr (inr tt)
either_before (Some u) (Some v) = by (cases_order u v)
  where
    by : (u ≡ v) ⊎ ((u < v) ⊎ (v < u)) → (Some u ≡ Some v) ⊎ ((u < v) ⊎ (v < u))
    by (inl e) = inl (ap Some e)
    by (inr o) = inr o

same_failure : (f g : LinearFailure) → f.variable ≡ g.variable → f.left ≡ g.left → f.right ≡ g.right → f ≡ g
same_failure f g v l r =
    ap (λ z. record { variable = z; left = f.left; right = f.right }) v ∙ ap (λ z. record { variable = g.variable; left = z; right = f.right }) l
    ∙ ap (λ z. record { variable = g.variable; left = g.left; right = z }) r

-- a law fails first at one point
module _ (l : LinearMagma) (e : Equation) where
  not_first : (f g : LinearFailure) → IsFirstFailure l e f → IsFirstFailure l e g → IsBefore f.variable g.variable → ⊥
  not_first f g p q h = p.differ (p.left_is ∙ q.before f.variable h ∙ sym p.right_is)

  pub one_failure : (f g : LinearFailure) → IsFirstFailure l e f → IsFirstFailure l e g → f ≡ g
  one_failure f g p q = by (either_before f.variable g.variable)
    where
      by : (f.variable ≡ g.variable) ⊎ (IsBefore f.variable g.variable ⊎ IsBefore g.variable f.variable) → f ≡ g
      by (inl v) =
          same_failure f g v (p.left_is ∙ ap (λ u. meaning (times l) (point u) e.left) v ∙ sym q.left_is)
          (p.right_is ∙ ap (λ u. meaning (times l) (point u) e.right) v ∙ sym q.right_is)
      by (inr (inl h)) = absurd (not_first f g p q h)
      by (inr (inr h)) = absurd (not_first g f q p h)

same_number : (xs : List ℕ) (i j m n : ℕ) → i ≡ j → slice_get xs i ≡ Some m → slice_get xs j ≡ Some n → m ≡ n
same_number xs i j m n e h k = same_Some m n (sym h ∙ ap (slice_get xs) e ∙ k)

module _ (laws : List Equation) (l : LinearMagma) where
  one_failure_of : (m n : ℕ) (f g : LinearFailure) → m ≡ n → LawFailsBy laws l m f → LawFailsBy laws l n g → HoldsFails m f ≡ HoldsFails n g
  one_failure_of m n f g e p q =
      let law : p.law ≡ q.law = same_Some p.law q.law (sym p.listed ∙ ap (law_numbered laws) e ∙ q.listed) in
      let same = one_failure l q.law f g (subst (λ (z : Equation). IsFirstFailure l z f) law p.first) q.first in
      ap (λ z. HoldsFails z f) e ∙ ap (HoldsFails n) same

  module _ (holds : List ℕ) where
    holds_before : (r s : LinearRefusal) (o : IsHoldsOffence laws l holds r) (p : IsHoldsOffence laws l holds s) → o.place < p.place → ⊥
    holds_before r s o p h =
        both laws l o.number (before_place (LawHolds laws l) holds o.place p.place o.number h o.stands p.before) (fails_by laws l o.number o.failure o.fails)

    one_holds : (r s : LinearRefusal) → IsHoldsOffence laws l holds r → IsHoldsOffence laws l holds s → r ≡ s
    one_holds r s o p = by (cases_order o.place p.place)
      where
        by : (o.place ≡ p.place) ⊎ ((o.place < p.place) ⊎ (p.place < o.place)) → r ≡ s
        by (inl k) = o.is ∙ one_failure_of o.number p.number o.failure p.failure (same_number holds o.place p.place o.number p.number k o.stands p.stands) o.fails p.fails ∙ sym p.is
        by (inr (inl h)) = absurd (holds_before r s o p h)
        by (inr (inr h)) = absurd (holds_before s r p o h)

    held_or_refused : (r : LinearRefusal) → All (LawHolds laws l) holds → IsHoldsOffence laws l holds r → ⊥
    held_or_refused r all o =
        both laws l o.number (at_place (LawHolds laws l) holds o.place o.number o.stands all) (fails_by laws l o.number o.failure o.fails)

  module _ (fails : List ℕ) where
    fails_before : (r s : LinearRefusal) (o : IsFailsOffence laws l fails r) (p : IsFailsOffence laws l fails s) → o.place < p.place → ⊥
    fails_before r s o p h = both laws l o.number o.holds (before_place (LawFails laws l) fails o.place p.place o.number h o.stands p.before)

    one_fails : (r s : LinearRefusal) → IsFailsOffence laws l fails r → IsFailsOffence laws l fails s → r ≡ s
    one_fails r s o p = by (cases_order o.place p.place)
      where
        by : (o.place ≡ p.place) ⊎ ((o.place < p.place) ⊎ (p.place < o.place)) → r ≡ s
        by (inl k) = o.is ∙ ap FailsHolds (same_number fails o.place p.place o.number p.number k o.stands p.stands) ∙ sym p.is
        by (inr (inl h)) = absurd (fails_before r s o p h)
        by (inr (inr h)) = absurd (fails_before s r p o h)

  pub one_offence : (holds fails : List ℕ) (r s : LinearRefusal) → IsFirstOffence laws l holds fails r → IsFirstOffence laws l holds fails s → r ≡ s
  one_offence holds fails r s (in_holds o) (in_holds p) = one_holds holds r s o p
  one_offence holds fails r s (in_holds o) (in_fails a p) = absurd (held_or_refused holds r a o)
  one_offence holds fails r s (in_fails a o) (in_holds p) = absurd (held_or_refused holds s a p)
  one_offence holds fails r s (in_fails a o) (in_fails b p) = one_fails fails r s o p
