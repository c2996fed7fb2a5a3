-- The examples, computed.
use Rattle.std.proofs.Common.{◌≡◌, inl, inr, [], ◌∷◌, Some, None, refl, ap, subst}
use Rattle.etp_theory.specs.Trees.{var, op, Equation}
use Rattle.etp_theory.specs.Proofs.{line_equation}
use Rattle.etp_cancel.specs.FiniteMagmas.{FiniteImplies}
use Rattle.etp_cancel.specs.Cancelling.{Cancel, by_cancel, IsCancelledBy, IsRightCancel, IsFinitelyValid}
use Rattle.etp_cancel.specs.Examples.{inner_first, outer_first, turn, no_turn, turn_by_itself, renamed_turn}
use Rattle.etp_cancel.proofs.Concluding as Concluding

pub proved : IsFinitelyValid inner_first outer_first (by_cancel turn ∷ [])
proved = record {
  right = (record { equation = inner_first; named = refl; form = inr refl }, tt);
  final = by_cancel turn;
  last = refl;
  reached = (λ v. v, λ x y h. h, inr refl);
}

pub implied : FiniteImplies inner_first outer_first
implied = Concluding.proved inner_first outer_first (by_cancel turn ∷ []) proved

-- the hypothesis is of the form of the line
hypothesis_form : (c : Cancel) → c.line ≡ 0 → IsRightCancel inner_first [] c → IsCancelledBy c inner_first
hypothesis_form c q x =
    let n : line_equation inner_first [] 0 ≡ Some x.equation = subst (λ k. line_equation inner_first [] k ≡ Some x.equation) q x.named in
    let e : x.equation ≡ inner_first = cc in
    subst (IsCancelledBy c) e x.form

pub differs : IsRightCancel inner_first [] no_turn → ⊥
differs x = go (hypothesis_form no_turn refl x)
  where
    go : IsCancelledBy no_turn inner_first → ⊥
    go (inl e) = let h : var 0 ≡ op (op (var 0) (var 1)) (var 1) = ap (λ (z : Equation). z.left) e in cc
    go (inr e) = let h : op (op (var 1) (var 0)) (var 1) ≡ op (op (var 0) (var 1)) (var 1) = ap (λ (z : Equation). z.right) e in cc

pub not_itself : IsRightCancel inner_first [] turn_by_itself → ⊥
not_itself x = let h : None ≡ Some x.equation = x.named in cc

pub not_renamed : IsRightCancel inner_first [] renamed_turn → ⊥
not_renamed x = go (hypothesis_form renamed_turn refl x)
  where
    go : IsCancelledBy renamed_turn inner_first → ⊥
    go (inl e) = let h : var 0 ≡ op (op (var 0) (var 1)) (var 0) = ap (λ (z : Equation). z.left) e in cc
    go (inr e) = let h : var 0 ≡ var 1 = ap (λ (z : Equation). z.left) e in cc
