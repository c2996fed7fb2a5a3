-- Duals of finite implications and separations.
use Rattle.std.proofs.Common.{◌≡◌, ℕ, refl, sym, ap₂, ◌∙◌, subst₂}
use Rattle.etp_theory.specs.Trees.{Tree, var, op, dual, law_dual, Equation}
use Rattle.etp_theory.specs.Magmas.{meaning}
use Rattle.etp_theory.proofs.Trees.{law_dual_dual}
use Rattle.etp_cancel.specs.FiniteMagmas.{IsFiniteMagma, HoldsIn, FiniteImplies, Separates}

-- the operation with its arguments exchanged
abbrev pub opposite : (ℕ → ℕ → ℕ) → ℕ → ℕ → ℕ
opposite times x y = times y x

opposite_magma : (n : ℕ) (times : ℕ → ℕ → ℕ) → IsFiniteMagma n times → IsFiniteMagma n (opposite times)
opposite_magma n times m = record { some = m.some; closed = λ x y i j. m.closed y x j i }

dual_value : (times : ℕ → ℕ → ℕ) (r : ℕ → ℕ) (t : Tree) → meaning times r (dual t) ≡ meaning (opposite times) r t
dual_value times r (var v) = refl
dual_value times r (op s t) = ap₂ times (dual_value times r t) (dual_value times r s)

holds_opposite : (n : ℕ) (times : ℕ → ℕ → ℕ) (e : Equation) → HoldsIn n times (law_dual e) → HoldsIn n (opposite times) e
holds_opposite n times e h r i = sym (dual_value times r e.left) ∙ h r i ∙ dual_value times r e.right

holds_dual : (n : ℕ) (times : ℕ → ℕ → ℕ) (e : Equation) → HoldsIn n (opposite times) e → HoldsIn n times (law_dual e)
holds_dual n times e h r i = dual_value times r e.left ∙ h r i ∙ sym (dual_value times r e.right)

pub dualised : (e f : Equation) → FiniteImplies e f → FiniteImplies (law_dual e) (law_dual f)
dualised e f h n times m k = holds_dual n times f (h n (opposite times) (opposite_magma n times m) (holds_opposite n times e k))

pub undualised : (e f : Equation) → FiniteImplies (law_dual e) (law_dual f) → FiniteImplies e f
undualised e f h = subst₂ FiniteImplies (law_dual_dual e) (law_dual_dual f) (dualised (law_dual e) (law_dual f) h)

pub dual_separated : (e f : Equation) → Separates e f → Separates (law_dual e) (law_dual f)
dual_separated e f s = record {
  size = s.size;
  times = opposite s.times;
  magma = opposite_magma s.size s.times s.magma;
  holds = holds_dual s.size (opposite s.times) e s.holds;
  fails = λ h. s.fails (holds_opposite s.size (opposite s.times) f h);
}

pub undual_separated : (e f : Equation) → Separates (law_dual e) (law_dual f) → Separates e f
undual_separated e f s = subst₂ Separates (law_dual_dual e) (law_dual_dual f) (dual_separated (law_dual e) (law_dual f) s)

pub apart : (e f : Equation) → FiniteImplies e f → Separates e f → ⊥
apart e f h s = s.fails (h s.size s.times s.magma s.holds)

pub moved : (d e f g : Equation) → Separates e f → FiniteImplies e d → FiniteImplies g f → Separates d g
moved d e f g s h k = record {
  size = s.size;
  times = s.times;
  magma = s.magma;
  holds = h s.size s.times s.magma s.holds;
  fails = λ i. s.fails (k s.size s.times s.magma i);
}
