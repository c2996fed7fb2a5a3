-- What is so of linear magmas, as a contract names it.
use Rattle.std.specs.Prelude.{◌≡◌, ℕ, pos, negsuc, ◌↔◌, List}
use Rattle.etp_theory.specs.Trees.{Tree, Equation}
use Rattle.etp_theory.specs.Magmas.{IsClosed, Holds}
use Rattle.etp_linear.specs.Magmas.{LinearMagma, inside, times, IsLinearMagma}
use Rattle.etp_linear.specs.Values.{coefficient_of, constant_of}
use Rattle.etp_linear.specs.Judgements.{IsJudged, IsOutOfRange, IsFirstOffence}
use Rattle.etp_linear.specs.declared.parts.Ring.TheVariants.{Integers, Modulo}
use Rattle.etp_linear.specs.declared.refusal.LinearRefusal.{LinearRefusal}

-- 2 x + 3 y + 5, over the integers and modulo 7
abbrev pub over_integers : LinearMagma
over_integers = record { ring = Integers; a = pos 2; b = pos 3; c = pos 5 }

abbrev pub modulo_seven : LinearMagma
modulo_seven = record { ring = Modulo 7; a = pos 2; b = pos 3; c = pos 5 }

pub record LinearTheorems : Type 0 where
  pub closed : (l : LinearMagma) → IsLinearMagma l → IsClosed (inside l.ring) (times l)
  -- a law holds exactly where both sides have equal constants and equal coefficients of each variable
  pub holds : (l : LinearMagma) → IsLinearMagma l → (p q : Tree) → Holds (inside l.ring) (times l) p q
      ↔ ((constant_of l p ≡ constant_of l q) × ((v : ℕ) → coefficient_of l p v ≡ coefficient_of l q v))
  -- laws are judged right or have a first offence, never both
  pub not_both : (laws : List Equation) (l : LinearMagma) (holds fails : List ℕ) (r : LinearRefusal)
      → IsJudged laws l holds fails → IsFirstOffence laws l holds fails r → ⊥
  pub one_offence : (laws : List Equation) (l : LinearMagma) (holds fails : List ℕ) (r s : LinearRefusal)
      → IsFirstOffence laws l holds fails r → IsFirstOffence laws l holds fails s → r ≡ s
  -- and so are its numbers in range or one is the first that isn't
  pub in_or_out : (l : LinearMagma) (r : LinearRefusal) → IsLinearMagma l → IsOutOfRange l r → ⊥
  pub one_out_of_range : (l : LinearMagma) (r s : LinearRefusal) → IsOutOfRange l r → IsOutOfRange l s → r ≡ s
  -- small values, which are computed
  pub value_over_integers : times over_integers (pos 1) (negsuc 0) ≡ pos 4
  pub value_modulo_seven : times modulo_seven (pos 4) (pos 6) ≡ pos 3
