-- What is so of facts about finite magmas, as a contract names it.
use Rattle.std.specs.Prelude.{◌≡◌, ◌↔◌, ℕ, List, Some}
use Rattle.etp_theory.specs.Trees.{Equation}
use Rattle.etp_theory.specs.Magmas.{Holds}
use Rattle.etp_theory.specs.LawNumbers.{law_numbered}
use Rattle.etp_theory.specs.Reach.{implies, refutes}
use Rattle.etp_cancel.specs.FiniteMagmas.{IsFiniteMagma, HoldsIn}
use Rattle.etp_cancel.specs.Cancelling.{FiniteLemma, IsFinitelyValid}
use Rattle.etp_cancel.specs.FiniteFacts.{IsRightFiniteFact}
use Rattle.etp_table.specs.Tables as Tables
use Rattle.etp_table.specs.Tables.{Table, IsTable}
use Rattle.etp_table.specs.Judgements as Judged
use Rattle.etp_linear.specs.Magmas as Linears
use Rattle.etp_linear.specs.Magmas.{LinearMagma, IsLinearMagma}
use Rattle.etp_linear.specs.Judgements as LinearJudged
use Rattle.etp_linear.specs.declared.parts.Ring.TheVariants.{Modulo}
use Rattle.etp_separation.specs.Residues.{residue_times}

pub record SeparationTheorems : Type 0 where
  -- tables and linear magmas with a modulus are finite magmas
  pub table_finite : (t : Table) → IsTable t → IsFiniteMagma t.size (Tables.times t)
  pub linear_finite : (l : LinearMagma) (m : ℕ) → l.ring ≡ Modulo m → IsLinearMagma l
      → IsFiniteMagma m (residue_times l)
  -- in these the laws of the linear magma hold, and no others
  pub same_laws : (l : LinearMagma) (m : ℕ) → l.ring ≡ Modulo m → IsLinearMagma l → (e : Equation)
      → HoldsIn m (residue_times l) e ↔ Holds (Linears.inside l.ring) (Linears.times l) e.left e.right
  -- what a valid proof states is right, and so is what a table and a linear magma state
  pub proof_right : (laws : List Equation) (e f : ℕ) (p q : Equation) (lemmas : List FiniteLemma)
      → law_numbered laws e ≡ Some p → law_numbered laws f ≡ Some q → IsFinitelyValid p q lemmas
      → IsRightFiniteFact laws (implies e f)
  pub table_right : (laws : List Equation) (t : Table) (holds fails : List ℕ) → IsTable t
      → Judged.IsJudged laws t holds fails → IsRightFiniteFact laws (refutes holds fails)
  pub linear_right : (laws : List Equation) (l : LinearMagma) (m : ℕ) (holds fails : List ℕ)
      → l.ring ≡ Modulo m → IsLinearMagma l → LinearJudged.IsJudged laws l holds fails
      → IsRightFiniteFact laws (refutes holds fails)
