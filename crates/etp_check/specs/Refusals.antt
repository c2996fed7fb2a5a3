-- Why a body is refused.
use Rattle.std.specs.Prelude.{◌≡◌, ◌≢◌, ◌⊎◌, ℕ, List, map}
use Rattle.etp_laws.specs.LawLists.{LawList}
use Rattle.etp_theory.specs.Trees.{Equation}
use Rattle.etp_theory.specs.Weights.{Weight}
use Rattle.etp_theory.specs.Overlaps.{IsConvergent}
use Rattle.etp_replay.specs.Validity as Replays
use Rattle.etp_replay.specs.Validity.{law_at}
use Rattle.etp_replay.specs.declared.refusal.ReplayRefusal.{ReplayRefusal}
use Rattle.etp_table.specs.Tables.{Table, IsTable}
use Rattle.etp_table.specs.Entries.{IsFirstWrong}
use Rattle.etp_table.specs.Judgements as Tables
use Rattle.etp_table.specs.declared.refusal.TableRefusal.{TableRefusal}
use Rattle.etp_linear.specs.Magmas.{LinearMagma, IsLinearMagma}
use Rattle.etp_linear.specs.Judgements as Linears
use Rattle.etp_linear.specs.declared.refusal.LinearRefusal.{LinearRefusal}
use Rattle.etp_matrix.specs.Magmas.{MatrixMagma, IsMatrixMagma}
use Rattle.etp_matrix.specs.Judgements as Matrices
use Rattle.etp_matrix.specs.declared.refusal.MatrixRefusal.{MatrixRefusal}
use Rattle.etp_rules.specs.Deciding as Systems
use Rattle.etp_rules.specs.Deciding.{IsInRange, AreAllowed}
use Rattle.etp_rules.specs.declared.deciding.RulesRefusal.{RulesRefusal}
use Rattle.etp_pairs.specs.Refusals as Overlapping
use Rattle.etp_pairs.specs.declared.refusal.PairsRefusal.{PairsRefusal}
use Rattle.etp_pairs.specs.declared.refusal.PairsRefusal.TheVariants as Joining
use Rattle.etp_canonical.specs.Judgements as Canonical
use Rattle.etp_canonical.specs.declared.refusal.ClaimRefusal.{ClaimRefusal}
use Rattle.etp_lines.specs.Claims.{Claims}
use Rattle.etp_items.specs.Bodies.{FileBody, Model, table, linear, matrix, rules, proof, model}
use Rattle.etp_check.specs.Checks.{IsRuleMagma}
use Rattle.etp_check.specs.Claimed.{claim_refused}
use Rattle.etp_check.specs.declared.refusal.CheckRefusal.{CheckRefusal}
use Rattle.etp_check.specs.declared.refusal.CheckRefusal.TheVariants as Program
use Rattle.etp_check.specs.declared.refusal.CheckRefusal.TheVariants.{Replay, Linear, Matrix, Rules, Pairs, NoMemory}

-- of a table: its first entry that isn't below the size, or else the first law that isn't as it is to be
abbrev pub IsTableOffence : List Equation → Table → Claims → TableRefusal → Type 0
IsTableOffence laws t claims r =
    IsFirstWrong t.size t.entries r ⊎ (IsTable t × Tables.IsFirstOffence laws t claims.holds claims.fails r)

-- of a linear magma: its first number that is out of range, or else the first such law
abbrev pub IsLinearOffence : List Equation → LinearMagma → Claims → LinearRefusal → Type 0
IsLinearOffence laws l claims r =
    Linears.IsOutOfRange l r ⊎ (IsLinearMagma l × Linears.IsFirstOffence laws l claims.holds claims.fails r)

-- of a matrix-linear magma: its modulus or its first number that is out of range, or else the first such law
abbrev pub IsMatrixOffence : List Equation → MatrixMagma → Claims → MatrixRefusal → Type 0
IsMatrixOffence laws g claims r =
    Matrices.IsOutOfRange g r ⊎ (IsMatrixMagma g × Matrices.IsFirstOffence laws g claims.holds claims.fails r)

-- want of memory, or the first offence of a weight and its rules
abbrev pub IsSystemRefused : Weight → List Equation → CheckRefusal → Type 0
IsSystemRefused w rs r = (r ≡ NoMemory) ⊎ ((t : RulesRefusal) × (r ≡ Rules t) × Systems.IsRefused w rs t)

-- of a rule system: of its weight and rules, or else the first critical pair that doesn't join, or else the
-- first such law
pub data IsSystemOffence (laws : List Equation) (w : Weight) (rs : List Equation) (claims : Claims) (r : CheckRefusal) : Type 0 where
  not_allowed : (t : RulesRefusal) → r ≡ Rules t → Systems.IsRefused w rs t → IsSystemOffence laws w rs claims r
  not_joining : (t : PairsRefusal) → r ≡ Pairs t → t ≢ Joining.NoMemory → IsInRange w → AreAllowed w rs
      → Overlapping.IsRefused rs t → IsSystemOffence laws w rs claims r
  not_claimed : (t : ClaimRefusal) → r ≡ claim_refused t → IsRuleMagma w rs
      → Canonical.IsFirstOffence laws rs claims.holds claims.fails t → IsSystemOffence laws w rs claims r

-- the refusal says the first offence of a magma
abbrev pub IsModelOffence : List Equation → Model → Claims → CheckRefusal → Type 0
IsModelOffence laws (table size entries) claims r =
    (t : TableRefusal) × (r ≡ Program.Table t)
    × IsTableOffence laws (record { size = size; entries = entries }) claims t
IsModelOffence laws (linear l) claims r =
    (t : LinearRefusal) × (r ≡ Linear t) × IsLinearOffence laws l claims t
IsModelOffence laws (matrix g) claims r =
    (t : MatrixRefusal) × (r ≡ Matrix t) × IsMatrixOffence laws g claims t
IsModelOffence laws (rules w rs) claims r = IsSystemOffence laws w rs claims r

-- that of a proof, a wrong step or else another goal than the one named; or that of a magma
abbrev pub IsBodyOffence : LawList → FileBody → List ℕ → CheckRefusal → Type 0
IsBodyOffence l (proof p) cited r =
    (t : ReplayRefusal) × (r ≡ Replay t)
    × Replays.IsFirstOffence l (law_at l.equations p.hypothesis) (law_at l.equations p.goal)
    (map (law_at l.equations) cited) p.lemmas t
IsBodyOffence l (model m claims) cited r = IsModelOffence l.equations m claims r

-- want of memory, or the first offence of a body with these cited numbers
abbrev pub IsCheckRefused : LawList → FileBody → List ℕ → CheckRefusal → Type 0
IsCheckRefused l body cited r = (r ≡ NoMemory) ⊎ IsBodyOffence l body cited r
