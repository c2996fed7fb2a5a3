-- Why a body about finite magmas is refused.
use Rattle.std.specs.Prelude.{◌≡◌, ◌⊎◌, ℕ, List}
use Rattle.etp_theory.specs.Trees.{Equation}
use Rattle.etp_laws.specs.LawLists.{LawList}
use Rattle.etp_replay.specs.Validity.{law_at}
use Rattle.etp_table.specs.Tables.{Table, IsTable}
use Rattle.etp_table.specs.Entries.{IsFirstWrong}
use Rattle.etp_table.specs.Judgements as Tables
use Rattle.etp_table.specs.declared.refusal.TableRefusal.{TableRefusal}
use Rattle.etp_linear.specs.Magmas.{LinearMagma, IsLinearMagma}
use Rattle.etp_linear.specs.Judgements as Linears
use Rattle.etp_linear.specs.declared.refusal.LinearRefusal.{LinearRefusal}
use Rattle.etp_lines.specs.Claims.{Claims}
use Rattle.etp_items.specs.Bodies.{Model, table, linear}
use Rattle.etp_finite_replay.specs.FiniteValidity.{IsFiniteOffence}
use Rattle.etp_finite_replay.specs.declared.refusal.FiniteReplayRefusal.{FiniteReplayRefusal}
use Rattle.etp_finite_replay.specs.declared.refusal.FiniteReplayRefusal.TheVariants as Replays
use Rattle.etp_finite_body.specs.FiniteBodies.{FiniteFileBody, proof, model}
use Rattle.etp_finite_check.specs.declared.refusal.FiniteRefusal.{FiniteRefusal}
use Rattle.etp_finite_check.specs.declared.refusal.FiniteRefusal.TheVariants as Program
use Rattle.etp_finite_check.specs.declared.refusal.FiniteRefusal.TheVariants.{Replay, CancelDiffers, Linear, NoMemory}

-- a refusal of a proof's replay, as the ledger says it
abbrev pub replay_refused : FiniteReplayRefusal → FiniteRefusal
replay_refused (Replays.Replay r) = Replay r
replay_refused (Replays.CancelDiffers lemma) = CancelDiffers lemma
replay_refused Replays.NoMemory = NoMemory

-- of a table: its first entry that isn't below the size, or else the first law that isn't as it is to be
abbrev pub IsTableOffence : List Equation → Table → Claims → TableRefusal → Type 0
IsTableOffence laws t claims r =
    IsFirstWrong t.size t.entries r ⊎ (IsTable t × Tables.IsFirstOffence laws t claims.holds claims.fails r)

-- of a linear magma: its first number that is out of range, or else the first such law
abbrev pub IsLinearOffence : List Equation → LinearMagma → Claims → LinearRefusal → Type 0
IsLinearOffence laws l claims r =
    Linears.IsOutOfRange l r
    ⊎ (IsLinearMagma l × Linears.IsFirstOffence laws l claims.holds claims.fails r)

-- the refusal says the first offence of a magma
abbrev pub IsModelOffence : List Equation → Model → Claims → FiniteRefusal → Type 0
IsModelOffence laws (table size entries) claims r =
    (t : TableRefusal) × (r ≡ Program.Table t)
    × IsTableOffence laws (record { size = size; entries = entries }) claims t
IsModelOffence laws (linear l) claims r =
    (t : LinearRefusal) × (r ≡ Linear t) × IsLinearOffence laws l claims t
IsModelOffence laws m claims r = ⊥

-- that of a proof, or that of a magma
abbrev pub IsBodyOffence : LawList → FiniteFileBody → FiniteRefusal → Type 0
IsBodyOffence l (proof p) r =
    (t : FiniteReplayRefusal) × (r ≡ replay_refused t)
    × IsFiniteOffence l (law_at l.equations p.hypothesis) (law_at l.equations p.goal) p.lemmas t
IsBodyOffence l (model m claims) r = IsModelOffence l.equations m claims r

-- want of memory, or the first offence of a body
abbrev pub IsCheckRefused : LawList → FiniteFileBody → FiniteRefusal → Type 0
IsCheckRefused l body r = (r ≡ NoMemory) ⊎ IsBodyOffence l body r
