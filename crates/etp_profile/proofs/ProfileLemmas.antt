-- What a profile that is refused says.
use Rattle.std.proofs.Common.{◌≡◌, ◌<◌, ◌⊎◌, inl, inr, ℕ}
use Rattle.etp_table.specs.Tables.{Table}
use Rattle.etp_sweep.specs.Profiles.{greatest_size, IsTooLarge}
use Rattle.etp_sweep.specs.declared.refusal.SweepRefusal.TheVariants.{ProfileSize, NoMemory}

-- the size that is refused is that of the table, and too large
pub oversize : (order : ℕ) (t : Table) (size : ℕ) → (ProfileSize size ≡ NoMemory) ⊎ IsTooLarge order t (ProfileSize size)
    → (size ≡ t.size) × (greatest_size order < t.size)
oversize order t size (inl e) = absurd (cc)
oversize order t size (inr h) = h
