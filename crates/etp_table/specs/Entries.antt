-- The first entry that is no number below the size.
use Rattle.std.specs.Prelude.{◌≡◌, ℕ, ◌+◌, ◌*◌, ◌<◌, ◌≤◌, List, Some, slice_get}
use Rattle.etp_table.specs.declared.refusal.TableRefusal.{TableRefusal}
use Rattle.etp_table.specs.declared.refusal.TableRefusal.TheVariants.{Entry}

-- the entry of this row and column isn't below the size, and each one before it is
abbrev pub IsFirstWrong : ℕ → List ℕ → TableRefusal → Type 0
IsFirstWrong n entries (Entry row column value) =
    (column < n) × (slice_get entries (row * n + column) ≡ Some value) × (n ≤ value)
    × ((place x : ℕ) → place < row * n + column → slice_get entries place ≡ Some x → x < n)
IsFirstWrong n entries _ = ⊥
