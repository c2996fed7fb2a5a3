-- The reads that a reader makes.
use Rattle.std.specs.Prelude.{◌≡◌, ℕ, ◌+◌, ◌-◌, ◌<◌, min, List, take, None, Some, ⊤}
use Rattle.std.specs.declared.option.Option.{Option}
use Rattle.std.specs.declared.result.Result.{Result}
use Rattle.etp_io.specs.declared.outside.Failed.{Failed}
use Rattle.etp_io.specs.Counts.{count_of}
use Rattle.etp_io.specs.Texts.{NoNewline}

-- no newline stands in the first n of the known bytes
abbrev pub NoneBefore : Option (List ℕ) → ℕ → Type 0
NoneBefore None n = ⊤
NoneBefore (Some bytes) n = NoNewline (take n bytes)

-- one read that asked for so many bytes and gave n
pub record Gave {S : Type 0} (gives : S → ℕ → Result ℕ Failed → S → Type 0)
    (old : S) (asked n : ℕ) (new : S) : Type 0 where
  pub result : Result ℕ Failed
  pub answer : gives old asked result new
  pub amount : count_of result ≡ n

-- Some reads, one after another, that each gave bytes. `gives` says what a read of so many bytes
-- at a place may answer. Each asks for the lesser of 4096 and one byte more than the limit still
-- allows, and is made only where no whole line is held: none stands in the bytes to come that were
-- held at first or taken since.
pub data GivingReads {S : Type 0} (gives : S → ℕ → ℕ → Result ℕ Failed → S → Type 0)
    (limit held first : ℕ) (to_come : Option (List ℕ)) : S → ℕ → S → ℕ → Type 0 where
  none_yet : (s : S) (taken : ℕ) → GivingReads gives limit held first to_come s taken s taken
  read_then : (s t u : S) (taken middle : ℕ) (result : Result ℕ Failed)
      → GivingReads gives limit held first to_come s taken t middle
      → NoneBefore to_come (held + (middle - first))
      → gives t middle (min 4096 (limit + 1 - middle)) result u
      → 0 < count_of result
      → GivingReads gives limit held first to_come s taken u (middle + count_of result)

-- no read, or such reads and a last one of their kind, whatever it gave
pub data Reads {S : Type 0} (gives : S → ℕ → ℕ → Result ℕ Failed → S → Type 0)
    (limit held first : ℕ) (to_come : Option (List ℕ)) : S → ℕ → S → ℕ → Type 0 where
  no_read : (s : S) (taken : ℕ) → Reads gives limit held first to_come s taken s taken
  last_read : (s t u : S) (taken middle : ℕ) (result : Result ℕ Failed)
      → GivingReads gives limit held first to_come s taken t middle
      → NoneBefore to_come (held + (middle - first))
      → gives t middle (min 4096 (limit + 1 - middle)) result u
      → Reads gives limit held first to_come s taken u (middle + count_of result)
