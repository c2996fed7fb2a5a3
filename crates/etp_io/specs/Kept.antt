-- Named bytes in memory.
use Rattle.std.specs.Prelude.{ℕ, List, [], ◌∷◌, None, Some, nat_eq, if◌then◌else◌}
use Rattle.std.specs.declared.option.Option.{Option}
use Rattle.std.specs.Cmp.Lexicographic.{pointwise}
use Rattle.etp_io.specs.declared.shelves.Entry.{Entry}

-- the bytes of the first entry with this name
abbrev pub kept_in : List Entry → List ℕ → Option (List ℕ)
kept_in [] name = None
kept_in (entry ∷ entries) name =
    if pointwise nat_eq entry.name.items name then Some entry.bytes.items else kept_in entries name

abbrev pub or_empty : Option (List ℕ) → List ℕ
or_empty None = []
or_empty (Some bytes) = bytes

-- the same, and the empty text for a name that has no entry
abbrev pub kept_or_empty : List Entry → List ℕ → List ℕ
kept_or_empty entries name = or_empty (kept_in entries name)
