-- The body lines that a name on the shelf has.
use Rattle.std.specs.Prelude.{◌≡◌, ℕ, ◌≤◌, ◌<◌, List, length, None, Some, IfSome, MatchOption, ⊤}
use Rattle.std.specs.declared.option.Option.{Option}
use Rattle.etp_io.specs.Texts.{lines_of, LineText}

-- what is known of the shelf: the most bytes of a name, and the bytes of each name that is there,
-- where it tells them
pub record KnownShelf : Type 0 where
  pub limit : ℕ
  pub keeps : Option (List ℕ → Option (List ℕ))

abbrev pub known : ℕ → Option (List ℕ → Option (List ℕ)) → KnownShelf
known limit keeps = record { limit = limit; keeps = keeps }

-- the name is there with at most so many bytes, and they are these lines
abbrev pub HasLines : ℕ → List LineText → Option (List ℕ) → Type 0
HasLines limit lines None = ⊥
HasLines limit lines (Some bytes) = (length bytes ≤ limit) × (lines ≡ lines_of bytes)

-- the name is there with more bytes
abbrev pub IsLong : ℕ → Option (List ℕ) → Type 0
IsLong limit None = ⊥
IsLong limit (Some bytes) = limit < length bytes

-- the name isn't there, or it has more bytes
abbrev pub IsMissing : ℕ → Option (List ℕ) → Type 0
IsMissing limit None = ⊤
IsMissing limit (Some bytes) = limit < length bytes

-- a name has these body lines on the shelf; any, where the shelf doesn't tell
abbrev pub IsLoaded : KnownShelf → List ℕ → List LineText → Type 0
IsLoaded s name lines = IfSome s.keeps (λ kept. HasLines s.limit lines (kept name))

-- it has none that are read
abbrev pub HasNoLines : KnownShelf → List ℕ → Type 0
HasNoLines s name = MatchOption s.keeps ⊥ (λ kept. IsMissing s.limit (kept name))

-- it has too many bytes, where the shelf tells
abbrev pub IsTooLong : KnownShelf → List ℕ → Type 0
IsTooLong s name = IfSome s.keeps (λ kept. IsLong s.limit (kept name))
