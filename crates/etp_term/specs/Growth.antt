-- Lists that grow at their end.
use Rattle.std.specs.Prelude.{◌≡◌, ℕ, List, length, take}

-- what stood before stands at the front
abbrev pub BeginsWith : List ℕ → List ℕ → Type 0
BeginsWith text front = take (length front) text ≡ front
