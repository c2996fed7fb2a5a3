-- What contracts see of `OpTable`: a magma on the numbers below its size.
use Rattle.std.specs.Prelude.{◌≡◌, ℕ, ◌+◌, ◌*◌, ◌<◌, ◌≤◌, ◌&&◌, Bool, List, All, length, slice_index, nat_eq, nat_lt}
use Rattle.std.specs.List.{list_all}
use Rattle.etp_theory.specs.Tables.{below}

pub record Table : Type 0 where
  pub size : ℕ
  -- row by row
  pub entries : List ℕ

-- the entry in row x and column y of rows of n entries
abbrev pub entry : ℕ → List ℕ → ℕ → ℕ → ℕ
entry n entries x y = slice_index entries (x * n + y)

-- the operation of the table
abbrev pub times : Table → ℕ → ℕ → ℕ
times t = entry t.size t.entries

-- n rows of n entries below n
pub record IsTable (t : Table) : Type 0 where
  pub some : 1 ≤ t.size
  pub small : t.size ≤ 255
  pub square : length t.entries ≡ t.size * t.size
  pub below : All (λ x. x < t.size) t.entries

-- whether these are n rows of n entries below n
abbrev pub is_square : Table → Bool
is_square t = nat_eq (length t.entries) (t.size * t.size) && list_all (λ x. nat_lt x t.size) t.entries

-- the numbers below the size
abbrev pub carrier : Table → ℕ → Bool
carrier t x = is_square t && below t.size x
