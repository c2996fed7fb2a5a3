-- What a shelf keeps, and what a read of it gives.
use Rattle.std.specs.Prelude.{◌≡◌, ℕ, ◌≤◌, ◌-◌, List, length, take, drop, None, Some}
use Rattle.std.specs.declared.option.Option.{Option}

-- the name is there, and these n bytes stand at the place; none is at the end or past it
abbrev pub KeepsAt : Option (List ℕ) → ℕ → ℕ → List ℕ → Type 0
KeepsAt None at n buf = ⊥
KeepsAt (Some bytes) at n buf =
    (take n (drop at bytes) ≡ take n buf) × (n ≤ length bytes - at) × (n ≡ 0 → length bytes ≤ at)

-- the bytes of a name that is there, from a place on
abbrev pub rest_at : Option (List ℕ) → ℕ → Option (List ℕ)
rest_at None at = None
rest_at (Some bytes) at = Some (drop at bytes)

-- what is left of a name from a place on, where the shelf tells what it keeps and the name is there
abbrev pub left_at : Option (List ℕ → Option (List ℕ)) → List ℕ → ℕ → Option (List ℕ)
left_at None name at = None
left_at (Some kept) name at = rest_at (kept name) at

-- the shelf tells what it keeps, and the name is not there
abbrev pub Lacks : Option (List ℕ → Option (List ℕ)) → List ℕ → Type 0
Lacks None name = ⊥
Lacks (Some kept) name = kept name ≡ None
