-- Laws that differ by the names of their variables and the order of their sides alone.
use Rattle.std.specs.Prelude.{◌≡◌, ◌⊎◌, ℕ}
use Rattle.etp_theory.specs.Trees.{Equation, law_renamed, exchanged}

abbrev pub IsInjective : (ℕ → ℕ) → Type 0
IsInjective f = (x y : ℕ) → f x ≡ f y → x ≡ y

-- some injective renaming takes p to q, or takes p to q with its sides exchanged
abbrev pub Same : Equation → Equation → Type 0
Same p q =
    (f : ℕ → ℕ) × IsInjective f × ((law_renamed f p ≡ q) ⊎ (law_renamed f p ≡ exchanged q))
