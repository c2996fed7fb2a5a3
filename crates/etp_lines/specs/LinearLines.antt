-- What the line of a linear magma says. One such line tells the whole magma.
use Rattle.std.specs.Prelude.{◌≡◌, ℕ, ℤ, pos, neg_ℤ, List, [], ◌∷◌, codes, nat_eq, if◌then◌else◌, Option, Some, None}
use Rattle.std.specs.Option.{option_map}
use Rattle.etp_words.specs.Words.{words_of}
use Rattle.etp_words.specs.Numbers.{number_said}
use Rattle.etp_linear.specs.Magmas.{LinearMagma}
use Rattle.etp_linear.specs.declared.parts.Ring.{Ring}
use Rattle.etp_linear.specs.declared.parts.Ring.TheVariants.{Integers, Modulo}

-- a number, which may have one `-` directly before it; `-0` is 0
abbrev pub integer_of : List ℕ → Option ℤ
integer_of [] = None
integer_of (b ∷ bytes) =
    if nat_eq b 45 then option_map (λ n. neg_ℤ (pos n)) (number_said bytes) else option_map pos (number_said (b ∷ bytes))

-- the words begin with `int`, or with `mod` and a number, and behind them are these
abbrev pub BeginsRing : List (List ℕ) → Ring → List (List ℕ) → Type 0
BeginsRing words Integers behind = words ≡ codes "int" ∷ behind
BeginsRing words (Modulo m) behind =
    (word : List ℕ) × (words ≡ codes "mod" ∷ word ∷ behind) × (number_said word ≡ Some m)

-- `linear`, a ring, and the three coefficients
pub record SaysLinear (line : List ℕ) (l : LinearMagma) : Type 0 where
  pub more : List (List ℕ)
  pub a : List ℕ
  pub b : List ℕ
  pub c : List ℕ
  pub words : words_of line ≡ codes "linear" ∷ more
  pub ring_said : BeginsRing more l.ring (a ∷ b ∷ c ∷ [])
  pub a_said : integer_of a ≡ Some l.a
  pub b_said : integer_of b ≡ Some l.b
  pub c_said : integer_of c ≡ Some l.c
