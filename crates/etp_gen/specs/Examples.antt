-- Draws, files and texts that are computed.
use Rattle.std.specs.Prelude.{◌≡◌, ℕ, List, [], ◌∷◌, ◌++◌, codes, map, Some}
use Rattle.etp_theory.specs.Trees.{Tree, var, op, Equation}
use Rattle.etp_theory.specs.LawNumbers.{law_numbered}
use Rattle.etp_text.specs.Written.{sign}
use Rattle.etp_gen.specs.Draws.{start, draw}
use Rattle.etp_gen.specs.Files.{drawn_number, drawn_value, IsInstance, one_step, IsGenerated}
use Rattle.etp_gen.specs.Scripts.{file_name, written_file, IsScript}

-- x ◇ (y ◇ (y ◇ (y ◇ y))) for x = a and y = b
abbrev pub nested : ℕ → ℕ → Tree
nested a b = op (var a) (op (var b) (op (var b) (op (var b) (var b))))

-- x = y ◇ (z ◇ (w ◇ (z ◇ z))), law 600
abbrev pub law_600 : Equation
law_600 = record { left = var 0; right = op (var 1) (op (var 2) (op (var 3) (op (var 2) (var 2)))) }

-- x = y ◇ (z ◇ (z ◇ (z ◇ z))), law 581
abbrev pub law_581 : Equation
law_581 = record { left = var 0; right = nested 1 2 }

-- w = x ◇ (y ◇ (y ◇ (y ◇ y)))
abbrev pub instance_600 : Equation
instance_600 = record { left = var 3; right = nested 0 1 }

-- x ◇ y = y ◇ x
abbrev pub commutativity : Equation
commutativity = record { left = op (var 0) (var 1); right = op (var 1) (var 0) }

-- x ◇ x = x ◇ x
abbrev pub squares : Equation
squares = record { left = op (var 0) (var 0); right = op (var 0) (var 0) }

-- x = y, and x = x
abbrev pub equal_all : Equation
equal_all = record { left = var 0; right = var 1 }

abbrev pub reflexive : Equation
reflexive = record { left = var 0; right = var 0 }

-- the text of the file that seed 7 gives first
abbrev pub first_text : List ℕ
first_text =
    codes "file g1" ++ 10 ∷ (codes "proof 600 581" ++ 10 ∷ (codes "lemma w" ++ 10 ∷ (codes "step 0 > . x" ++ sign
    ++ codes "(y" ++ sign ++ codes "(y" ++ sign ++ codes "(y" ++ sign ++ codes "y)))" ++ 10 ∷ (codes "end" ++ 10 ∷ []))))

pub record GeneratorExamples : Type 0 where
  -- a seed counts modulo 65536, and a draw modulo 65537
  pub small_seed : start 7 ≡ 7
  pub great_seed : map start (65535 ∷ 65536 ∷ 65537 ∷ []) ≡ 65535 ∷ 0 ∷ 1 ∷ []
  pub great_draw : map (λ s. draw s 1) (0 ∷ 873 ∷ 65535 ∷ []) ≡ 74 ∷ 12 ∷ 65461 ∷ []
  -- seed 7
  pub draws : map (draw 7) (0 ∷ 1 ∷ 2 ∷ 3 ∷ 4 ∷ 5 ∷ []) ≡ 7 ∷ 599 ∷ 44999 ∷ 32612 ∷ 21105 ∷ 10061 ∷ []
  pub number : drawn_number 7 ≡ 600
  -- the four variables of law 600 become w, x, y and y
  pub values : map (drawn_value 7 4) (0 ∷ 1 ∷ 2 ∷ 3 ∷ []) ≡ 3 ∷ 0 ∷ 1 ∷ 1 ∷ []
  pub file : (laws : List Equation) → law_numbered laws 600 ≡ Some law_600 → law_numbered laws 581 ≡ Some law_581
      → IsGenerated laws 7 (one_step 600 581 instance_600) 10061
  pub text : written_file 1 (one_step 600 581 instance_600) ≡ first_text
  pub script : (laws : List Equation) → law_numbered laws 600 ≡ Some law_600 → law_numbered laws 581 ≡ Some law_581
      → IsScript laws 1 7 (first_text ++ codes "counts" ++ 10 ∷ [])
  -- with both variables replaced by one, commutativity stays as it is, and x = y becomes x = x
  pub trivial : IsInstance commutativity (λ v. 0) commutativity
  pub not_trivial : ¬ IsInstance commutativity (λ v. 0) squares
  pub lone : IsInstance equal_all (λ v. 0) reflexive
  pub not_lone : ¬ IsInstance equal_all (λ v. 0) equal_all
  pub tenth_name : file_name 10 ≡ codes "g10"
