-- The file that a state of the draws gives.
use Rattle.std.specs.Prelude.{◌≡◌, ◌⊎◌, ℕ, ◌+◌, ◌%◌, false, List, [], ◌∷◌, Some}
use Rattle.etp_theory.specs.Trees.{Equation, law_renamed}
use Rattle.etp_theory.specs.LawNumbers.{law_numbered}
use Rattle.etp_laws.specs.LawLists.{HasVariables, IsNumberOf, HasNumber, IsTrivial}
use Rattle.etp_items.specs.Bodies.{ProofBody}
use Rattle.etp_gen.specs.Draws.{draw}

-- the first draw names one of the 4694 laws
abbrev pub drawn_number : ℕ → ℕ
drawn_number s = 1 + draw s 1 % 4694

-- of a law of n variables, variable i gets its value by the draw behind the first one and those of the
-- variables before it
abbrev pub drawn_value : ℕ → ℕ → ℕ → ℕ
drawn_value s n i = draw s (2 + i) % n

-- the law with its variables replaced; where its sides then are equal and no lone variable, the law itself
abbrev pub IsInstance : Equation → (ℕ → ℕ) → Equation → Type 0
IsInstance law value p =
    (HasNumber (law_renamed value law) × (p ≡ law_renamed value law))
    ⊎ (IsTrivial (law_renamed value law) × (p ≡ law))

-- the proof of one lemma with one step: from the left to the right side of p by the hypothesis at the root
abbrev pub one_step : ℕ → ℕ → Equation → ProofBody
one_step hypothesis goal p = record {
  hypothesis = hypothesis;
  goal = goal;
  cites = [];
  lemmas = record {
    start = p.left;
    steps = record { to = p.right; line = 0; cited = false; reversed = false; position = [] } ∷ [];
  } ∷ [];
}

-- the file proves, from the law numbered so, the number of its instance by these values
pub record ProvesInstance (laws : List Equation) (hypothesis : ℕ) (law : Equation) (value : ℕ → ℕ)
    (file : ProofBody) : Type 0 where
  pub instance_law : Equation
  pub goal : ℕ
  pub is_instance : IsInstance law value instance_law
  pub number : IsNumberOf laws instance_law goal
  pub file_is : file ≡ one_step hypothesis goal instance_law

-- the file that the draws from a state give, and the state after them: one draw for the law, and one for
-- each of its n variables
pub record IsGenerated (laws : List Equation) (s : ℕ) (file : ProofBody) (after : ℕ) : Type 0 where
  pub law : Equation
  pub n : ℕ
  pub stands : law_numbered laws (drawn_number s) ≡ Some law
  pub has_variables : HasVariables law n
  pub proves : ProvesInstance laws (drawn_number s) law (drawn_value s n) file
  pub after_is : after ≡ draw s (1 + n)
