-- Proofs for finite magmas: lemmas by steps, and lines that cancel.
use Rattle.std.specs.Prelude.{◌≡◌, ◌⊎◌, ℕ, ◌-◌, cond, eqb, List, [], ◌∷◌, ◌++◌, length, Some, slice_get}
use Rattle.etp_theory.specs.Trees.{Tree, var, Equation, exchanged}
use Rattle.etp_theory.specs.Substitutions.{apply}
use Rattle.etp_theory.specs.Sameness.{Same}
use Rattle.etp_theory.specs.Proofs.{Lemma, conclusion, line_equation, AreRightSteps}

-- B put for V in A: A with every V replaced by B
abbrev pub put_for : ℕ → Tree → Tree → Tree
put_for v b a = apply (λ x. cond (eqb x v) b (var x)) a

-- a line that cancels: a line of the proof, a variable V, and two terms, A and B
pub record Cancel : Type 0 where
  pub line : ℕ
  pub variable : ℕ
  pub outer : Tree
  pub inner : Tree

-- B put for V in A, and V
abbrev pub cancelled : Cancel → Equation
cancelled c = record { left = put_for c.variable c.inner c.outer; right = var c.variable }

-- what it concludes: A put for V in B, and V
abbrev pub cancel_conclusion : Cancel → Equation
cancel_conclusion c = record { left = put_for c.variable c.outer c.inner; right = var c.variable }

-- one side of the equation is B put for V in A, and the other is V
abbrev pub IsCancelledBy : Cancel → Equation → Type 0
IsCancelledBy c e = (e ≡ cancelled c) ⊎ (e ≡ exchanged (cancelled c))

-- the line that it names is the hypothesis or the conclusion of an earlier lemma, and is of this form
pub record IsRightCancel (hypothesis : Equation) (earlier : List Equation) (c : Cancel) : Type 0 where
  pub equation : Equation
  pub named : line_equation hypothesis earlier c.line ≡ Some equation
  pub form : IsCancelledBy c equation

-- a lemma is a chain of steps, or a line that cancels
pub data FiniteLemma : Type 0 where
  by_steps : Lemma → FiniteLemma
  by_cancel : Cancel → FiniteLemma

abbrev pub finite_conclusion : FiniteLemma → Equation
finite_conclusion (by_steps l) = conclusion l
finite_conclusion (by_cancel c) = cancel_conclusion c

abbrev pub finite_conclusions : List FiniteLemma → List Equation
finite_conclusions [] = []
finite_conclusions (l ∷ ls) = finite_conclusion l ∷ finite_conclusions ls

-- each step is right, or the line that cancels is
abbrev pub IsRightFiniteLemma : Equation → List Equation → FiniteLemma → Type 0
IsRightFiniteLemma hypothesis earlier (by_steps l) = AreRightSteps hypothesis [] earlier l.start l.steps
IsRightFiniteLemma hypothesis earlier (by_cancel c) = IsRightCancel hypothesis earlier c

-- each lemma is right over the conclusions of the lemmas before it
abbrev pub AreRightFiniteLemmas : Equation → List Equation → List FiniteLemma → Type 0
AreRightFiniteLemmas hypothesis earlier [] = Unit {0}
AreRightFiniteLemmas hypothesis earlier (l ∷ ls) =
    IsRightFiniteLemma hypothesis earlier l
    × AreRightFiniteLemmas hypothesis (earlier ++ (finite_conclusion l ∷ [])) ls

-- every lemma is right, and what the last one concludes is the same law as the goal
pub record IsFinitelyValid (hypothesis goal : Equation) (lemmas : List FiniteLemma) : Type 0 where
  pub right : AreRightFiniteLemmas hypothesis [] lemmas
  pub final : FiniteLemma
  pub last : slice_get lemmas (length lemmas - 1) ≡ Some final
  pub reached : Same (finite_conclusion final) goal
