-- Proofs by lemmas and steps.
use Rattle.std.specs.Prelude.{◌≡◌, ℕ, zero, suc, ◌-◌, Bool, true, false, cond, List, [], ◌∷◌, ◌++◌, length, Option, Some, None, slice_get}
use Rattle.etp_theory.specs.Trees.{Tree, Equation, exchanged}
use Rattle.etp_theory.specs.Substitutions.{apply}
use Rattle.etp_theory.specs.Positions.{Side, sub_at, put_at}
use Rattle.etp_theory.specs.Sameness.{Same}
use Rattle.etp_theory.specs.Derivations.{Derives}

-- a step to the next term, by a line of the proof or by a cited law; `reversed`: from right to left
pub record ProofStep : Type 0 where
  pub to : Tree
  pub line : ℕ
  pub cited : Bool
  pub reversed : Bool
  pub position : List Side

pub record Lemma : Type 0 where
  pub start : Tree
  pub steps : List ProofStep

-- the last term that the steps lead to
abbrev pub last_term : Tree → List ProofStep → Tree
last_term t [] = t
last_term t (x ∷ xs) = last_term x.to xs

-- a lemma concludes that its start equals its last term
abbrev pub conclusion : Lemma → Equation
conclusion l = record { left = l.start; right = last_term l.start l.steps }

abbrev pub conclusions : List Lemma → List Equation
conclusions [] = []
conclusions (l ∷ ls) = conclusion l ∷ conclusions ls

-- line 0 is the hypothesis, line k the conclusion of lemma k, where that is an earlier one
abbrev pub line_equation : Equation → List Equation → ℕ → Option Equation
line_equation hypothesis earlier zero = Some hypothesis
line_equation hypothesis earlier (suc k) = slice_get earlier k

-- cited laws count from 1
abbrev pub cited_equation : List Equation → ℕ → Option Equation
cited_equation cites zero = None
cited_equation cites (suc k) = slice_get cites k

-- the equation that the step names
abbrev pub named_equation : Equation → List Equation → List Equation → ProofStep → Option Equation
named_equation hypothesis cites earlier x =
    cond x.cited (cited_equation cites x.line) (line_equation hypothesis earlier x.line)

-- the equation as the step reads it
abbrev pub as_read : Bool → Equation → Equation
as_read true e = exchanged e
as_read false e = e

-- outside the position both terms agree: whatever is put there, they become one term
abbrev pub AgreeOutside : List Side → Tree → Tree → Type 0
AgreeOutside p s t = (u : Tree) → put_at p s u ≡ put_at p t u

-- the position is in both terms, they agree outside it, and one substitution takes the
-- equation's sides to the two terms that stand there
pub record IsStepBy (e : Equation) (position : List Side) (s t : Tree) : Type 0 where
  pub by : ℕ → Tree
  pub before : sub_at position s ≡ Some (apply by e.left)
  pub after : sub_at position t ≡ Some (apply by e.right)
  pub outside : AgreeOutside position s t

-- the step from `s` is right by the equation that it names
pub record IsRightStep (hypothesis : Equation) (cites earlier : List Equation) (s : Tree)
    (x : ProofStep) : Type 0 where
  pub equation : Equation
  pub named : named_equation hypothesis cites earlier x ≡ Some equation
  pub right : IsStepBy (as_read x.reversed equation) x.position s x.to

-- each step is right from the term before it
abbrev pub AreRightSteps : Equation → List Equation → List Equation → Tree → List ProofStep → Type 0
AreRightSteps hypothesis cites earlier s [] = Unit {0}
AreRightSteps hypothesis cites earlier s (x ∷ xs) =
    IsRightStep hypothesis cites earlier s x × AreRightSteps hypothesis cites earlier x.to xs

-- each lemma's steps are right over the conclusions of the lemmas before it
abbrev pub AreRightLemmas : Equation → List Equation → List Equation → List Lemma → Type 0
AreRightLemmas hypothesis cites earlier [] = Unit {0}
AreRightLemmas hypothesis cites earlier (l ∷ ls) =
    AreRightSteps hypothesis cites earlier l.start l.steps
    × AreRightLemmas hypothesis cites (earlier ++ (conclusion l ∷ [])) ls

-- every step is right, and what the last lemma concludes is the same law as the goal
pub record IsValidProof (hypothesis goal : Equation) (cites : List Equation) (lemmas : List Lemma)
    : Type 0 where
  pub right : AreRightLemmas hypothesis cites [] lemmas
  pub final : Lemma
  pub last : slice_get lemmas (length lemmas - 1) ≡ Some final
  pub reached : Same (conclusion final) goal

-- each of the laws is derived from the hypothesis
abbrev pub AllDerived : Equation → List Equation → Type 0
AllDerived hypothesis laws =
    (k : ℕ) (e : Equation) → slice_get laws k ≡ Some e → Derives hypothesis e
