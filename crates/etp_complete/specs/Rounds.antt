-- What the program makes of two normal forms, and what a round comes to. No public clause cites it.
use Rattle.std.specs.Prelude.{ℕ, ◌≡◌, ◌+◌, ◌<◌, ◌⊎◌, List, [], ◌∷◌, ◌++◌, length}
use Rattle.etp_theory.specs.Trees.{Tree, Equation, ops}
use Rattle.etp_theory.specs.Weights.{Weight, IsDecreasing}
use Rattle.etp_theory.specs.FailingOverlaps.{two_forms, term_limit, step_limit}
use Rattle.etp_term.specs.Terms.{tree_of}
use Rattle.etp_rules.specs.Rules.{rules_of}
use Rattle.etp_rules.specs.Weighing as Weighing
use Rattle.etp_rules.specs.Deciding.{weight_in, IsInRange, IsFirstOut}
use Rattle.etp_rules.specs.declared.system.RuleSystem.{RuleSystem}
use Rattle.etp_canonical.specs.Judgements.{LawHolds}
use Rattle.etp_complete.specs.Completions.{Problem, weight_of, FailsFirst, rule_from, Orients, IsUnorientable, AreSmall, rule_limit, side_limit, ComesTo, IsComplete}
use Rattle.etp_complete.specs.Answers.{IsAnswer}
use Rattle.etp_complete.specs.declared.answer.Origin.{Origin}
use Rattle.etp_complete.specs.declared.asking.Question.{Question}
use Rattle.etp_complete.specs.declared.growing.Directed.{Directed}
use Rattle.etp_complete.specs.declared.growing.Directed.TheVariants as Direction
use Rattle.etp_complete.specs.declared.growing.Growth.{Growth}
use Rattle.etp_complete.specs.declared.growing.Growth.TheVariants.{Grown, WeightRange, Full, TooLarge, Unorientable}
use Rattle.etp_complete.specs.declared.failing.Failing.{Failing}
use Rattle.etp_complete.specs.declared.failing.Failing.TheVariants.{Nothing, Forms, TermLimit, StepLimit}
use Rattle.etp_complete.specs.declared.rounds.Round.{Round}
use Rattle.etp_complete.specs.declared.rounds.Round.TheVariants as Next

-- the problem of a question over these laws
abbrev pub problem : List Equation → Question → Problem
problem laws q = record { laws = laws; from = q.from; target = q.target; weight = q.weight }

-- the system has this weight and these rules
pub record IsSystemOf (w : Weight) (rules : List Equation) (system : RuleSystem) : Type 0 where
  pub weight_is : Weighing.weight_of system.weights ≡ w
  pub rules_are : rules_of system.rules ≡ rules

-- the rule from one term to another: the system has it too, or it isn't decreasing, or the weight
-- is out of range
abbrev pub IsDirected : Weight → List Equation → Tree → Tree → Directed → Type 0
IsDirected w rules s t (Direction.Decreasing system) =
    IsDecreasing w (rule_from s t) × IsSystemOf w (rules ++ rule_from s t ∷ []) system
IsDirected w rules s t Direction.NotDecreasing = IsInRange w × (¬ IsDecreasing w (rule_from s t))
IsDirected w rules s t (Direction.WeightRange which) = IsFirstOut w which

-- the system has one more rule, which the two forms give
pub record IsGrown (w : Weight) (rules : List Equation) (l r : Tree)
    (system : RuleSystem) : Type 0 where
  pub rule : Equation
  pub room : length rules < rule_limit
  pub small : AreSmall l r
  pub oriented : Orients w l r rule
  pub system_is : IsSystemOf w (rules ++ rule ∷ []) system

-- the forms give none
pub record GiveNone (w : Weight) (rules : List Equation) (l r : Tree) : Type 0 where
  pub in_range : IsInRange w
  pub room : length rules < rule_limit
  pub small : AreSmall l r
  pub unorientable : IsUnorientable w l r

-- one of them is too large
pub record AreLarge (rules : List Equation) (l r : Tree) : Type 0 where
  pub room : length rules < rule_limit
  pub large : (side_limit < ops l) ⊎ (side_limit < ops r)

-- what two forms come to
abbrev pub IsGrowth : Weight → List Equation → Tree → Tree → Growth → Type 0
IsGrowth w rules l r (Grown system) = IsGrown w rules l r system
IsGrowth w rules l r (WeightRange which) = IsFirstOut w which
IsGrowth w rules l r Full = length rules ≡ rule_limit
IsGrowth w rules l r TooLarge = AreLarge rules l r
IsGrowth w rules l r Unorientable = GiveNone w rules l r

-- what fails first, if anything does
abbrev pub IsFailing : Problem → List Equation → Failing → Type 0
IsFailing p rules Nothing = IsComplete p rules
IsFailing p rules (Forms origin l r) = FailsFirst p rules origin (two_forms (tree_of l) (tree_of r))
IsFailing p rules (TermLimit origin) = FailsFirst p rules origin term_limit
IsFailing p rules (StepLimit origin) = FailsFirst p rules origin step_limit

-- what fails first of each problem that has this weight and whose law doesn't fail
abbrev pub IsFailingPair : Weight → List Equation → Failing → Type 0
IsFailingPair w rules f = (p : Problem) → w ≡ weight_of p → LawHolds p.laws rules p.from
    → IsFailing p rules f

-- the weight is in range where a run ends before the weight is looked at
abbrev pub CanRange : Weight → List Equation → Tree → Tree → Type 0
CanRange w rules l r = (length rules ≡ rule_limit) ⊎ ((side_limit < ops l) ⊎ (side_limit < ops r))
    → IsInRange w

-- the run comes to the rules of the system, which has its weight
pub record IsReached (p : Problem) (system : RuleSystem) : Type 0 where
  pub weight_is : Weighing.weight_of system.weights ≡ weight_of p
  pub comes : ComesTo p (rules_of system.rules)

-- the run comes to one more rule, or ends
abbrev pub IsNext : Problem → ℕ → Round → Type 0
IsNext p count (Next.Grown system) =
    IsReached p system × (length (rules_of system.rules) ≡ count + 1)
IsNext p count (Next.Ended c) = IsAnswer p c

-- each problem that comes to the rules, and of which two such forms are found first, goes on so
abbrev pub GoesOn : List ℕ → List Equation → Origin → Tree → Tree → Round → Type 0
GoesOn weight rules origin l r round = (p : Problem) → p.weight ≡ weight → ComesTo p rules
    → FailsFirst p rules origin (two_forms l r) → CanRange (weight_in weight) rules l r
    → IsNext p (length rules) round
