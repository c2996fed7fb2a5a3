-- How a completion ends.
use Rattle.std.specs.Prelude.{ℕ, ◌≡◌, ◌<◌, ◌⊎◌, List, [], ◌∷◌, length}
use Rattle.etp_theory.specs.Trees.{Tree, Equation, ops}
use Rattle.etp_theory.specs.FailingOverlaps.{Finding, two_forms, term_limit, step_limit}
use Rattle.etp_term.specs.Terms.{tree_of}
use Rattle.etp_rules.specs.Rules.{rules_of}
use Rattle.etp_rules.specs.Deciding.{IsInRange, IsFirstOut}
use Rattle.etp_canonical.specs.Judgements.{LawFails, IsFoundOf, IsFormOfBoth}
use Rattle.etp_items.specs.declared.body.RulesBody.{RulesBody}
use Rattle.etp_complete.specs.Completions.{Problem, weight_of, FailsFirst, IsUnorientable, AreSmall, rule_limit, side_limit, ComesTo, IsComplete}
use Rattle.etp_complete.specs.declared.answer.Origin.{Origin}
use Rattle.etp_complete.specs.declared.answer.Origin.TheVariants.{Law}
use Rattle.etp_complete.specs.declared.answer.Completed.{Completed}
use Rattle.etp_complete.specs.declared.answer.Completed.TheVariants.{Done, Joined, WeightRange, Unorientable, SideTooLarge, TermLimit, StepLimit, Budget}

-- the body says the weight and the rules, that law `from` holds, and that law `target` fails
pub record IsBodyOf (p : Problem) (rules : List Equation) (body : RulesBody) : Type 0 where
  pub weight : body.weight ≡ p.weight
  pub rules_are : rules_of body.rules ≡ rules
  pub holds : body.claims.holds ≡ p.from ∷ []
  pub fails : body.claims.fails ≡ p.target ∷ []

-- nothing fails, and the sides of law `target` have two different normal forms
pub record IsDone (p : Problem) (rules : List Equation) (body : RulesBody) : Type 0 where
  pub complete : IsComplete p rules
  pub apart : LawFails p.laws rules p.target
  pub body_is : IsBodyOf p rules body

-- nothing fails, and the sides of law `target` have this normal form
pub record IsJoined (p : Problem) (rules given : List Equation) (form : Tree) : Type 0 where
  pub complete : IsComplete p rules
  pub one : IsFormOfBoth p.laws rules p.target form
  pub rules_are : given ≡ rules

-- of the first thing that fails this limit is found, or nothing fails and it is found of law
-- `target`
pub data PassesLimit (p : Problem) (rules : List Equation) (f : Finding)
    (origin : Origin) : Type 0 where
  on_the_way : FailsFirst p rules origin f → PassesLimit p rules f origin
  in_the_end : origin ≡ Law p.target → IsComplete p rules → IsFoundOf p.laws rules p.target f
      → PassesLimit p rules f origin

-- the first thing that fails has two normal forms where there are as many rules as there may be
pub record IsFull (p : Problem) (rules : List Equation) (origin : Origin) : Type 0 where
  pub left : Tree
  pub right : Tree
  pub fails : FailsFirst p rules origin (two_forms left right)
  pub full : length rules ≡ rule_limit

-- one of its two normal forms is too large for a rule
pub record IsTooLarge (p : Problem) (rules : List Equation) (origin : Origin)
    (l r : Tree) : Type 0 where
  pub fails : FailsFirst p rules origin (two_forms l r)
  pub room : length rules < rule_limit
  pub large : (side_limit < ops l) ⊎ (side_limit < ops r)

-- they give no rule
pub record IsStuck (p : Problem) (rules : List Equation) (origin : Origin)
    (l r : Tree) : Type 0 where
  pub fails : FailsFirst p rules origin (two_forms l r)
  pub room : length rules < rule_limit
  pub small : AreSmall l r
  pub unorientable : IsUnorientable (weight_of p) l r

-- a run ends so at these rules
abbrev pub EndsWith : Problem → List Equation → Completed → Type 0
EndsWith p rules (Done body) = IsDone p rules body
EndsWith p rules (Joined given form) = IsJoined p rules (rules_of given) (tree_of form)
EndsWith p rules (WeightRange which) = ⊥
EndsWith p rules (Unorientable origin l r) = IsStuck p rules origin (tree_of l) (tree_of r)
EndsWith p rules (SideTooLarge origin l r) = IsTooLarge p rules origin (tree_of l) (tree_of r)
EndsWith p rules (TermLimit origin) = PassesLimit p rules term_limit origin
EndsWith p rules (StepLimit origin) = PassesLimit p rules step_limit origin
EndsWith p rules (Budget origin) = IsFull p rules origin

-- with a weight in range a run comes to rules and ends there
pub record IsRun (p : Problem) (c : Completed) : Type 0 where
  pub in_range : IsInRange (weight_of p)
  pub rules : List Equation
  pub comes : ComesTo p rules
  pub ends : EndsWith p rules c

-- the first of the three numbers that is out of range, or how the run ends
pub data IsAnswer (p : Problem) (c : Completed) : Type 0 where
  out_of_range : (which : ℕ) → c ≡ WeightRange which → IsFirstOut (weight_of p) which → IsAnswer p c
  by_run : IsRun p c → IsAnswer p c
