-- What the answers of a completion say of derivations.
use Rattle.std.specs.Prelude.{ℕ, ◌≡◌, ◌≤◌, List, [], Some, length, slice_get}
use Rattle.etp_theory.specs.Trees.{Equation}
use Rattle.etp_theory.specs.Derivations.{Derives}
use Rattle.etp_theory.specs.LawNumbers.{law_numbered}
use Rattle.etp_theory.specs.Overlaps.{IsConvergent}
use Rattle.etp_rules.specs.Rules.{rules_of}
use Rattle.etp_rules.specs.Deciding.{IsInRange, AreAllowed}
use Rattle.etp_canonical.specs.Judgements.{IsJudged}
use Rattle.etp_items.specs.Bodies as Bodies
use Rattle.etp_items.specs.declared.body.RulesBody.{RulesBody}
use Rattle.etp_complete.specs.declared.answer.Completed.{Completed}
use Rattle.etp_complete.specs.declared.answer.Completed.TheVariants.{Done, Joined, WeightRange, Unorientable, SideTooLarge, TermLimit, StepLimit, Budget}

-- both sides of each rule are concluded by a derivation from the law
abbrev pub AreDerived : Equation → List Equation → Type 0
AreDerived law rules = (i : ℕ) (e : Equation) → slice_get rules i ≡ Some e → Derives law e

-- the rules that an answer has
abbrev pub rules_in : Completed → List Equation
rules_in (Done body) = rules_of body.rules
rules_in (Joined given form) = rules_of given
rules_in (WeightRange which) = []
rules_in (Unorientable origin l r) = []
rules_in (SideTooLarge origin l r) = []
rules_in (TermLimit origin) = []
rules_in (StepLimit origin) = []
rules_in (Budget origin) = []

-- those of an answer are derived from law n
abbrev pub HasDerivedRules : List Equation → ℕ → Completed → Type 0
HasDerivedRules laws n c =
    (law : Equation) → law_numbered laws n ≡ Some law → AreDerived law (rules_in c)

-- a body of 1 to 64 rules with a weight in range, sides within the limit and one normal form for
-- both results of every overlap, where each law that is to hold does so and each one that is to
-- fail doesn't
pub record IsValidSystem (laws : List Equation) (body : RulesBody) : Type 0 where
  pub some : 1 ≤ length body.rules
  pub few : length body.rules ≤ 64
  pub in_range : IsInRange (Bodies.weight_of body)
  pub allowed : AreAllowed (Bodies.weight_of body) (rules_of body.rules)
  pub convergent : IsConvergent (Bodies.weight_of body) (rules_of body.rules)
  pub judged : IsJudged laws (rules_of body.rules) body.claims.holds body.claims.fails

-- where the answer is Done
abbrev pub IfDone : Completed → (RulesBody → Type 0) → Type 0
IfDone (Done body) P = P body
IfDone (Joined given form) P = Unit {0}
IfDone (WeightRange which) P = Unit {0}
IfDone (Unorientable origin l r) P = Unit {0}
IfDone (SideTooLarge origin l r) P = Unit {0}
IfDone (TermLimit origin) P = Unit {0}
IfDone (StepLimit origin) P = Unit {0}
IfDone (Budget origin) P = Unit {0}

-- where it is Joined
abbrev pub IfJoined : Completed → Type 0 → Type 0
IfJoined (Done body) P = Unit {0}
IfJoined (Joined given form) P = P
IfJoined (WeightRange which) P = Unit {0}
IfJoined (Unorientable origin l r) P = Unit {0}
IfJoined (SideTooLarge origin l r) P = Unit {0}
IfJoined (TermLimit origin) P = Unit {0}
IfJoined (StepLimit origin) P = Unit {0}
IfJoined (Budget origin) P = Unit {0}
