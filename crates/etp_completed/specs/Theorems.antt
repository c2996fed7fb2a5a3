-- A completion has one answer.
use Rattle.std.specs.Prelude.{◌≡◌, ◌≤◌, List, Some, length}
use Rattle.etp_theory.specs.Trees.{Equation}
use Rattle.etp_theory.specs.LawNumbers.{law_numbered}
use Rattle.etp_rules.specs.Deciding.{IsInRange}
use Rattle.etp_complete.specs.Completions.{Problem, weight_of, ComesTo}
use Rattle.etp_complete.specs.Answers.{EndsWith, IsAnswer}
use Rattle.etp_complete.specs.Derived.{AreDerived}
use Rattle.etp_complete.specs.declared.answer.Completed.{Completed}

pub record CompletionTheorems : Type 0 where
  -- a problem has one answer, so each answer is given exactly where the run ends so
  pub one_answer : (p : Problem) (a b : Completed) → IsAnswer p a → IsAnswer p b → a ≡ b
  -- there is one list of rules to which rounds come and at which a run ends
  pub one_end : (p : Problem) (rules others : List Equation) (a b : Completed)
      → IsInRange (weight_of p) → ComesTo p rules → ComesTo p others
      → EndsWith p rules a → EndsWith p others b → rules ≡ others
  -- all rules of a run are derived from its law, also where it stops
  pub derived : (p : Problem) (law : Equation) (rules : List Equation)
      → law_numbered p.laws p.from ≡ Some law → ComesTo p rules → AreDerived law rules
  -- and they are 64 at most
  pub few : (p : Problem) (rules : List Equation) → ComesTo p rules → length rules ≤ 64
