-- What the words that ask for a completion write.
use Rattle.std.specs.Prelude.{◌≡◌, ℕ, List, [], ◌∷◌}
use Rattle.etp_theory.specs.Trees.{Equation}
use Rattle.etp_theory.specs.RightFacts.{Implies, Refutes}
use Rattle.etp_laws.specs.Listing.{IsTheList}
use Rattle.etp_items.specs.Bodies.{body_of}
use Rattle.etp_items.specs.declared.body.Body.TheVariants as Bodies
use Rattle.etp_check.specs.Checks.{IsValidBody}
use Rattle.etp_complete.specs.Completions.{Problem}
use Rattle.etp_complete.specs.Answers.{IsAnswer}
use Rattle.etp_complete.specs.Derived.{HasDerivedRules, IfDone, IfJoined}
use Rattle.etp_complete.specs.declared.answer.Completed.{Completed}
use Rattle.etp_completing.specs.CompletionTexts.{completed_text}

-- law `law` completed under the weight, with a target, over the laws of order 4
abbrev pub problem_of : List Equation → ℕ → ℕ → ℕ → ℕ → ℕ → Problem
problem_of laws law target a b c =
    record { laws = laws; from = law; target = target; weight = a ∷ b ∷ c ∷ [] }

-- What the completion comes to. Where rules are found, they are a valid body, and the target isn't
-- derived from the law; where the target's sides are joined, it is. All rules are derived from the law.
pub record IsCompletionOf (law target a b c : ℕ) (text : List ℕ) : Type 0 where
  pub laws : List Equation
  pub the_list : IsTheList 4 laws
  pub completed : Completed
  pub answer : IsAnswer (problem_of laws law target a b c) completed
  pub valid : IfDone completed (λ body. IsValidBody laws (body_of (Bodies.Rules body)) [])
  pub apart : IfDone completed (λ _. Refutes laws law target)
  pub joined : IfJoined completed (Implies laws law target)
  pub derived : HasDerivedRules laws law completed
  pub text_is : text ≡ completed_text target completed
