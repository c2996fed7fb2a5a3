-- What shows the answer to a pair of laws.
use Rattle.std.specs.Prelude.{ℕ, List}
use Rattle.etp_theory.specs.Reach.{Fact}
use Rattle.etp_closure.specs.declared.facts.Answer.{Answer}
use Rattle.etp_closure.specs.declared.facts.Answer.TheVariants as Answers
use Rattle.etp_chain.specs.Evidence.{IsPath, IsCover}
use Rattle.etp_ledger.specs.declared.why.Why.{Why}
use Rattle.etp_ledger.specs.declared.why.Why.TheVariants.{Implied, Refuted, Unsettled}

-- the answer that it shows
abbrev pub answer_shown : Why → Answer
answer_shown (Implied path) = Answers.Implied
answer_shown (Refuted cover) = Answers.Refuted
answer_shown Unsettled = Answers.Unsettled

-- a shortest path leads from the first law to the second, or the first refuting pair covers them;
-- nothing shows that a pair is open
abbrev pub IsEvidence : List ℕ → List Fact → ℕ → ℕ → Why → Type 0
IsEvidence duals facts e f (Implied path) = IsPath duals facts f e path
IsEvidence duals facts e f (Refuted cover) = IsCover duals facts e f cover
IsEvidence duals facts e f Unsettled = Unit {0}
