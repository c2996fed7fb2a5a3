-- Where a completion finds rules, they are a valid body.
use Rattle.std.proofs.Common.{List, []}
use Rattle.etp_theory.specs.Trees.{Equation}
use Rattle.etp_items.specs.Bodies.{body_of}
use Rattle.etp_items.specs.declared.body.Body.TheVariants as Bodies
use Rattle.etp_check.specs.Checks.{IsValidBody}
use Rattle.etp_complete.specs.Derived.{IsValidSystem, IfDone}
use Rattle.etp_complete.specs.declared.answer.Completed.{Completed}
use Rattle.etp_complete.specs.declared.answer.Completed.TheVariants.{Done, Joined, WeightRange, Unorientable, SideTooLarge, TermLimit, StepLimit, Budget}
use Rattle.etp_completed.proofs.Accepting.{valid}

pub done_valid : (laws : List Equation) (c : Completed) → IfDone c (IsValidSystem laws)
    → IfDone c (λ body. IsValidBody laws (body_of (Bodies.Rules body)) [])
done_valid laws (Done body) h = valid laws body h
done_valid laws (Joined given form) h = tt
done_valid laws (WeightRange which) h = tt
done_valid laws (Unorientable origin l r) h = tt
done_valid laws (SideTooLarge origin l r) h = tt
done_valid laws (TermLimit origin) h = tt
done_valid laws (StepLimit origin) h = tt
done_valid laws (Budget origin) h = tt
