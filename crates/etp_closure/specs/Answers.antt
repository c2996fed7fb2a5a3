-- The answer of a closure, and what it says.
use Rattle.std.specs.Prelude.{ℕ, List, if◌then◌else◌}
use Rattle.etp_theory.specs.Reach.{Fact, Reach, Covers}
use Rattle.etp_closure.specs.declared.facts.Answer.{Answer}
use Rattle.etp_closure.specs.declared.facts.Answer.TheVariants.{Implied, Refuted, Unsettled}
use Rattle.etp_closure.specs.Closures.{Known, is_reached, is_covered}

-- implied where the pair is reached, else refuted where it is covered, else open
abbrev pub answer_of : Known → ℕ → ℕ → Answer
answer_of known e f = if is_reached known e f then Implied else (if is_covered known e f then Refuted else Unsettled)

-- what the answer says of the pair, by a list of facts
abbrev pub Says : List ℕ → List Fact → ℕ → ℕ → Answer → Type 0
Says duals facts e f Implied = Reach duals facts e f
Says duals facts e f Refuted = ¬ Reach duals facts e f × Covers duals facts e f
Says duals facts e f Unsettled = ¬ Reach duals facts e f × ¬ Covers duals facts e f
