-- How many pairs of laws have an answer.
use Rattle.std.specs.Prelude.{ℕ, zero, suc, ◌+◌, Bool, true, false, length, if◌then◌else◌}
use Rattle.etp_closure.specs.Closures.{Known}
use Rattle.etp_closure.specs.Answers.{answer_of}
use Rattle.etp_closure.specs.declared.facts.Answer.{Answer}
use Rattle.etp_closure.specs.declared.facts.Answer.TheVariants.{Implied, Refuted, Unsettled}

-- both answers are the same
abbrev pub is_same : Answer → Answer → Bool
is_same Implied Implied = true
is_same Refuted Refuted = true
is_same Unsettled Unsettled = true
is_same _ _ = false

-- how many of the numbers below a bound pass a test
abbrev pub how_many : (ℕ → Bool) → ℕ → ℕ
how_many passes zero = 0
how_many passes (suc n) = how_many passes n + (if passes n then 1 else 0)

-- the sum of the values at the numbers below a bound
abbrev pub sum_below : (ℕ → ℕ) → ℕ → ℕ
sum_below values zero = 0
sum_below values (suc n) = sum_below values n + values n

-- how many laws have the answer as the second of a pair with law e
abbrev pub laws_answered : Known → Answer → ℕ → ℕ
laws_answered known answer e =
    how_many (λ place. is_same (answer_of known e (place + 1)) answer) (length known.duals)

-- how many of all ordered pairs of laws have the answer
unfoldable pub pairs_answered : Known → Answer → ℕ
pairs_answered known answer = sum_below (λ place. laws_answered known answer (place + 1)) (length known.duals)
