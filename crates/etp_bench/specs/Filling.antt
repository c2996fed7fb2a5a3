-- What is known of a closure that is to be filled, and of the facts drawn for it.
use Rattle.std.specs.Prelude.{ℕ, zero, suc, ◌+◌, Bool, length}
use Rattle.etp_theory.specs.Reach.{Fact, implies}
use Rattle.etp_bits.specs.Counts.{count_below}
use Rattle.etp_theory.specs.LawNumbers.{IsLaw}
use Rattle.etp_closure.specs.Closures.{Known, IsKept}
use Rattle.etp_bench.specs.declared.draws.Implication.{Implication}

-- every law is kept
abbrev pub IsFull : Known → Type 0
IsFull known = (law : ℕ) → IsLaw (length known.duals) law → IsKept known.slots law

-- both are among the laws 1 to n
abbrev pub IsBetweenLaws : ℕ → Implication → Type 0
IsBetweenLaws laws implication = IsLaw laws implication.hypothesis × IsLaw laws implication.goal

-- the fact that an implication says
abbrev pub fact_of : Implication → Fact
fact_of implication = implies implication.hypothesis implication.goal

-- how many pairs of the laws 1 to `laws` pass the test, those with a law from 1 to the last argument as the first
abbrev pub count_pairs : (ℕ → ℕ → Bool) → ℕ → ℕ → ℕ
count_pairs test laws zero = 0
count_pairs test laws (suc place) = count_pairs test laws place + count_below (λ other. test (place + 1) (other + 1)) laws
