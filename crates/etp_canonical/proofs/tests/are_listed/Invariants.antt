use Rattle.std.proofs.Common.{take}
use Rattle.std.specs.Prelude.{All, IsSome}
use Rattle.etp_theory.specs.LawNumbers.{law_numbered}
use Rattle.etp_canonical.proofs.tests.are_listed.Given as goal

abbrev pub invariant-loop-number : goal.invariant-loop-number
invariant-loop-number l = All (λ n. IsSome (law_numbered l.laws.equations n)) (take l.number-index l.numbers)
