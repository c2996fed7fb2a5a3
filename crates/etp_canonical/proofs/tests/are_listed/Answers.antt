use Rattle.std.proofs.Common.{ap, sym}
use Rattle.std.specs.Prelude.{IsSome, is_some}
use Rattle.std.proofs.lemmas.List.Elements.{All-more}
use Rattle.etp_theory.specs.LawNumbers.{law_numbered}
use Rattle.etp_canonical.proofs.tests.are_listed.Goals as goal

pub loop-number-preserved : goal.loop-number-preserved
loop-number-preserved c = All-more (λ n. IsSome (law_numbered c.args.laws.now.equations n)) c.args.numbers.now c.loop-number.number-index 0 c.loop-number-test.true c.loop-number.invariant (ap is_some (sym c.in-Some.ensures.entry))
