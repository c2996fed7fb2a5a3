use Rattle.std.proofs.Common.{◌+◌, All, Contains, subst, sym, arith}
use Rattle.std.proofs.lemmas.List.Elements.{All-push}
use Rattle.etp_theory.specs.LawNumbers.{IsLaw}
use Rattle.etp_bench.proofs.Everywhere.{one_more}
use Rattle.etp_bench.proofs.filling.every_law.Goals as goal

pub loop-place-preserved : goal.loop-place-preserved
loop-place-preserved c =
    let place = c.loop-place.place in
    let before = c.loop-place.every.items in
    let pushed = sym c.in_ok-push.ensures.items in
    let inside : IsLaw c.args.count (place + 1) = record { from_one = omega arith; to_last = omega (arith, c.loop-place-test.true) } in
    record {
      within = subst (All (IsLaw c.args.count)) pushed (All-push (IsLaw c.args.count) before (place + 1) c.loop-place.invariant.within inside);
      all = λ law below. subst (λ laws. Contains laws law) pushed (one_more place before c.loop-place.invariant.all law below);
    }
