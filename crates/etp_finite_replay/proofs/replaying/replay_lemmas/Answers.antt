use Rattle.std.proofs.Common.{◌≡◌, [], ◌∷◌, map, Err, ap, ◌∙◌, arith, length, length-append, rules}
use Rattle.etp_term.specs.Laws.{equation_of}
use Rattle.etp_finite_replay.proofs.Growing.{lemmas_more, found_more, wrong_or_memory}
use Rattle.etp_finite_replay.proofs.replaying.replay_lemmas.Goals as goal

pub loop-at-preserved : goal.loop-at-preserved
loop-at-preserved c =
    let h = equation_of c.args.hypothesis.now in
    let known = ap (map equation_of) c.as_slice.ensures.value ∙ c.loop-at.invariant.found in
    record {
      right = lemmas_more h c.args.lemmas.now c.loop-at.at c.index-lemmas-at.result c.loop-at-test.true c.index-lemmas-at.is (map equation_of c.as_slice.result.now) known c.loop-at.invariant.right c.in_ok-replay.ensures.ok;
      found = found_more h c.args.lemmas.now c.loop-at.at c.index-lemmas-at.result c.loop-at-test.true c.index-lemmas-at.is c.loop-at.earlier.items c.append.new.laws.items c.in_ok-law.law c.in_ok-append.ensures c.loop-at.invariant.found c.in_ok-law.ensures;
      long = omega (arith, ap length c.in_ok-append.ensures, length-append c.loop-at.earlier.items (c.in_ok-law.law ∷ []), c.loop-at.invariant.long);
    }

pub returns-in_err-replay-clause-err : goal.returns-in_err-replay-clause-err
returns-in_err-replay-clause-err c =
    let k : c.from_residual-in_err-replay.result ≡ Err c.in_err-replay.field-0.0 = search rules in
    let h = equation_of c.args.hypothesis.now in
    let known = ap (map equation_of) c.as_slice.ensures.value ∙ c.loop-at.invariant.found in
    rw k (wrong_or_memory h c.args.lemmas.now c.loop-at.at c.index-lemmas-at.result c.loop-at-test.true c.index-lemmas-at.is (map equation_of c.as_slice.result.now) c.in_err-replay.field-0.0 known c.loop-at.invariant.right c.in_err-replay.ensures.err)
