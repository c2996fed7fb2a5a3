use Rattle.std.proofs.Common.{◌≡◌, Err, rules}
use Rattle.etp_term.specs.Laws.{equation_of}
use Rattle.etp_replay.specs.Lines.{cites_of}
use Rattle.etp_replay.proofs.Growing.{lemmas_more, first_wrong}
use Rattle.etp_replay.proofs.replaying.replay_lemmas.Goals as goal

pub loop-at-preserved : goal.loop-at-preserved
loop-at-preserved c =
    lemmas_more (equation_of c.args.hypothesis.now) (cites_of c.args.cites.now) c.args.lemmas.now c.loop-at.at c.index-lemmas-at.result c.loop-at-test.true c.index-lemmas-at.is c.loop-at.invariant c.in_ok-replay_lemma.ensures.ok

pub returns-in_err-replay_lemma-clause-err : goal.returns-in_err-replay_lemma-clause-err
returns-in_err-replay_lemma-clause-err c =
    let k : c.from_residual.result ≡ Err c.in_err-replay_lemma.field-0.0 = search rules in
    rw k (first_wrong (equation_of c.args.hypothesis.now) (cites_of c.args.cites.now) c.args.lemmas.now c.loop-at.at c.index-lemmas-at.result c.in_err-replay_lemma.field-0.0 c.loop-at-test.true c.index-lemmas-at.is c.loop-at.invariant c.in_err-replay_lemma.ensures.err)
