use Rattle.std.proofs.Common.{◌+◌, ◌-◌, ◌*◌, ◌++◌, ◌∷◌, [], length, length-append, ◌∙◌, ap, arith}
use Rattle.etp_laws.specs.Places.{unrank}
use Rattle.etp_laws.proofs.WordRanks.{next_letter, last_letter}
use Rattle.etp_laws.proofs.places.word_at.Goals as goal

pub loop-i-preserved : goal.loop-i-preserved
loop-i-preserved c =
    let next = next_letter c.loop-i.word c.args.leaves c.loop-i.i c.loop-i.rest c.args.place c.words_of-count.result c.min-v.result c.loop-i.used c.used_after-used.result c.loop-i-test.true c.loop-i.invariant.word c.loop-i.invariant.within c.words_of-count.ensures.value c.min-v.ensures c.used_after-used.ensures.value in
    let few = c.loop-i.invariant.few in
    let more = c.used_after-used.ensures.more in
    record {
      word = ap (λ w. w ++ unrank (c.args.leaves - (c.loop-i.i + 1)) c.used_after-used.result (c.loop-i.rest - c.min-v.result * c.words_of-count.result)) c.push.ensures ∙ next.word;
      long = ap length c.push.ensures ∙ length-append c.loop-i.word (c.min-v.result ∷ []) ∙ ap (λ n. n + 1) c.loop-i.invariant.long;
      few = omega arith;
      within = next.within;
    }

pub returns-clause-value : goal.returns-clause-value
returns-clause-value c = last_letter c.loop-i.word c.args.leaves c.loop-i.i c.loop-i.used c.loop-i.rest c.args.place c.loop-i-test.false c.loop-i.invariant.word c.requires.within
