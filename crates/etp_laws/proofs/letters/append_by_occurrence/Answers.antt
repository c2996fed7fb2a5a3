use Rattle.std.proofs.Common.{◌∷◌, [], get_or, arith, refl, length-append}
use Rattle.etp_laws.proofs.LetterLemmas.{by_occurrence_more, seen_more, length-seen_after}
use Rattle.etp_laws.proofs.letters.append_by_occurrence.Goals as goal

pub loop-v-preserved : goal.loop-v-preserved
loop-v-preserved c =
    let w = c.args.word.now in
    let i = c.loop-v.v-index in
    let v = get_or w i 0 in
    let more = by_occurrence_more c.loop-v.numbers c.loop-v.seen w i v c.loop-v-test.true refl in
    let seen = seen_more c.loop-v.seen w i v c.loop-v-test.true refl in
    let longer = length-seen_after c.loop-v.seen v in
    let place = c.note-place.ensures.place in
    let after = c.note-place.ensures.after in
    let push = c.push.ensures in
    let numbers = c.loop-v.invariant.numbers in
    let rest = c.loop-v.invariant.after in
    let a = c.loop-v.invariant.seen_short in
    let b = c.loop-v.invariant.short in
    record {
      numbers = cc;
      after = cc;
      seen_short = rw after (omega arith);
      short = rw push (omega (arith, length-append c.loop-v.numbers (c.note-place.result ∷ [])));
    }
