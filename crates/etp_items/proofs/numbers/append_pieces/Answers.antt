use Rattle.std.proofs.Common.{◌∷◌, [], take, drop, ◌∙◌, ap, append_assoc}
use Rattle.etp_items.specs.Written.{written_numbers}
use Rattle.etp_items.proofs.NumberLemmas.{one_piece, take_min, drop_min, some_left}
use Rattle.etp_items.proofs.numbers.append_pieces.Goals as goal

pub loop-rest-preserved : goal.loop-rest-preserved
loop-rest-preserved c =
    let rest = c.loop-rest.rest.now in
    one_piece (written_numbers c.args.word.now) c.args.size rest c.split_at.result.0.now c.split_at.result.1.now c.loop-rest.text _ c.append_numbers.new.text c.args.text.now c.requires (some_left rest c.is_empty.result c.is_empty.ensures c.loop-rest-test.true)
    (c.split_at.ensures.front ∙ ap (λ n. take n rest) c.min.ensures ∙ take_min c.args.size rest)
    (c.split_at.ensures.back ∙ ap (λ n. drop n rest) c.min.ensures ∙ drop_min c.args.size rest)
    c.loop-rest.invariant
    (c.in_ok-append_numbers.ensures ∙ append_assoc c.loop-rest.text (written_numbers c.args.word.now c.split_at.result.0.now) (10 ∷ []))
