use Rattle.std.proofs.Common.{get_or, refl, ap, ◌++◌, ◌∙◌, decimal}
use Rattle.etp_print.proofs.Commas.{one_more}
use Rattle.etp_print.proofs.matrix.append_behind_commas.Goals as goal

pub loop-number-preserved : goal.loop-number-preserved
loop-number-preserved c =
    one_more c.args.numbers.now c.loop-number.number-index (get_or c.args.numbers.now c.loop-number.number-index 0) c.args.text.now c.loop-number.text c.append.new.self c.append_number.new.self c.loop-number-test.true refl c.loop-number.invariant c.in_ok-append.ensures.ok
    (c.in_ok-append_number.ensures.ok ∙ ap (λ n. c.append.new.self ++ decimal n) c.from.ensures)
