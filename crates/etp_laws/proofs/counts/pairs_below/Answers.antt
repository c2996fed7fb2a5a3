use Rattle.std.proofs.Common.{◌+◌, ◌*◌, sym, ◌∙◌, arith}
use Rattle.etp_laws.proofs.CountLemmas.{products, pairs_below-more}
use Rattle.etp_laws.proofs.counts.pairs_below.Goals as goal

pub overflow_add-pairs : goal.overflow_add-pairs
overflow_add-pairs c =
    let p = products c.shapes_of.result c.shapes_of-in-loop-i.result c.shapes_of.ensures.small c.shapes_of-in-loop-i.ensures.small in
    let s = c.loop-i.invariant.small in
    let a = c.requires.within in
    let b = c.requires.small in
    omega arith

pub loop-i-preserved : goal.loop-i-preserved
loop-i-preserved c =
    let p = products c.shapes_of.result c.shapes_of-in-loop-i.result c.shapes_of.ensures.small c.shapes_of-in-loop-i.ensures.small in
    let s = c.loop-i.invariant.small in
    record {
      value = (λ i. c.loop-i.invariant.value i + c.shapes_of.ensures.value i * c.shapes_of-in-loop-i.ensures.value i) ∙ sym (pairs_below-more c.args.ops c.loop-i.i);
      small = omega arith;
    }
