use Rattle.std.proofs.Common.{◌≡◌, length, arith}
use Rattle.etp_items.proofs.WrittenLemmas.{citing_is}
use Rattle.etp_items.proofs.proof.writing.is_citing.Goals as goal

pub returns : goal.returns
returns c =
    let none : length c.args.proof.now.cites ≡ 0 = omega arith in
    citing_is c.args.proof.now.cites c.as_slice.result.now c.args.proof.now.lemmas c.any_by_cite.result none c.as_slice.ensures.value c.any_by_cite.ensures
