use Rattle.std.proofs.Common.{◌≡◌, ◌+◌, ◌++◌, flat_map, sym, ◌∙◌, ap, arith}
use Rattle.std.specs.List.{range_with_len}
use Rattle.etp_laws.specs.Enumeration.{laws_of, laws_upto}
use Rattle.etp_laws.proofs.EnumerationLemmas.{flat_map_range_more}
use Rattle.etp_laws.proofs.listing.listed_upto.Goals as goal

pub loop-ops-preserved : goal.loop-ops-preserved
loop-ops-preserved c =
    c.in_ok-append_laws_of.ensures ∙ ap (λ ls. ls ++ laws_of c.loop-ops.ops) c.loop-ops.invariant ∙ sym (flat_map_range_more laws_of c.loop-ops.ops)

pub returns : goal.returns
unfolding laws_upto
returns c =
    let whole : c.loop-ops.ops ≡ c.args.order + 1 = omega arith in
    c.loop-ops.invariant ∙ ap (λ n. flat_map laws_of (range_with_len 0 n)) whole
