use Rattle.std.proofs.Common.{◌≡◌, map, ap, sym, ◌∙◌, arith}
use Rattle.etp_laws.specs.Shapes.{sides_from}
use Rattle.etp_laws.specs.Enumeration.{words, pairs_from, shapes}
use Rattle.etp_laws.proofs.ShapeLemmas.{leaves_at}
use Rattle.etp_laws.proofs.listing.append_laws_of.Goals as goal

pub append_laws_at-requires-clause-short : goal.append_laws_at-requires-clause-short
append_laws_at-requires-clause-short c =
    let all : map sides_from c.as_slice-sides-items.result.now ≡ pairs_from shapes c.args.ops = ap (map sides_from) c.as_slice-sides-items.ensures ∙ c.in_ok-pairs.ensures in
    let e = leaves_at c.as_slice-sides-items.result.now c.args.ops c.loop-sides.sides-index c.sides-item.result all c.loop-sides-test.true c.sides-item.is in
    let small = c.requires in
    omega arith

pub append_laws_at-requires-clause-words : goal.append_laws_at-requires-clause-words
append_laws_at-requires-clause-words c =
    let all : map sides_from c.as_slice-sides-items.result.now ≡ pairs_from shapes c.args.ops = ap (map sides_from) c.as_slice-sides-items.ensures ∙ c.in_ok-pairs.ensures in
    let e = leaves_at c.as_slice-sides-items.result.now c.args.ops c.loop-sides.sides-index c.sides-item.result all c.loop-sides-test.true c.sides-item.is in
    c.as_slice.ensures ∙ c.in_ok-words.ensures ∙ ap (λ n. words n 0) (sym e)
