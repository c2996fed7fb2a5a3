use Rattle.std.proofs.Common.{◌≡◌, List, ◌++◌, ◌-◌, map, flat_map, ap, ◌∙◌, sym}
use Rattle.etp_theory.specs.Trees.{Shape}
use Rattle.etp_laws.specs.Shapes.{shape_from}
use Rattle.etp_laws.specs.Enumeration.{shapes}
use Rattle.etp_laws.proofs.EnumerationLemmas.{flat_map_range_more, joined_pairs_before}
use Rattle.etp_laws.proofs.shapes.+shapes.Goals as goal

pub pairs-loop-i-preserved : goal.pairs-loop-i-preserved
pairs-loop-i-preserved t c =
    let more = flat_map_range_more {Y = Shape × Shape} (λ i. flat_map (λ a. map (λ b. (a, b)) (shapes (c.args.ops - i))) (shapes i)) c.loop-i.i in
    let all : List Shape → List Shape → List (Shape × Shape) = λ rs ls. flat_map (λ a. map (λ b. (a, b)) rs) ls in
    let lefts : map shape_from c.as_slice.result.now ≡ shapes c.loop-i.i = ap (map shape_from) c.as_slice.ensures ∙ c.in_ok-lefts.ensures in
    let rights : map shape_from c.as_slice-in-loop-i.result.now ≡ shapes (c.args.ops - c.loop-i.i) = ap (map shape_from) c.as_slice-in-loop-i.ensures ∙ c.in_ok-rights.ensures in
    c.in_ok-append_pairs.ensures ∙ (λ i. c.loop-i.invariant i ++ all (rights i) (lefts i)) ∙ sym more

pub shapes-returns : goal.shapes-returns
shapes-returns t c =
    let e = joined_pairs_before c.args.ops c.if-ops-eq0.false in
    let a = c.in_ok-shapes.ensures in
    let b = c.in_ok-pairs.ensures in
    let d = c.as_slice.ensures in
    cc
