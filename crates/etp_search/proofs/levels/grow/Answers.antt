use Rattle.std.proofs.Common.{◌≡◌, ◌<◌, length, subst, arith}
use Rattle.etp_term.specs.Terms.{tree_of}
use Rattle.etp_search.specs.Sets.{IsJoined}
use Rattle.etp_search.specs.Programs.{space_of}
use Rattle.etp_search.specs.Levels.{IsBeside}
use Rattle.etp_search.proofs.Standing.{get_back, grown_longer}
use Rattle.etp_search.proofs.LevelByLevel.{joined_beside, joined_none_beside, joined_early}
use Rattle.etp_search.proofs.levels.grow.Goals as goal

pub loop-at-init : goal.loop-at-init
loop-at-init c = joined_none_beside (space_of c.args.space) c.args.seen.now c.args.start

pub copy_at-requires : goal.copy_at-requires
copy_at-requires c =
    let more = grown_longer c.args.seen.now c.loop-at.seen (c.loop-at.invariant.added, c.loop-at.invariant.behind) in
    let less = c.loop-at-test.true in
    let stop = c.len-stop.ensures.count in
    omega (arith, more, less, stop)

pub add_neighbours-requires-clause-term : goal.add_neighbours-requires-clause-term
add_neighbours-requires-clause-term c =
    let less : c.loop-at.at < length c.args.seen.now = (let l = c.loop-at-test.true in let stop = c.len-stop.ensures.count in omega (arith, l, stop)) in
    c.requires.terms (tree_of c.in_ok-term.term)
    (record { place = c.loop-at.at; from = omega arith; before = less; stands = get_back c.args.seen.now c.loop-at.seen c.loop-at.at (tree_of c.in_ok-term.term) (c.loop-at.invariant.added, c.loop-at.invariant.behind) less c.in_ok-term.ensures })

pub loop-at-preserved : goal.loop-at-preserved
loop-at-preserved c =
    let less : c.loop-at.at < length c.args.seen.now = (let l = c.loop-at-test.true in let stop = c.len-stop.ensures.count in omega (arith, l, stop)) in
    joined_beside (space_of c.args.space) c.args.seen.now c.loop-at.seen c.add_neighbours.new.found c.args.start c.loop-at.at (tree_of c.in_ok-term.term) c.loop-at.auto.at
    (get_back c.args.seen.now c.loop-at.seen c.loop-at.at (tree_of c.in_ok-term.term) (c.loop-at.invariant.added, c.loop-at.invariant.behind) less c.in_ok-term.ensures)
    c.loop-at.invariant c.in_ok-add_neighbours.ensures

pub returns-then-len-gt-MOST : goal.returns-then-len-gt-MOST
returns-then-len-gt-MOST c =
    let less = c.loop-at-test.true in
    let stop = c.len-stop.ensures.count in
    let many = c.if-len-gt-MOST.true in
    let count = c.len.ensures.count in
    joined_early (space_of c.args.space) c.args.seen.now c.loop-at.seen c.args.start c.loop-at.at (length c.args.seen.now) (omega (arith, less, stop)) (omega (arith, many, count)) c.loop-at.invariant

pub returns : goal.returns
returns c =
    let at_end : c.loop-at.at ≡ length c.args.seen.now = (let stop = c.len-stop.ensures.count in let a = c.loop-at-test.false in let order = c.requires.order in let b = c.loop-at.auto.at-end (omega (arith, stop, order)) in omega (arith, a, b, stop)) in
    subst (λ n. IsJoined (IsBeside (space_of c.args.space) c.args.seen.now c.args.start n) 200000 c.args.seen.now c.loop-at.seen) at_end c.loop-at.invariant
