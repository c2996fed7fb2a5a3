use Rattle.std.proofs.Common.{rules, ◌≡◌, ◌<◌, ℕ, List, [], All, length, ap, sym, subst, arith, Vec, Global}
use Rattle.std.proofs.lemmas.Grind.{common_steps}
use Rattle.etp_chain.specs.Searches.{IsSpread}
use Rattle.etp_chain.proofs.Levels.{begins_searching, searches_level, level_in, ended_search}
use Rattle.etp_chain.proofs.searches.search_levels.Goals as goal

pub levels-init : goal.levels-init
levels-init c =
    begins_searching c.args.from.now.laws.items c.args.to.now.laws.items c.args.first c.args.found.now c.find.new.found c.find.new.level.items
    c.requires.first_in c.requires.none c.in_ok-find.ensures.set
    (let pushed = c.in_ok-find.ensures.pushed in rw c.new-level.ensures.items at pushed) c.new-next.result.items c.new-next.ensures.items

pub spread-requires-clause-level_in : goal.spread-requires-clause-level_in
spread-requires-clause-level_in c =
    let s = c.levels.invariant in
    let P : List ℕ → Type 0 = All (λ law. law < length c.levels.found) in
    subst P (sym c.deref.ensures.value) (level_in c.args.from.now.laws.items c.args.to.now.laws.items c.args.first c.levels.code c.levels.found c.levels.level.items [] s.spread)

pub levels-preserved : goal.levels-preserved
levels-preserved c =
    let from = c.args.from.now.laws.items in
    let to = c.args.to.now.laws.items in
    let items : Vec ℕ Global → List ℕ = λ v. v.items in
    let step = c.in_ok-spread.ensures in
    let level = c.levels.level.items in
    let is : c.deref.result.now ≡ level = c.deref.ensures.value in
    let some : 0 < length level = search rules in
    searches_level from to c.args.first c.levels.code c.levels.found c.spread.new.found level c.levels.next.items c.spread.new.next.items
    c.swap.new.x.items c.clear.new.self.items c.levels.invariant some step.grows
    (let h = step.spread c.args.first in rw is at h) (let h = step.done in rw is at h)
    (ap items c.swap.ensures.x_after) c.clear.ensures.items

pub returns : goal.returns
returns c =
    let from = c.args.from.now.laws.items in
    let to = c.args.to.now.laws.items in
    let found = c.levels.found in
    let s = c.levels.invariant in
    let none : c.levels.level.items ≡ [] = grind (arith, common_steps) in
    let P : List ℕ → Type 0 = λ xs. IsSpread from to c.args.first c.levels.code found xs [] in
    ended_search from to c.args.first c.levels.code found (subst P none s.spread)
