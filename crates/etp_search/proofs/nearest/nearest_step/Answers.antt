use Rattle.std.proofs.Common.{sym, subst, arith}
use Rattle.std.specs.Option.{option_copied, option_map}
use Rattle.etp_term.specs.Terms.{tree_of}
use Rattle.etp_search.specs.Spaces.{AreNeighbours}
use Rattle.etp_search.specs.Programs.{space_of}
use Rattle.etp_search.specs.Levels.{IsLeastOf, IsLeastIn}
use Rattle.etp_search.proofs.nearest.nearest_step.Goals as goal

pub returns-in-None : goal.returns-in-None
returns-in-None c = subst (λ o. IsLeastIn (AreNeighbours (space_of c.args.space) (tree_of c.args.from.now)) c.args.seen.now c.args.start c.args.stop (option_map tree_of (option_copied o))) c.in-None.is c.in_ok-nearest.ensures

pub step_to-requires : goal.step_to-requires
step_to-requires c =
    let near = subst (λ o. IsLeastIn (AreNeighbours (space_of c.args.space) (tree_of c.args.from.now)) c.args.seen.now c.args.start c.args.stop (option_map tree_of (option_copied o))) c.in-Some.is c.in_ok-nearest.ensures in
    let n = near.has.from.narrow in
    let k = c.requires.space.few_leaves in
    record { step = near.has.step; narrow = omega (arith, n, k) }

pub returns-in_ok-step_to-in-Some : goal.returns-in_ok-step_to-in-Some
returns-in_ok-step_to-in-Some c =
    let near = subst (λ o. IsLeastIn (AreNeighbours (space_of c.args.space) (tree_of c.args.from.now)) c.args.seen.now c.args.start c.args.stop (option_map tree_of (option_copied o))) c.in-Some.is c.in_ok-nearest.ensures in
    let placed = c.in_ok-step_to-in-Some.ensures in
    record {
      nearest = subst (IsLeastOf (AreNeighbours (space_of c.args.space) (tree_of c.args.from.now)) c.args.seen.now c.args.start c.args.stop) (sym placed.to) near;
      place = placed.place;
      by_hypothesis = placed.by_hypothesis;
      not_cited = placed.not_cited;
    }
