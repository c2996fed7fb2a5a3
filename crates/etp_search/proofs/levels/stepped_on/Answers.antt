use Rattle.std.proofs.Common.{None, MatchOption, subst}
use Rattle.etp_term.specs.Terms.{tree_of}
use Rattle.etp_proof.specs.Lemmas.{step_of}
use Rattle.etp_search.specs.Spaces.{AreNeighbours}
use Rattle.etp_search.specs.Programs.{space_of}
use Rattle.etp_search.specs.Levels.{IsLeastIn, IsNearestStep}
use Rattle.etp_search.proofs.levels.stepped_on.Goals as goal

pub unreachable-requires : goal.unreachable-requires
unreachable-requires c =
    let none = subst (λ o. MatchOption o (IsLeastIn (AreNeighbours (space_of c.args.space) (tree_of c.last_term.result.now)) c.args.seen.now c.args.start c.args.stop None) (λ x. IsNearestStep (space_of c.args.space) c.args.seen.now c.args.start c.args.stop (tree_of c.last_term.result.now) (step_of x))) c.in-None.is c.in_ok-step.ensures in
    c.requires.some (subst (λ s. IsLeastIn (AreNeighbours (space_of c.args.space) s) c.args.seen.now c.args.start c.args.stop None) c.last_term.ensures none)

pub returns : goal.returns
returns c =
    let near = subst (λ o. MatchOption o (IsLeastIn (AreNeighbours (space_of c.args.space) (tree_of c.last_term.result.now)) c.args.seen.now c.args.start c.args.stop None) (λ x. IsNearestStep (space_of c.args.space) c.args.seen.now c.args.start c.args.stop (tree_of c.last_term.result.now) (step_of x))) c.in-Some.is c.in_ok-step.ensures in
    record {
      step = step_of c.in-Some.step;
      nearest = subst (λ s. IsNearestStep (space_of c.args.space) c.args.seen.now c.args.start c.args.stop s (step_of c.in-Some.step)) c.last_term.ensures near;
      longer = c.in_ok-longer-in-Some.ensures;
    }
