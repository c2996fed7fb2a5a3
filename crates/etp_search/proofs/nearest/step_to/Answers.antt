use Rattle.std.proofs.Common.{length, refl, ap, arith}
use Rattle.etp_term.specs.Terms.{tree_of}
use Rattle.etp_term.specs.Laws.{equation_of}
use Rattle.etp_term.specs.Positions.{position_of}
use Rattle.etp_search.proofs.FirstPlaces.{placed_whole}
use Rattle.etp_search.proofs.nearest.step_to.Goals as goal

pub find_place-requires-clause-room : goal.find_place-requires-clause-room
find_place-requires-clause-room c = let e = ap length c.root-position.ensures in let n = c.requires.narrow in omega (arith, e, n)

pub returns : goal.returns
returns c = record {
  to = ap tree_of c.in_ok-to.ensures;
  place = placed_whole (equation_of c.args.law.now) (tree_of c.args.from.now) (tree_of c.args.to.now) (tree_of c.in_ok-to.to) (position_of c.root-position.result) (position_of c.find_place.new.position) c.in_ok-reversed.reversed (ap position_of c.root-position.ensures) (ap tree_of c.in_ok-to.ensures) c.in_ok-reversed.ensures;
  by_hypothesis = refl;
  not_cited = refl;
}
