use Rattle.std.proofs.Common.{◌≤◌, List, length, sym, ap, ◌∙◌, subst, arith}
use Rattle.etp_search.proofs.Kept.{terms_long}
use Rattle.etp_theory.specs.Trees.{Tree}
use Rattle.etp_term.specs.Terms.{tree_of}
use Rattle.etp_search.specs.Spaces.{AreNeighbours}
use Rattle.etp_search.specs.Sets.{IsJoined}
use Rattle.etp_search.specs.Programs.{space_of}
use Rattle.etp_search.proofs.Stepping.{exactly}
use Rattle.etp_search.proofs.expanding.neighbours.Goals as goal

few : (c : goal.In_ok-add_neighbours) → length c.add_neighbours.new.found ≤ 4294967295
few c =
    let n = ap length (sym c.found.view_is) ∙ terms_long c.found.inside.kept.entries in
    let small = c.found.invariant.1 in
    omega (arith, n, small)

pub returns : goal.returns
returns c =
    exactly (AreNeighbours (space_of c.args.space) (tree_of c.args.term.now)) 4294967295 c.add_neighbours.new.found (few c)
    (subst (λ (ts : List Tree). IsJoined (AreNeighbours (space_of c.args.space) (tree_of c.args.term.now)) 4294967295 ts c.add_neighbours.new.found) c.empty-found.ensures c.in_ok-add_neighbours.ensures)
