-- What two searches, from the two laws of a pair, tell of the covers of the pair.
use Rattle.std.proofs.Common.{ℕ, ◌*◌, Bool, List, length, arith}
use Rattle.etp_theory.specs.Reach.{Fact, Reach, Covers}
use Rattle.etp_chain.specs.declared.evidence.Edge.{Edge as Step}
use Rattle.etp_chain.specs.declared.graph.Source.{Source}
use Rattle.etp_chain.specs.Evidence.{GivesPair, IsPath, IsFirstPair, IsCover}
use Rattle.etp_chain.specs.Edges.{HasEdges}
use Rattle.etp_chain.specs.Searches.{IsFound, IsSearched}
use Rattle.etp_chain.proofs.Walks.{pair_giver}
use Rattle.etp_chain.proofs.Distances.{walks_found, found_walks, found_after, found_reached}
use Rattle.etp_chain.proofs.Pairs.{first_pair_for}

module _ (duals : List ℕ) (facts : List Fact) (from to : List ℕ) (sources : List Source)
    (edges : HasEdges duals facts (2 * length facts) from to sources) (e f : ℕ) (before after : List ℕ)
    (reaching : IsSearched to from e before) (reached : IsSearched from to f after) where
  after_is : (law : ℕ) → Reach duals facts f law → IsFound after law
  after_is law r = found_after duals facts from to sources edges f after reached f law r (omega (arith, reached.begun))

  -- where no refuting pair is found, none covers the pair
  pub not_covered : ((file : ℕ) (dual : Bool) (x y : ℕ) → GivesPair duals facts file dual x y → IsFound before x → ¬ IsFound after y)
      → ¬ Covers duals facts e f
  not_covered none c =
      let g = pair_giver duals facts c.holds c.fails c.pair in
      none g.0 g.1 c.holds c.fails g.2 (walks_found duals facts from to sources edges e before reaching c.holds c.before) (after_is c.fails c.after)

  -- the law that fails is reached from the second law of the pair
  pub fails_found : (fails : ℕ) (found : List ℕ) → IsSearched to from fails found → IsFound after fails → IsFound found f
  fails_found fails found s is =
      walks_found duals facts from to sources edges fails found s f (found_reached duals facts from to sources edges f after reached fails is)

  -- the first pair that is found, with both paths, is the cover
  pub is_cover : (file : ℕ) (dual : Bool) (holds fails : ℕ) (first second : List Step)
      → IsFirstPair duals facts (IsFound before) (IsFound after) file dual holds fails
      → IsPath duals facts e holds first → IsPath duals facts fails f second
      → IsCover duals facts e f (record { file = file; dual = dual; holds = holds; fails = fails; before = first; after = second })
  is_cover file dual holds fails first second pair p q = record {
    pair = first_pair_for duals facts (IsFound before) (IsFound after) (λ law. Reach duals facts law e) (λ law. Reach duals facts f law) file dual holds fails
        (found_walks duals facts from to sources edges e before reaching) (walks_found duals facts from to sources edges e before reaching)
        (found_reached duals facts from to sources edges f after reached) after_is pair;
    before = p;
    after = q;
  }
