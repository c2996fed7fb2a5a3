-- What evidence shows, and that there is one.
use Rattle.std.specs.Prelude.{◌≡◌, ℕ, List}
use Rattle.etp_theory.specs.Reach.{Fact, Reach, Covers}
use Rattle.etp_chain.specs.Evidence.{IsPath, IsCover}
use Rattle.etp_chain.specs.declared.evidence.Edge.{Edge as Step}
use Rattle.etp_chain.specs.declared.evidence.Cover.{Cover}

-- a path is a reach and a cover a cover, and a pair has one path and one cover at most
pub record ChainTheorems : Type 0 where
  pub path_reaches : (duals : List ℕ) (facts : List Fact) (e f : ℕ) (path : List Step)
      → IsPath duals facts f e path → Reach duals facts e f
  pub cover_covers : (duals : List ℕ) (facts : List Fact) (e f : ℕ) (cover : Cover)
      → IsCover duals facts e f cover → Covers duals facts e f
  pub one_path : (duals : List ℕ) (facts : List Fact) (e f : ℕ) (path other : List Step)
      → IsPath duals facts f e path → IsPath duals facts f e other → path ≡ other
  pub one_cover : (duals : List ℕ) (facts : List Fact) (e f : ℕ) (cover other : Cover)
      → IsCover duals facts e f cover → IsCover duals facts e f other → cover ≡ other
