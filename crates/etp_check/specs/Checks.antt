-- What a body says, when it is valid, and when what it says is right.
use Rattle.std.specs.Prelude.{◌≡◌, ◌*◌, ◌<◌, ◌≤◌, ℕ, List, [], Option, Some, None, All, IsSome, length, map}
use Rattle.etp_theory.specs.Trees.{Equation}
use Rattle.etp_theory.specs.Proofs.{IsValidProof}
use Rattle.etp_theory.specs.Reach.{Fact, implies, refutes}
use Rattle.etp_theory.specs.RightFacts.{Implies, IsRightFact}
use Rattle.etp_theory.specs.LawNumbers.{IsLaw, law_numbered}
use Rattle.etp_theory.specs.Weights.{Weight}
use Rattle.etp_theory.specs.Overlaps.{HasSmallVariables, IsConvergent}
use Rattle.etp_replay.specs.Validity.{law_at}
use Rattle.etp_table.specs.Tables.{IsTable}
use Rattle.etp_table.specs.Judgements.{IsJudged}
use Rattle.etp_linear.specs.Magmas.{IsLinearMagma}
use Rattle.etp_linear.specs.Judgements as Linears
use Rattle.etp_matrix.specs.Magmas.{IsShape, IsMatrixMagma}
use Rattle.etp_matrix.specs.Judgements as Matrices
use Rattle.etp_rules.specs.Deciding.{IsInRange, AreAllowed}
use Rattle.etp_canonical.specs.Judgements as Systems
use Rattle.etp_lines.specs.Claims.{Claims}
use Rattle.etp_items.specs.Bodies.{FileBody, ProofBody, Model, table, linear, matrix, rules, proof, model}

-- a proof says that its hypothesis implies its goal, a magma that no law that holds implies one that fails
abbrev pub fact_said : FileBody → Fact
fact_said (proof p) = implies p.hypothesis p.goal
fact_said (model m claims) = refutes claims.holds claims.fails

-- the laws that a body names are listed
pub record HasListedLaws (laws : List Equation) (p : ProofBody) : Type 0 where
  pub hypothesis_listed : IsSome (law_numbered laws p.hypothesis)
  pub goal_listed : IsSome (law_numbered laws p.goal)

-- the laws that claims name are listed
pub record HasListedClaims (laws : List Equation) (claims : Claims) : Type 0 where
  pub holds_listed : All (λ n. IsSome (law_numbered laws n)) claims.holds
  pub fails_listed : All (λ n. IsSome (law_numbered laws n)) claims.fails

abbrev pub IsListedBody : List Equation → FileBody → Type 0
IsListedBody laws (proof p) = HasListedLaws laws p
IsListedBody laws (model m claims) = HasListedClaims laws claims

-- 1 to 64 rules, with variables below 64
pub record HasRules (rs : List Equation) : Type 0 where
  pub some : 1 ≤ length rs
  pub few : length rs ≤ 64
  pub small : HasSmallVariables rs

-- a table has size times size entries, matrices and c have as many as their size wants, and a rule system has rules
abbrev pub HasModelContent : Model → Type 0
HasModelContent (table size entries) = (1 ≤ size) × (length entries ≡ size * size)
HasModelContent (linear l) = Unit {0}
HasModelContent (matrix g) = IsShape g.size g.a g.b g.c
HasModelContent (rules w rs) = HasRules rs

-- a proof has a lemma
abbrev pub HasContent : FileBody → Type 0
HasContent (proof p) = 0 < length p.lemmas
HasContent (model m claims) = HasModelContent m

-- all laws that the fact names are among so many laws
abbrev pub HasLaws : ℕ → Fact → Type 0
HasLaws count (implies hypothesis goal) = IsLaw count hypothesis × IsLaw count goal
HasLaws count (refutes holds fails) = All (IsLaw count) holds × All (IsLaw count) fails

-- the names of the files that a body cites
abbrev pub cites_of : FileBody → List (List ℕ)
cites_of (proof p) = p.cites
cites_of (model m claims) = []

-- the law, if any, from which a body proves, and from which the files that it cites must prove too
abbrev pub hypothesis_of : FileBody → Option ℕ
hypothesis_of (proof p) = Some p.hypothesis
hypothesis_of (model m claims) = None

-- one listed number for each cite
pub record AreCitedNumbers (laws : List Equation) (body : FileBody) (cited : List ℕ) : Type 0 where
  pub as_many : length cited ≡ length (cites_of body)
  pub cited_listed : All (λ n. IsSome (law_numbered laws n)) cited

-- a rule system whose normal forms are a magma: each rule lowers the weight, and each critical pair joins
pub record IsRuleMagma (w : Weight) (rs : List Equation) : Type 0 where
  pub in_range : IsInRange w
  pub allowed : AreAllowed w rs
  pub convergent : IsConvergent w rs

-- the magma is one, the laws that are to hold do so, and those that are to fail don't; in a table there are few
-- enough assignments to look at all for a law that is to hold, and one that is looked at for one that is to fail;
-- in a rule system all sides of these laws have normal forms within the limits
abbrev pub IsRightModel : List Equation → Model → Claims → Type 0
IsRightModel laws (table size entries) claims =
    IsTable (record { size = size; entries = entries })
    × IsJudged laws (record { size = size; entries = entries }) claims.holds claims.fails
IsRightModel laws (linear l) claims = IsLinearMagma l × Linears.IsJudged laws l claims.holds claims.fails
IsRightModel laws (matrix g) claims = IsMatrixMagma g × Matrices.IsJudged laws g claims.holds claims.fails
IsRightModel laws (rules w rs) claims = IsRuleMagma w rs × Systems.IsJudged laws rs claims.holds claims.fails

-- with the laws of the cited numbers a proof derives its goal step by step; a magma is right
abbrev pub IsRightBody : List Equation → FileBody → List ℕ → Type 0
IsRightBody laws (proof p) cited =
    IsValidProof (law_at laws p.hypothesis) (law_at laws p.goal) (map (law_at laws) cited) p.lemmas
IsRightBody laws (model m claims) cited = IsRightModel laws m claims

-- the body meets what its check requires, with one listed number for each cite, and is right with
-- the laws of these numbers
pub record IsValidBody (laws : List Equation) (body : FileBody) (cited : List ℕ) : Type 0 where
  pub listed : IsListedBody laws body
  pub content : HasContent body
  pub numbers : AreCitedNumbers laws body cited
  pub right : IsRightBody laws body cited

-- the hypothesis, where there is one, implies the law of each number
abbrev pub AreImplied : List Equation → Option ℕ → List ℕ → Type 0
AreImplied laws None numbers = Unit {0}
AreImplied laws (Some hypothesis) numbers = All (Implies laws hypothesis) numbers

-- what the body says is right where its hypothesis implies the law of each cited number
abbrev pub SaysRight : List Equation → FileBody → List ℕ → Type 0
SaysRight laws body cited =
    AreImplied laws (hypothesis_of body) cited → IsRightFact laws (fact_said body)
