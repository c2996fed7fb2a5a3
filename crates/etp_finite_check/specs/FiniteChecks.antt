-- What a body about finite magmas says, and when it is valid.
use Rattle.std.specs.Prelude.{◌≡◌, ◌*◌, ◌<◌, ◌≤◌, ℕ, List, All, IsSome, length}
use Rattle.etp_theory.specs.Trees.{Equation}
use Rattle.etp_theory.specs.LawNumbers.{law_numbered}
use Rattle.etp_theory.specs.Reach.{Fact, implies, refutes}
use Rattle.etp_table.specs.Tables.{IsTable}
use Rattle.etp_table.specs.Judgements.{IsJudged}
use Rattle.etp_linear.specs.Magmas.{LinearMagma, IsLinearMagma}
use Rattle.etp_linear.specs.Judgements as Linears
use Rattle.etp_linear.specs.declared.parts.Ring.TheVariants.{Modulo}
use Rattle.etp_lines.specs.Claims.{Claims}
use Rattle.etp_items.specs.Bodies.{Model, table, linear}
use Rattle.etp_finite_body.specs.FiniteBodies.{FiniteProofBody}
use Rattle.etp_finite_replay.specs.FiniteValidity.{IsValidFinite}
use Rattle.etp_finite_body.specs.FiniteBodies.{FiniteFileBody, proof, model}

-- a proof says that its hypothesis implies its goal, a magma that it separates each law that holds
-- from each law that fails
abbrev pub fact_said : FiniteFileBody → Fact
fact_said (proof p) = implies p.hypothesis p.goal
fact_said (model m claims) = refutes claims.holds claims.fails

-- the laws that a body names are listed
pub record HasListedLaws (laws : List Equation) (p : FiniteProofBody) : Type 0 where
  pub hypothesis_listed : IsSome (law_numbered laws p.hypothesis)
  pub goal_listed : IsSome (law_numbered laws p.goal)

pub record HasListedClaims (laws : List Equation) (claims : Claims) : Type 0 where
  pub holds_listed : All (λ n. IsSome (law_numbered laws n)) claims.holds
  pub fails_listed : All (λ n. IsSome (law_numbered laws n)) claims.fails

abbrev pub IsListedBody : List Equation → FiniteFileBody → Type 0
IsListedBody laws (proof p) = HasListedLaws laws p
IsListedBody laws (model m claims) = HasListedClaims laws claims

abbrev pub HasModulus : LinearMagma → Type 0
HasModulus l = (m : ℕ) × (l.ring ≡ Modulo m)

-- a table has size times size entries, and a linear magma a modulus
abbrev pub HasFiniteContent : Model → Type 0
HasFiniteContent (table size entries) = (1 ≤ size) × (length entries ≡ size * size)
HasFiniteContent (linear l) = HasModulus l
HasFiniteContent m = ⊥

-- a proof has a lemma
abbrev pub HasContent : FiniteFileBody → Type 0
HasContent (proof p) = 0 < length p.lemmas
HasContent (model m claims) = HasFiniteContent m

-- the magma is one, the laws that are to hold do so, and those that are to fail don't; in a table
-- there are few enough assignments to look at all for a law that is to hold, and one that is looked
-- at for one that is to fail
abbrev pub IsRightModel : List Equation → Model → Claims → Type 0
IsRightModel laws (table size entries) claims =
    IsTable (record { size = size; entries = entries })
    × IsJudged laws (record { size = size; entries = entries }) claims.holds claims.fails
IsRightModel laws (linear l) claims =
    IsLinearMagma l × Linears.IsJudged laws l claims.holds claims.fails
IsRightModel laws m claims = ⊥

abbrev pub IsRightBody : List Equation → FiniteFileBody → Type 0
IsRightBody laws (proof p) = IsValidFinite laws p
IsRightBody laws (model m claims) = IsRightModel laws m claims

-- the body meets what its check requires, and is right
pub record IsFinitelyValidBody (laws : List Equation) (body : FiniteFileBody) : Type 0 where
  pub listed : IsListedBody laws body
  pub content : HasContent body
  pub right : IsRightBody laws body
