-- What the lines of a file say, without the program's types.
use Rattle.std.specs.Prelude.{ℕ, List, map}
use Rattle.etp_theory.specs.Trees.{Equation}
use Rattle.etp_theory.specs.Proofs.{Lemma}
use Rattle.etp_theory.specs.Weights.{Weight}
use Rattle.etp_proof.specs.Lemmas.{lemma_of}
use Rattle.etp_proof.specs.declared.proof.Proof.{Proof}
use Rattle.etp_linear.specs.Magmas.{LinearMagma}
use Rattle.etp_matrix.specs.Magmas.{MatrixMagma}
use Rattle.etp_rules.specs.Rules.{rules_of}
use Rattle.etp_rules.specs.Deciding.{weight_in}
use Rattle.etp_lines.specs.Claims.{Claims}
use Rattle.etp_items.specs.declared.body.Claims as Declared
use Rattle.etp_items.specs.declared.body.LinearBody.{LinearBody}
use Rattle.etp_items.specs.declared.body.MatrixBody.{MatrixBody}
use Rattle.etp_items.specs.declared.body.RulesBody.{RulesBody}
use Rattle.etp_items.specs.declared.body.Body.{Body}
use Rattle.etp_items.specs.declared.body.Body.TheVariants as Program

-- a proof of the law numbered `goal` from the one numbered `hypothesis` by lemmas,
-- which may use what the files of the cited names prove
pub record ProofBody : Type 0 where
  pub hypothesis : ℕ
  pub goal : ℕ
  pub cites : List (List ℕ)
  pub lemmas : List Lemma

-- what tells a magma that is to be a model of laws
pub data Model : Type 0 where
  -- an operation table of this size with these entries, row by row
  table : ℕ → List ℕ → Model
  linear : LinearMagma → Model
  matrix : MatrixMagma → Model
  -- a rule system, whose normal forms are the magma: a weight, and rules that are to lower it
  rules : Weight → List Equation → Model

-- what the lines of a file are
pub data FileBody : Type 0 where
  proof : ProofBody → FileBody
  -- a magma, laws that hold in it and laws that fail
  model : Model → Claims → FileBody

-- the proof that a value of the program stands for
abbrev pub proof_of : Proof → ProofBody
proof_of p = record {
  hypothesis = p.hypothesis;
  goal = p.goal;
  cites = p.cites;
  lemmas = map lemma_of p.lemmas;
}

-- the claims
abbrev pub claims_of : Declared.Claims → Claims
claims_of c = record { holds = c.holds; fails = c.fails }

-- the linear magma
abbrev pub linear_in : LinearBody → LinearMagma
linear_in l = record { ring = l.ring; a = l.a; b = l.b; c = l.c }

-- the matrix-linear magma
abbrev pub matrix_in : MatrixBody → MatrixMagma
matrix_in m = record { modulus = m.modulus; size = m.size; a = m.a; b = m.b; c = m.c }

-- the weight of the rule system
abbrev pub weight_of : RulesBody → Weight
weight_of r = weight_in r.weight

-- and the body
abbrev pub body_of : Body → FileBody
body_of (Program.Proof p) = proof (proof_of p)
body_of (Program.Table t) = model (table t.size t.entries) (claims_of t.claims)
body_of (Program.Linear l) = model (linear (linear_in l)) (claims_of l.claims)
body_of (Program.Matrix m) = model (matrix (matrix_in m)) (claims_of m.claims)
body_of (Program.Rules r) = model (rules (weight_of r) (rules_of r.rules)) (claims_of r.claims)
