-- What accepted proofs and refutations say of law numbers, and what follows for all pairs.
use Rattle.std.specs.Prelude.{◌≡◌, ℕ, List, Contains}
use Rattle.etp_theory.specs.LawNumbers.{dual_number}

-- what one file says: its hypothesis implies its goal,
-- or no law of the first list implies a law of the second
pub data Fact : Type 0 where
  implies : ℕ → ℕ → Fact
  refutes : List ℕ → List ℕ → Fact

-- from a fact's hypothesis to its goal, or from the one's dual to the other's
pub data Edge (duals : List ℕ) (facts : List Fact) : ℕ → ℕ → Type 0 where
  plain_edge : {e f : ℕ} → Contains facts (implies e f) → Edge duals facts e f
  dual_edge : {e f : ℕ} (hypothesis goal : ℕ) → Contains facts (implies hypothesis goal)
      → e ≡ dual_number duals hypothesis → f ≡ dual_number duals goal → Edge duals facts e f

-- a law that holds and a law that fails by one fact, or their duals
pub data RefutingPair (duals : List ℕ) (facts : List Fact) : ℕ → ℕ → Type 0 where
  plain_pair : {e f : ℕ} (holds fails : List ℕ) → Contains facts (refutes holds fails)
      → Contains holds e → Contains fails f → RefutingPair duals facts e f
  dual_pair : {e f : ℕ} (holds fails : List ℕ) (hold fail : ℕ) → Contains facts (refutes holds fails)
      → Contains holds hold → Contains fails fail
      → e ≡ dual_number duals hold → f ≡ dual_number duals fail → RefutingPair duals facts e f

-- a list of laws leads from the first to the second, with an edge between each two neighbours
pub data Reach (duals : List ℕ) (facts : List Fact) : ℕ → ℕ → Type 0 where
  itself : (e : ℕ) → Reach duals facts e e
  along : {e f g : ℕ} → Edge duals facts e f → Reach duals facts f g → Reach duals facts e g

-- some refuting pair has its first law reaching e, and is reached from f by its second
pub record Covers (duals : List ℕ) (facts : List Fact) (e f : ℕ) : Type 0 where
  pub holds : ℕ
  pub fails : ℕ
  pub pair : RefutingPair duals facts holds fails
  pub before : Reach duals facts holds e
  pub after : Reach duals facts f fails
