-- Sets of terms as lists, and what was added to one.
use Rattle.std.specs.Prelude.{◌≡◌, ◌⊎◌, ℕ, ◌<◌, List, [], ◌∷◌, ◌++◌, map, length, All, Contains}
use Rattle.std.specs.declared.vec.Vec.{Vec}
use Rattle.etp_theory.specs.Trees.{Tree, var, op}
use Rattle.etp_term.specs.Terms.{tree_of}
use Rattle.etp_term.specs.declared.term.Term.{Term}

-- Polish notation (Łukasiewicz): 1 before the two parts of an operation, 0 before a variable
abbrev pub polish : Tree → List ℕ
polish (var v) = 0 ∷ v ∷ []
polish (op l r) = 1 ∷ (polish l ++ polish r)

abbrev pub terms_of : {A : Type 0} → List (Vec ℕ A × Term) → List Tree
terms_of = map (λ entry. tree_of entry.1)

-- each term is kept under its Polish notation
abbrev pub AreKept : {A : Type 0} → List (Vec ℕ A × Term) → Type 0
AreKept entries = All (λ entry. entry.0.items ≡ polish (tree_of entry.1)) entries

-- the term was there, or it stands last
abbrev pub IsOneMore : Tree → List Tree → List Tree → Type 0
IsOneMore t old new = ((new ≡ old) × Contains old t) ⊎ ((new ≡ old ++ t ∷ []) × (Contains old t → ⊥))

-- only terms with the property were added, at the end; and all of them are there, or more than
-- `most` terms
pub record IsJoined (P : Tree → Type 0) (most : ℕ) (old new : List Tree) : Type 0 where
  pub added : List Tree
  pub behind : new ≡ old ++ added
  pub only : (t : Tree) → Contains added t → P t
  pub all : (most < length new) ⊎ ((t : Tree) → P t → Contains new t)
