-- The order of a system's overlaps, and the first one that fails.
use Rattle.std.specs.Prelude.{◌≡◌, ◌≢◌, ℕ, ◌<◌, ◌⊎◌, List, [], ◌∷◌, ⊤}
use Rattle.etp_theory.specs.Trees.{Tree, Equation, Occurs}
use Rattle.etp_theory.specs.Substitutions.{apply}
use Rattle.etp_theory.specs.Positions.{Side, to_left, to_right}
use Rattle.etp_theory.specs.Forms.{IsFormOf, HasForm, PassesTermLimit, PassesStepLimit}
use Rattle.etp_theory.specs.Unifiers.{IsMostGeneral}
use Rattle.etp_theory.specs.Overlaps.{Overlap, outer_part, inner_part, left_result, right_result, PairPasses}

-- the order of positions: the root, then those in the left part, then those in the right part
abbrev pub PositionBefore : List Side → List Side → Type 0
PositionBefore [] [] = ⊥
PositionBefore [] (d ∷ q) = ⊤
PositionBefore (d ∷ p) [] = ⊥
PositionBefore (to_left ∷ p) (to_left ∷ q) = PositionBefore p q
PositionBefore (to_left ∷ p) (to_right ∷ q) = ⊤
PositionBefore (to_right ∷ p) (to_left ∷ q) = ⊥
PositionBefore (to_right ∷ p) (to_right ∷ q) = PositionBefore p q

-- where two rules may overlap: the outer rule, the position in its left side, the inner rule
pub record Place : Type 0 where
  pub outer : ℕ
  pub position : List Side
  pub inner : ℕ

-- the place of an overlap
abbrev pub place : {rules : List Equation} → Overlap rules → Place
place o = record { outer = o.outer; position = o.position; inner = o.inner }

-- the order of places: by the outer rule, then by the position, then by the inner rule
pub data PlaceBefore (x y : Place) : Type 0 where
  by_outer : x.outer < y.outer → PlaceBefore x y
  by_position : x.outer ≡ y.outer → PositionBefore x.position y.position → PlaceBefore x y
  by_inner : x.outer ≡ y.outer → x.position ≡ y.position → x.inner < y.inner → PlaceBefore x y

-- both results of an overlap under one of its most general unifiers
pub record IsCriticalPair {rules : List Equation} (o : Overlap rules) (s t : Tree) : Type 0 where
  pub unifier : ℕ → Tree
  pub general : IsMostGeneral unifier (outer_part o) (inner_part o)
  pub left : s ≡ left_result o unifier
  pub right : t ≡ right_result o unifier

-- no two variables of the two terms get one name
abbrev pub KeepsApart : (ℕ → ℕ) → Tree → Tree → Type 0
KeepsApart f s t = (x y : ℕ) → Occurs x s ⊎ Occurs x t → Occurs y s ⊎ Occurs y t → f x ≡ f y → x ≡ y

-- what is found of two terms that don't have one form
pub data Finding : Type 0 where
  two_forms : Tree → Tree → Finding
  term_limit : Finding
  step_limit : Finding

-- two different forms, or the limit that the left term's walk passes, else the right term's
abbrev pub IsFinding : List Equation → Tree → Tree → Finding → Type 0
IsFinding rules s t (two_forms u v) = IsFormOf rules s u × IsFormOf rules t v × (u ≢ v)
IsFinding rules s t term_limit =
    PassesTermLimit rules s ⊎ (HasForm rules s × PassesTermLimit rules t)
IsFinding rules s t step_limit =
    PassesStepLimit rules s ⊎ (HasForm rules s × PassesStepLimit rules t)

-- the same finding with other variables
abbrev pub finding_under : (ℕ → Tree) → Finding → Finding
finding_under k (two_forms u v) = two_forms (apply k u) (apply k v)
finding_under k term_limit = term_limit
finding_under k step_limit = step_limit

-- the overlap has this critical pair, of which this is found
pub record FailsBy {rules : List Equation} (o : Overlap rules) (s t : Tree) (f : Finding) : Type 0 where
  pub pair : IsCriticalPair o s t
  pub found : IsFinding rules s t f

-- the overlap fails so, and each one before it passes
pub record IsFirstFailing {rules : List Equation} (o : Overlap rules) (s t : Tree) (f : Finding) : Type 0 where
  pub fails : FailsBy o s t f
  pub earlier : (o' : Overlap rules) → PlaceBefore (place o') (place o) → PairPasses rules o'
