-- What makes a law listed, without any earlier law.
use Rattle.std.specs.Prelude.{◌≡◌, ◌≢◌, ◌⊎◌, false}
use Rattle.std.specs.Cmp.Lexicographic.{slice_cmp}
use Rattle.std.specs.Ordering.{nat_cmp, is_gt}
use Rattle.etp_theory.specs.Orders.{shape_cmp}
use Rattle.etp_theory.specs.Trees.{Equation, shape_of, law_word, exchanged}
use Rattle.etp_laws.specs.Listing.{reflexive_law}
use Rattle.etp_laws.specs.Occurrences.{by_occurrence}

-- what the program looks at in place of all earlier laws
pub record IsCanonical (p : Equation) : Type 0 where
  -- its variables are numbered by first occurrence
  pub occurrences : by_occurrence (law_word p) ≡ law_word p
  -- its left shape is not greater than its right shape
  pub shapes : is_gt (shape_cmp (shape_of p.left) (shape_of p.right)) ≡ false
  -- where the shapes are equal, its word is not greater than that of the exchanged law, numbered anew
  pub words : shape_of p.left ≡ shape_of p.right
      → is_gt (slice_cmp nat_cmp (law_word p) (by_occurrence (law_word (exchanged p)))) ≡ false
  pub sides : (p.left ≢ p.right) ⊎ (p ≡ reflexive_law)
