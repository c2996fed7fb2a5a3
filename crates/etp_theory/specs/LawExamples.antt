-- Laws whose sameness, duals, order and proofs are computed, and facts about them.
use Rattle.std.specs.Prelude.{◌≡◌, List, [], ◌∷◌, true, false, Some, None}
use Rattle.std.specs.declared.cmp.Ordering.TheVariants.{Less}
use Rattle.etp_theory.specs.Trees.{var, op, leaf, fork, word_of, dual, Equation}
use Rattle.etp_theory.specs.Orders.{shape_cmp, law_cmp}
use Rattle.etp_theory.specs.Positions.{to_right}
use Rattle.etp_theory.specs.Sameness.{Same}
use Rattle.etp_theory.specs.Proofs.{Lemma, line_equation, cited_equation, IsValidProof}
use Rattle.etp_theory.specs.LawNumbers.{IsLaw, IsOwnInverse}
use Rattle.etp_theory.specs.Reach.{implies, refutes}
use Rattle.etp_theory.specs.RightFacts.{IsRightFact, AreDualNumbers, AreRightFacts}
use Rattle.etp_theory.specs.Examples.{square, idempotent, left_projection, right_projection}

-- u = u ◇ v
abbrev pub turned_projection : Equation
turned_projection = record { left = var 3; right = op (var 3) (var 4) }

-- x = x ◇ (x ◇ y)
abbrev pub longer : Equation
longer = record { left = var 0; right = op (var 0) (op (var 0) (var 1)) }

-- x ◇ y = x ◇ (y ◇ y)
abbrev pub squared : Equation
squared = record { left = op (var 0) (var 1); right = op (var 0) (op (var 1) (var 1)) }

-- x ◇ x = x by the hypothesis x ◇ y = x
abbrev pub square_lemma : Lemma
square_lemma = record {
  start = square;
  steps = record { to = var 0; line = 0; cited = false; reversed = false; position = [] } ∷ [];
}

-- x ◇ y = x ◇ (y ◇ y), from right to left by lemma 1, in the right part
abbrev pub squared_lemma : Lemma
squared_lemma = record {
  start = squared.left;
  steps = record {
    to = squared.right;
    line = 1;
    cited = false;
    reversed = true;
    position = to_right ∷ [];
  } ∷ [];
}

-- the same by the first cited law
abbrev pub citing_lemma : Lemma
citing_lemma = record {
  start = squared.left;
  steps = record {
    to = squared.right;
    line = 1;
    cited = true;
    reversed = true;
    position = to_right ∷ [];
  } ∷ [];
}

-- laws 1 to 3; the first two are each other's dual, the third is its own
abbrev pub three_laws : List Equation
three_laws = left_projection ∷ right_projection ∷ idempotent ∷ []

pub record LawExamples : Type 0 where
  -- laws are the same with other names of variables and their sides exchanged
  pub same_exchanged : Same left_projection turned_projection
  pub dual_of_three : dual (op (op (var 0) (var 1)) (var 2)) ≡ op (var 2) (op (var 1) (var 0))
  pub word_of_three : word_of (op (op (var 3) (var 1)) (var 2)) ≡ 3 ∷ 1 ∷ 2 ∷ []
  -- shapes: the operations come first, then the left part
  pub fewer_first : shape_cmp (fork (fork leaf leaf) leaf) (fork leaf (fork leaf (fork leaf leaf)))
      ≡ Less
  pub left_part_first : shape_cmp (fork leaf (fork leaf leaf)) (fork (fork leaf leaf) leaf) ≡ Less
  -- laws: the operations come first, then the left side, and the word last
  pub shorter_first : law_cmp idempotent longer ≡ Less
  pub left_side_first : law_cmp turned_projection idempotent ≡ Less
  -- lemmas and cited laws count from 1, line 0 is the hypothesis
  pub line_zero : line_equation left_projection (idempotent ∷ []) 0 ≡ Some left_projection
  pub line_one : line_equation left_projection (idempotent ∷ []) 1 ≡ Some idempotent
  pub cite_zero : cited_equation (idempotent ∷ []) 0 ≡ None
  pub cite_one : cited_equation (idempotent ∷ []) 1 ≡ Some idempotent
  pub by_lemma : IsValidProof left_projection squared [] (square_lemma ∷ squared_lemma ∷ [])
  pub by_cite : IsValidProof left_projection squared (idempotent ∷ []) (citing_lemma ∷ [])
  -- laws count from 1, and a list of duals names each law by its dual
  pub first_and_last : IsLaw 3 1 × IsLaw 3 3
  pub no_law_zero : IsLaw 3 0 → ⊥
  pub no_law_four : IsLaw 3 4 → ⊥
  pub own_inverse : IsOwnInverse (2 ∷ 1 ∷ 3 ∷ [])
  pub not_inverse : IsOwnInverse (2 ∷ 3 ∷ 1 ∷ []) → ⊥
  pub not_within : IsOwnInverse (2 ∷ []) → ⊥
  -- the laws of the projections imply x ◇ x = x, which implies neither
  pub dual_numbers : AreDualNumbers three_laws (2 ∷ 1 ∷ 3 ∷ [])
  pub not_dual_numbers : AreDualNumbers three_laws (1 ∷ 2 ∷ 3 ∷ []) → ⊥
  pub right_facts : AreRightFacts three_laws (2 ∷ 1 ∷ 3 ∷ [])
      (implies 1 3 ∷ refutes (3 ∷ []) (1 ∷ 2 ∷ []) ∷ [])
  pub wrong_implication : IsRightFact three_laws (implies 3 1) → ⊥
  pub wrong_refutation : IsRightFact three_laws (refutes (1 ∷ []) (3 ∷ [])) → ⊥
