-- The completion of a law's rules, round by round (Knuth and Bendix 1970).
use Rattle.std.specs.Prelude.{ℕ, ◌≡◌, ◌<◌, ◌≤◌, List, [], ◌∷◌, ◌++◌, length}
use Rattle.etp_theory.specs.Trees.{Tree, Equation, ops}
use Rattle.etp_theory.specs.Weights.{Weight, IsDecreasing}
use Rattle.etp_theory.specs.Overlaps.{IsConvergent}
use Rattle.etp_theory.specs.FailingOverlaps.{Finding, two_forms}
use Rattle.etp_term.specs.Positions.{position_of}
use Rattle.etp_rules.specs.Deciding.{weight_in}
use Rattle.etp_pairs.specs.Refusals.{IsFirstAt}
use Rattle.etp_canonical.specs.Judgements.{LawHolds, IsFoundOf}
use Rattle.etp_numbering.specs.Numbering.{variables_of, numbered_in}
use Rattle.etp_complete.specs.declared.answer.Origin.{Origin}
use Rattle.etp_complete.specs.declared.answer.Origin.TheVariants.{Law, Pair}

-- the law to be completed and the law that is looked at in the end, by their numbers in a list, and
-- the three numbers of the weight
pub record Problem : Type 0 where
  pub laws : List Equation
  pub from : ℕ
  pub target : ℕ
  pub weight : List ℕ

abbrev pub weight_of : Problem → Weight
weight_of p = weight_in p.weight

-- the first thing that doesn't have one normal form, and what is found of it: law `from`, or else
-- the first overlap whose two results don't have one
abbrev pub FailsFirst : Problem → List Equation → Origin → Finding → Type 0
FailsFirst p rules (Law n) f = (n ≡ p.from) × IsFoundOf p.laws rules p.from f
FailsFirst p rules (Pair outer position inner) f =
    LawHolds p.laws rules p.from × IsFirstAt rules outer (position_of position) inner f

-- the rule from one term to another, its variables numbered in the order in which they first come
abbrev pub rule_from : Tree → Tree → Equation
rule_from l r = record {
  left = numbered_in (variables_of l r) l;
  right = numbered_in (variables_of l r) r;
}

-- the rule that two terms give: from the first to the second where that is decreasing, else from
-- the second to the first where that is
pub data Orients (w : Weight) (l r : Tree) (rule : Equation) : Type 0 where
  forth : IsDecreasing w (rule_from l r) → rule ≡ rule_from l r → Orients w l r rule
  back : ¬ IsDecreasing w (rule_from l r) → IsDecreasing w (rule_from r l)
      → rule ≡ rule_from r l → Orients w l r rule

-- they give none
pub record IsUnorientable (w : Weight) (l r : Tree) : Type 0 where
  pub forth : ¬ IsDecreasing w (rule_from l r)
  pub back : ¬ IsDecreasing w (rule_from r l)

-- so many rules are the most that a run may have
abbrev pub rule_limit : ℕ
rule_limit = 64

-- so many operations are the most that a side of a rule may have
abbrev pub side_limit : ℕ
side_limit = 12

pub record AreSmall (l r : Tree) : Type 0 where
  pub left : ops l ≤ side_limit
  pub right : ops r ≤ side_limit

-- one round: the first thing that fails has two normal forms, and gives one more rule
pub record Adds (p : Problem) (rules more : List Equation) : Type 0 where
  pub origin : Origin
  pub left : Tree
  pub right : Tree
  pub rule : Equation
  pub fails : FailsFirst p rules origin (two_forms left right)
  pub room : length rules < rule_limit
  pub small : AreSmall left right
  pub oriented : Orients (weight_of p) left right rule
  pub added : more ≡ rules ++ rule ∷ []

-- the rules to which the rounds come, from none on
pub data ComesTo (p : Problem) : List Equation → Type 0 where
  at_first : ComesTo p []
  by_round : {rules more : List Equation} → ComesTo p rules → Adds p rules more → ComesTo p more

-- nothing fails: the law's sides have one normal form, and so have both results of every overlap
pub record IsComplete (p : Problem) (rules : List Equation) : Type 0 where
  pub holds : LawHolds p.laws rules p.from
  pub convergent : IsConvergent (weight_of p) rules
