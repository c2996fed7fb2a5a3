-- The texts of refusals of rule systems.
use Rattle.std.specs.Prelude.{ℕ, List, [], ◌++◌, nat_eq, if◌then◌else◌, codes, decimal}
use Rattle.etp_theory.specs.Trees.{Tree}
use Rattle.etp_term.specs.Terms.{tree_of}
use Rattle.etp_term.specs.Positions.{position_of}
use Rattle.etp_term.specs.declared.position.Side.{Side}
use Rattle.etp_text.specs.Written.{variable_name, written_term}
use Rattle.etp_rules.specs.declared.deciding.Cause.{Cause}
use Rattle.etp_rules.specs.declared.deciding.Cause.TheVariants.{Variable, Constant}
use Rattle.etp_rules.specs.declared.deciding.RulesRefusal.{RulesRefusal}
use Rattle.etp_rules.specs.declared.deciding.RulesRefusal.TheVariants.{WeightRange, SideTooLarge, NotDecreasing}
use Rattle.etp_pairs.specs.declared.refusal.PairsRefusal.{PairsRefusal}
use Rattle.etp_pairs.specs.declared.refusal.PairsRefusal.TheVariants.{Unjoinable, TermLimit, StepLimit, NoMemory}
use Rattle.etp_items.specs.Written.{position_word}
use Rattle.etp_numbering.specs.Numbering.{variables_of, numbered_in}

-- what a weight of this number is called
abbrev pub weight_name : ℕ → List ℕ
weight_name which =
    if nat_eq which 0 then codes "a" else (if nat_eq which 1 then codes "b" else codes "c")

-- why a rule isn't decreasing
abbrev pub cause_text : Cause → List ℕ
cause_text (Variable variable) = codes " variable " ++ variable_name variable
cause_text Constant = codes " constant"

-- why a weight or a rule isn't allowed
abbrev pub rules_refusal : RulesRefusal → List ℕ
rules_refusal (WeightRange which) = codes "weight " ++ weight_name which
rules_refusal (SideTooLarge rule) = codes "side too large rule " ++ decimal rule
rules_refusal (NotDecreasing rule cause) =
    codes "not decreasing rule " ++ decimal rule ++ cause_text cause

-- where two rules overlap: the outer rule, the position in its left side, and the inner rule
abbrev pub pair_place : ℕ → List Side → ℕ → List ℕ
pair_place outer position inner =
    decimal outer ++ codes " " ++ position_word (position_of position) ++ codes " " ++ decimal inner

-- two normal forms
abbrev pub forms_text : Tree → Tree → List ℕ
forms_text u v = codes ": " ++ written_term u ++ codes " and " ++ written_term v

-- the same with their variables numbered anew, as they first come through the first form and then
-- the second
abbrev pub numbered_forms_text : Tree → Tree → List ℕ
numbered_forms_text u v =
    forms_text (numbered_in (variables_of u v) u) (numbered_in (variables_of u v) v)

-- why rules aren't convergent
abbrev pub pairs_refusal : PairsRefusal → List ℕ
pairs_refusal (Unjoinable outer position inner u v) =
    codes "unjoinable " ++ pair_place outer position inner
    ++ numbered_forms_text (tree_of u) (tree_of v)
pairs_refusal (TermLimit outer position inner) =
    codes "term limit pair " ++ pair_place outer position inner
pairs_refusal (StepLimit outer position inner) =
    codes "step limit pair " ++ pair_place outer position inner
pairs_refusal NoMemory = []

-- the two normal forms of a law that is to hold
abbrev pub holds_fails_text : ℕ → Tree → Tree → List ℕ
holds_fails_text law u v = codes "holds fails law " ++ decimal law ++ forms_text u v

-- the one normal form of a law that is to fail
abbrev pub fails_holds_text : ℕ → Tree → List ℕ
fails_holds_text law u = codes "fails holds law " ++ decimal law ++ codes ": " ++ written_term u
