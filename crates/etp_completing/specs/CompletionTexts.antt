-- What a completion comes to, as a text.
use Rattle.std.specs.Prelude.{ℕ, List, [], ◌∷◌, ◌++◌, codes, decimal}
use Rattle.etp_theory.specs.Trees.{Tree}
use Rattle.etp_term.specs.Terms.{tree_of}
use Rattle.etp_text.specs.Written.{written_term}
use Rattle.etp_rules.specs.declared.deciding.RulesRefusal.TheVariants as Refusals
use Rattle.etp_items.specs.Bodies.{body_of}
use Rattle.etp_items.specs.declared.body.Body.TheVariants as Bodies
use Rattle.etp_complete.specs.declared.answer.Origin.{Origin}
use Rattle.etp_complete.specs.declared.answer.Origin.TheVariants.{Law, Pair}
use Rattle.etp_complete.specs.declared.answer.Completed.{Completed}
use Rattle.etp_complete.specs.declared.answer.Completed.TheVariants.{Done, Joined, WeightRange, Unorientable, SideTooLarge, TermLimit, StepLimit, Budget}
use Rattle.etp_print.specs.RulesTexts.{rules_refusal, pair_place, forms_text, numbered_forms_text}
use Rattle.etp_show.specs.Printed.{printed_file}

-- the law, or the overlap, whose two sides or results don't come to one normal form
abbrev pub origin_text : Origin → List ℕ
origin_text (Law law) = codes "law " ++ decimal law
origin_text (Pair outer position inner) = codes "pair " ++ pair_place outer position inner

-- two normal forms: those of a law have its own variables, those of an overlap are numbered anew
abbrev pub forms_found : Origin → Tree → Tree → List ℕ
forms_found (Law law) u v = forms_text u v
forms_found (Pair outer position inner) u v = numbered_forms_text u v

-- the one normal form of the target's sides
abbrev pub joined_text : ℕ → Tree → List ℕ
joined_text target u = codes "joined " ++ decimal target ++ codes " " ++ written_term u ++ 10 ∷ []

-- the part of the weight that is out of range
abbrev pub weight_text : ℕ → List ℕ
weight_text which = codes "stopped " ++ rules_refusal (Refusals.WeightRange which) ++ 10 ∷ []

-- the rule system as the lines of a session, under the name `complete`; or the one normal form of the
-- target's sides; or why and where it stopped
abbrev pub completed_text : ℕ → Completed → List ℕ
completed_text target (Done body) =
    printed_file (record { name = codes "complete"; body = body_of (Bodies.Rules body) })
completed_text target (Joined rules form) = joined_text target (tree_of form)
completed_text target (WeightRange which) = weight_text which
completed_text target (Unorientable origin u v) =
    codes "stopped unorientable " ++ origin_text origin
    ++ forms_found origin (tree_of u) (tree_of v) ++ 10 ∷ []
completed_text target (SideTooLarge origin u v) =
    codes "stopped side too large " ++ origin_text origin
    ++ forms_found origin (tree_of u) (tree_of v) ++ 10 ∷ []
completed_text target (TermLimit origin) = codes "stopped term limit " ++ origin_text origin ++ 10 ∷ []
completed_text target (StepLimit origin) = codes "stopped step limit " ++ origin_text origin ++ 10 ∷ []
completed_text target (Budget origin) = codes "stopped budget " ++ origin_text origin ++ 10 ∷ []
