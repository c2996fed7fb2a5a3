-- Replies to the number of a law.
use Rattle.std.proofs.Common.{◌≡◌, ℕ, ◌+◌, ◌≤◌, min, List, ◌++◌, Bool, true, refl, ap, ◌∙◌, arith}
use Rattle.std.specs.Prelude.{codes, decimal}
use Rattle.etp_theory.specs.Trees.{Tree, Equation, ops, leaves, law_ops}
use Rattle.etp_theory.proofs.Theorems.{term_theorems}
use Rattle.etp_theory.specs.LawNumbers.{law_numbered}
use Rattle.etp_laws.specs.LawLists.{LawList}
use Rattle.etp_laws.specs.NumberAnswers.{IsNumberAnswer}
use Rattle.etp_laws.specs.declared.laws.Numbered.TheVariants.{Is, TooManyOps}
use Rattle.etp_text.specs.Refusals.{side_limit}
use Rattle.etp_print.specs.Texts.{refused, reply_text, is_refusal}
use Rattle.etp_print.specs.Given.{Gives}
use Rattle.etp_show.specs.LawReplies.{law_reply, NumberedReply, too_many, numbered}

-- the number of a law, as the list of laws answers it
pub numbered-is : (l : LawList) (p : Equation) (n line : ℕ) (text : List ℕ) (flag : Bool) → IsNumberAnswer l p (Is n)
    → (text ≡ reply_text line (law_reply n (law_numbered l.equations n))) × (flag ≡ is_refusal (law_reply n (law_numbered l.equations n)))
    → Gives line text flag (NumberedReply l.order l.equations p)
numbered-is l p n line text flag h i = record { reply = law_reply n (law_numbered l.equations n); is = numbered n h.0 h.2 refl; text_is = i.0; refused_is = i.1 }

few_ops : (t : Tree) → leaves t ≤ side_limit → min (ops t) 65536 ≡ ops t
few_ops t h = let e = term_theorems.leaves_ops t in omega (arith, e, h)

pub numbered-many : (l : LawList) (p : Equation) (n line : ℕ) (text : List ℕ) (flag : Bool) → IsNumberAnswer l p (TooManyOps n) → leaves p.left ≤ side_limit → leaves p.right ≤ side_limit
    → (text ≡ reply_text line (refused (codes "operations " ++ decimal n))) × (flag ≡ true) → Gives line text flag (NumberedReply l.order l.equations p)
numbered-many l p n line text flag h left right i =
    let count : n ≡ law_ops p = h.1 ∙ (λ j. few_ops p.left left j + few_ops p.right right j) in
    record { reply = refused (codes "operations " ++ decimal n); is = too_many h.0 (ap (λ m. refused (codes "operations " ++ decimal m)) count); text_is = i.0; refused_is = i.1 }
