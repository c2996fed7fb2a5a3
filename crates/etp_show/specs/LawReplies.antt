-- The replies that show a law.
use Rattle.std.specs.Prelude.{◌≡◌, ◌≢◌, ℕ, ◌<◌, ◌≤◌, List, [], ◌∷◌, ◌++◌, codes, decimal, None, Some}
use Rattle.std.specs.declared.option.Option.{Option}
use Rattle.etp_theory.specs.Trees.{Equation, leaves, law_ops, law_dual}
use Rattle.etp_theory.specs.LawNumbers.{law_numbered}
use Rattle.etp_laws.specs.LawLists.{IsNumberOf, IsTrivial}
use Rattle.etp_text.specs.Written.{written_law}
use Rattle.etp_text.specs.Grammar.{SpellsLaw}
use Rattle.etp_text.specs.Refusals.{RefusesLaw, side_limit}
use Rattle.etp_text.specs.declared.refusal.TextRefusal.{TextRefusal}
use Rattle.etp_text.specs.declared.refusal.TextRefusal.TheVariants.{NoMemory}
use Rattle.etp_print.specs.Texts.{Reply, answered, refused}
use Rattle.etp_print.specs.RefusalTexts.{text_refusal}

-- a law with its number before it, as a line
abbrev pub law_line : ℕ → Equation → List ℕ
law_line n p = decimal n ++ codes " " ++ written_law p ++ 10 ∷ []

-- law n, or that there is none
abbrev pub law_reply : ℕ → Option Equation → Reply
law_reply n None = refused (codes "unknown law " ++ decimal n)
law_reply n (Some p) = answered (law_line n p)

-- the reply to the number of a law, where these are the laws of at most k operations
pub data NumberedReply (k : ℕ) (laws : List Equation) (p : Equation) (reply : Reply) : Type 0 where
  too_many : k < law_ops p → reply ≡ refused (codes "operations " ++ decimal (law_ops p)) → NumberedReply k laws p reply
  trivial : law_ops p ≤ k → IsTrivial p → reply ≡ refused (codes "trivial") → NumberedReply k laws p reply
  numbered : (n : ℕ) → law_ops p ≤ k → IsNumberOf laws p n → reply ≡ law_reply n (law_numbered laws n) → NumberedReply k laws p reply

-- the reply to a law's text
pub data NumberReply (k : ℕ) (laws : List Equation) (text : List ℕ) (reply : Reply) : Type 0 where
  unread : (refusal : TextRefusal) → RefusesLaw text refusal → refusal ≢ NoMemory → reply ≡ refused (text_refusal refusal) → NumberReply k laws text reply
  read : (p : Equation) → SpellsLaw text p → leaves p.left ≤ side_limit → leaves p.right ≤ side_limit → NumberedReply k laws p reply → NumberReply k laws text reply

-- the law that is the same as the dual of law n, or that there is no law n
abbrev pub DualReply : List Equation → ℕ → Option Equation → Reply → Type 0
DualReply laws n None reply = reply ≡ law_reply n None
DualReply laws n (Some p) reply = (m : ℕ) × IsNumberOf laws (law_dual p) m × (reply ≡ law_reply m (law_numbered laws m))
