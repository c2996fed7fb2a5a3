-- The replies that show a law are one each.
use Rattle.std.proofs.Common.{◌≡◌, ℕ, List, sym, ◌∙◌, ap, subst, Option, None, Some, arith}
use Rattle.etp_theory.specs.Trees.{Equation, law_dual}
use Rattle.etp_theory.specs.LawNumbers.{law_numbered}
use Rattle.etp_laws.specs.Listing.{IsTheList}
use Rattle.etp_laws.specs.LawLists.{IsNumberOf, IsTrivial}
use Rattle.etp_laws.proofs.DualNumbers.{one_number_of}
use Rattle.etp_laws.proofs.ReflexiveLaw.{none_same}
use Rattle.etp_laws.proofs.Entries.{Listed-entry}
use Rattle.etp_text.proofs.Answering.{same_law, law_refused_only}
use Rattle.etp_text.proofs.OneRefusal.{one_law_refusal}
use Rattle.etp_print.specs.Texts.{Reply, refused}
use Rattle.etp_print.specs.RefusalTexts.{text_refusal}
use Rattle.etp_show.specs.LawReplies.{law_reply, NumberedReply, too_many, trivial, numbered, NumberReply, unread, read, DualReply}

no_number : (k : ℕ) (laws : List Equation) (p : Equation) (n : ℕ) → IsTheList k laws → IsTrivial p → IsNumberOf laws p n → ⊥
no_number k laws p n l t m = none_same p t.0 t.1 m.entry (Listed-entry k laws n m.entry l m.stands) m.same

reply_of_one : (laws : List Equation) (n m : ℕ) → n ≡ m → law_reply n (law_numbered laws n) ≡ law_reply m (law_numbered laws m)
reply_of_one laws n m e = ap (λ i. law_reply i (law_numbered laws i)) e

numbered_reply-only : (k : ℕ) (laws : List Equation) (p : Equation) → IsTheList k laws → (r s : Reply) → NumberedReply k laws p r → NumberedReply k laws p s → r ≡ s
numbered_reply-only k laws p l r s (too_many h e) (too_many i f) = e ∙ sym f
numbered_reply-only k laws p l r s (too_many h e) (trivial i t f) = absurd (omega (arith, h, i))
numbered_reply-only k laws p l r s (too_many h e) (numbered m i n f) = absurd (omega (arith, h, i))
numbered_reply-only k laws p l r s (trivial h t e) (too_many i f) = absurd (omega (arith, h, i))
numbered_reply-only k laws p l r s (trivial h t e) (trivial i u f) = e ∙ sym f
numbered_reply-only k laws p l r s (trivial h t e) (numbered m i n f) = absurd (no_number k laws p m l t n)
numbered_reply-only k laws p l r s (numbered n h a e) (too_many i f) = absurd (omega (arith, h, i))
numbered_reply-only k laws p l r s (numbered n h a e) (trivial i t f) = absurd (no_number k laws p n l t a)
numbered_reply-only k laws p l r s (numbered n h a e) (numbered m i b f) = e ∙ reply_of_one laws n m (one_number_of k laws p n m l a b) ∙ sym f

pub number_reply-only : (k : ℕ) (laws : List Equation) → IsTheList k laws → (text : List ℕ) (r s : Reply) → NumberReply k laws text r → NumberReply k laws text s → r ≡ s
number_reply-only k laws l text r s (unread a h n e) (unread b i m f) = e ∙ ap (λ x. refused (text_refusal x)) (one_law_refusal text a b h i n m) ∙ sym f
number_reply-only k laws l text r s (unread a h n e) (read p i x y f) = absurd (n (law_refused_only text a h p i x y))
number_reply-only k laws l text r s (read p h x y e) (unread a i n f) = absurd (n (law_refused_only text a i p h x y))
number_reply-only k laws l text r s (read p h x y e) (read q i z w f) =
    numbered_reply-only k laws p l r s e (subst (λ (q : Equation). NumberedReply k laws q s) (same_law text q p i h) f)

pub dual_reply-only : (k : ℕ) (laws : List Equation) → IsTheList k laws → (n : ℕ) (o : Option Equation) (r s : Reply) → DualReply laws n o r → DualReply laws n o s → r ≡ s
dual_reply-only k laws l n None r s h i = h ∙ sym i
dual_reply-only k laws l n (Some p) r s h i = h.2 ∙ reply_of_one laws h.0 i.0 (one_number_of k laws (law_dual p) h.0 i.0 l h.1 i.1) ∙ sym i.2
