-- Laws are judged in one way.
use Rattle.std.proofs.Common.{◌≡◌, ℕ, ◌∙◌, sym, subst, List, Some}
use Rattle.std.proofs.lemmas.List.Elements.{All-contains}
use Rattle.etp_laws.proofs.NumberLists.{contains_at}
use Rattle.etp_theory.specs.Trees.{Equation}
use Rattle.etp_theory.specs.Magmas.{Holds}
use Rattle.etp_linear.specs.Magmas.{LinearMagma, inside, times}
use Rattle.etp_linear.specs.Judgements.{LawHolds, LawFails, IsJudged, IsFirstOffence, in_holds, in_fails}
use Rattle.etp_linear.specs.declared.refusal.LinearRefusal.{LinearRefusal}
use Rattle.etp_linear.proofs.Failing.{fails}
use Rattle.etp_linear.proofs.Judged.{fails_by}

-- one law has one number
pub both : (laws : List Equation) (l : LinearMagma) (n : ℕ) → LawHolds laws l n → LawFails laws l n → ⊥
both laws l n h f =
    let same : Some h.law ≡ Some f.law = sym h.listed ∙ f.listed in
    let eq : h.law ≡ f.law = cc in
    f.fails (subst (λ (e : Equation). Holds (inside l.ring) (times l) e.left e.right) eq h.holds)

pub not_both : (laws : List Equation) (l : LinearMagma) (holds fails : List ℕ) (r : LinearRefusal) → IsJudged laws l holds fails → IsFirstOffence laws l holds fails r → ⊥
not_both laws l holds fails r judged (in_holds o) =
    both laws l o.number (All-contains (LawHolds laws l) holds o.number judged.holding (contains_at holds o.place o.number o.stands)) (fails_by laws l o.number o.failure o.fails)
not_both laws l holds fails r judged (in_fails a o) =
    both laws l o.number o.holds (All-contains (LawFails laws l) fails o.number judged.failing (contains_at fails o.place o.number o.stands))
