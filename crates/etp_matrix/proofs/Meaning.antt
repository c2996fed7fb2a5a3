-- Laws are judged in one way.
use Rattle.std.proofs.Common.{◌≡◌, ℕ, ◌∙◌, sym, subst, List, Some}
use Rattle.std.proofs.lemmas.List.Elements.{All-contains}
use Rattle.etp_laws.proofs.NumberLists.{contains_at}
use Rattle.etp_theory.specs.Trees.{Equation}
use Rattle.etp_theory.specs.Magmas.{Holds}
use Rattle.etp_matrix.specs.Magmas.{MatrixMagma, inside, times}
use Rattle.etp_matrix.specs.Judgements.{LawHolds, LawFails, IsJudged, IsFirstOffence, in_holds, in_fails}
use Rattle.etp_matrix.specs.declared.refusal.MatrixRefusal.{MatrixRefusal}
use Rattle.etp_matrix.proofs.Failing.{fails}
use Rattle.etp_matrix.proofs.Judged.{fails_by}

-- one law has one number
pub both : (laws : List Equation) (g : MatrixMagma) (n : ℕ) → LawHolds laws g n → LawFails laws g n → ⊥
both laws g n h f =
    let same : Some h.law ≡ Some f.law = sym h.listed ∙ f.listed in
    let eq : h.law ≡ f.law = cc in
    f.fails (subst (λ (e : Equation). Holds (inside g) (times g) e.left e.right) eq h.holds)

pub not_both : (laws : List Equation) (g : MatrixMagma) (holds fails : List ℕ) (r : MatrixRefusal) → IsJudged laws g holds fails → IsFirstOffence laws g holds fails r → ⊥
not_both laws g holds fails r judged (in_holds o) =
    both laws g o.number (All-contains (LawHolds laws g) holds o.number judged.holding (contains_at holds o.place o.number o.stands)) (fails_by laws g o.number o.failure o.fails)
not_both laws g holds fails r judged (in_fails a o) =
    both laws g o.number o.holds (All-contains (LawFails laws g) fails o.number judged.failing (contains_at fails o.place o.number o.stands))
