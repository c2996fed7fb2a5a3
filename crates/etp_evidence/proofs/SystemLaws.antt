-- What isn't found of a law that fails in a rule system, and of a system whose rules are allowed.
use Rattle.std.proofs.Common.{◌≡◌, ℕ, List, Some, inl, inr, refl, subst}
use Rattle.etp_theory.specs.Trees.{Equation}
use Rattle.etp_theory.specs.Weights.{Weight}
use Rattle.etp_theory.specs.LawNumbers.{law_numbered}
use Rattle.etp_term.specs.declared.term.Term.{Term}
use Rattle.etp_rules.specs.Deciding.{IsInRange, AreAllowed}
use Rattle.etp_rules.specs.declared.deciding.RulesRefusal.{RulesRefusal}
use Rattle.etp_rules.proofs.Refusals.{never_both}
use Rattle.etp_pairs.specs.Judging.{IsJudged}
use Rattle.etp_pairs.specs.declared.judging.Judged.{Judged}
use Rattle.etp_pairs.specs.declared.judging.Judged.TheVariants as Verdict
use Rattle.etp_canonical.specs.Judgements.{LawFails}
use Rattle.etp_canonical.specs.declared.refusal.ClaimRefusal.TheVariants as Claim
use Rattle.etp_canonical.proofs.Found.{failed_or_not}
use Rattle.etp_check.specs.Refusals.{IsSystemRefused}
use Rattle.etp_check.specs.declared.refusal.CheckRefusal.{CheckRefusal}
use Rattle.etp_check.specs.declared.refusal.CheckRefusal.TheVariants.{Rules}

module _ (laws rs : List Equation) (n : ℕ) (law : Equation) (listed : law_numbered laws n ≡ Some law) (fails : LawFails laws rs n) where
  pub never_one_form : (j : Judged) (u : Term) → j ≡ Verdict.OneForm u → IsJudged rs law.left law.right j → ⊥
  never_one_form j u is h =
      let forms = subst (IsJudged rs law.left law.right) is h in
      failed_or_not laws rs n (Claim.FailsHolds n u) fails (refl, record { law = law; listed = listed; of_left = forms.0; of_right = forms.1 })

  pub never_too_large : (j : Judged) → j ≡ Verdict.TermLimit → IsJudged rs law.left law.right j → ⊥
  never_too_large j is h =
      failed_or_not laws rs n (Claim.TermLimit n) fails (refl, record { law = law; listed = listed; found = subst (IsJudged rs law.left law.right) is h })

  pub never_too_long : (j : Judged) → j ≡ Verdict.StepLimit → IsJudged rs law.left law.right j → ⊥
  never_too_long j is h =
      failed_or_not laws rs n (Claim.StepLimit n) fails (refl, record { law = law; listed = listed; found = subst (IsJudged rs law.left law.right) is h })

pub never_refused : (w : Weight) (rs : List Equation) (r : CheckRefusal) (t : RulesRefusal) → IsSystemRefused w rs r → r ≡ Rules t → IsInRange w → AreAllowed w rs → ⊥
never_refused w rs r t (inl e) is range allowed = absurd (cc)
never_refused w rs r t (inr (s, e, refused)) is range allowed = never_both w rs s refused range allowed
