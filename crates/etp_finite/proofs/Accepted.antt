-- Files that are accepted one after the other: one more, and what they say is right.
use Rattle.std.proofs.Common.{◌≡◌, ℕ, zero, suc, List, [], ◌∷◌, ◌++◌, Contains, Some, All, IsSome, is_some, true≢false, length, slice_get, refl, sym, ap, subst, ◌∙◌, append_assoc, append-nil, arith}
use Rattle.std.proofs.lemmas.List.Elements.{All-weaker}
use Rattle.std.proofs.lemmas.Option.{slice_get_within}
use Rattle.etp_theory.specs.Trees.{Equation}
use Rattle.etp_theory.specs.LawNumbers.{IsLaw, law_numbered}
use Rattle.etp_theory.specs.Reach.{Fact}
use Rattle.etp_laws.proofs.Entries.{entry_zero}
use Rattle.etp_replay.specs.Validity.{law_at}
use Rattle.etp_replay.proofs.Goals.{listed_law}
use Rattle.etp_cancel.specs.FiniteFacts.{IsRightFiniteFact}
use Rattle.etp_finite_body.specs.FiniteBodies.{FiniteFileBody, proof, model}
use Rattle.etp_finite_check.specs.FiniteChecks.{fact_said, IsListedBody}
use Rattle.etp_finite_check.proofs.FiniteRights.{right_fact}
use Rattle.etp_finite.specs.Files.{File, facts_of}
use Rattle.etp_finite.specs.Accepting.{IsAccepted, AreAcceptedAfter, AreAccepted}
use Rattle.etp_finite.specs.Naming.{HasLaws}
use Rattle.etp_finite.proofs.Lists.{contains_get}

module _ (laws : List Equation) where
  pub accepted_more : (before files : List File) (file : File) → AreAcceptedAfter laws before files → IsAccepted laws (before ++ files) file.name file.body → AreAcceptedAfter laws before (files ++ file ∷ [])
  accepted_more before [] file all one = (subst (λ (fs : List File). IsAccepted laws fs file.name file.body) (append-nil before) one, tt)
  accepted_more before (x ∷ xs) file all one =
      (all.0, accepted_more (before ++ x ∷ []) xs file all.1 (subst (λ (fs : List File). IsAccepted laws fs file.name file.body) (sym (append_assoc before (x ∷ []) xs)) one))

  after_right : (before files : List File) → AreAcceptedAfter laws before files → (k : ℕ) (x : Fact) → slice_get (facts_of files) k ≡ Some x → IsRightFiniteFact laws x
  after_right before [] all k x h = cc
  after_right before (file ∷ files) all zero x h =
      let same : fact_said file.body ≡ x = cc in subst (IsRightFiniteFact laws) same (right_fact laws file.body all.0.valid)
  after_right before (file ∷ files) all (suc k) x h = after_right (before ++ file ∷ []) files all.1 k x h

  -- all facts of accepted files are right
  pub facts_right : (files : List File) → AreAccepted laws files → (x : Fact) → Contains (facts_of files) x → IsRightFiniteFact laws x
  facts_right files all x there =
      let at = contains_get (facts_of files) x there in
      after_right [] files all at.0 x at.1

  -- a listed number is one of the list's laws
  listed_number : (n : ℕ) → IsSome (law_numbered laws n) → IsLaw (length laws) n
  listed_number zero h = absurd (true≢false (sym h ∙ ap is_some (entry_zero laws 0 refl)))
  listed_number (suc k) h =
      let there : slice_get laws k ≡ Some (law_at laws (suc k)) = listed_law laws (suc k) h in
      let within = slice_get_within laws k (law_at laws (suc k)) there in
      record { from_one = omega arith; to_last = omega arith }

  pub listed_fact : (body : FiniteFileBody) → IsListedBody laws body → HasLaws (length laws) (fact_said body)
  listed_fact (proof p) listed = (listed_number p.hypothesis listed.hypothesis_listed, listed_number p.goal listed.goal_listed)
  listed_fact (model m claims) listed = (
    All-weaker (λ n. IsSome (law_numbered laws n)) (IsLaw (length laws)) listed_number claims.holds listed.holds_listed,
    All-weaker (λ n. IsSome (law_numbered laws n)) (IsLaw (length laws)) listed_number claims.fails listed.fails_listed,
  )
