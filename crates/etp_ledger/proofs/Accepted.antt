-- Files that are accepted one after the other: one more, and what they say is right.
use Rattle.std.proofs.Common.{◌≡◌, ℕ, zero, suc, List, [], ◌∷◌, ◌++◌, Bool, true, false, cond, All, Contains, Option, Some, None, IsSome, is_some, map, slice_get, refl, sym, ap, subst, ◌∙◌, append_assoc}
use Rattle.etp_theory.specs.Trees.{Equation}
use Rattle.etp_theory.specs.Reach.{Fact, implies, refutes}
use Rattle.etp_theory.specs.RightFacts.{Implies, IsRightFact}
use Rattle.etp_items.specs.Bodies.{FileBody}
use Rattle.etp_check.specs.Checks.{fact_said, hypothesis_of, cites_of, AreImplied}
use Rattle.etp_theory.specs.LawNumbers.{law_numbered}
use Rattle.etp_check.proofs.Rights.{right_fact}
use Rattle.etp_ledger.specs.Files.{File, facts_of, is_named, body_named, IsFrom, StandsAsProof, ProvesFrom, goal_said, goal_in, cited_goals}
use Rattle.etp_ledger.specs.Accepting.{IsAccepted, AreAcceptedAfter, AreAccepted}
use Rattle.etp_ledger.proofs.Naming.{or_else, named_more}
use Rattle.etp_ledger.proofs.Lists.{all_at, all_from, contains_get, map_origin}

module _ (laws : List Equation) where
  pub accepted_more : (before files : List File) (file : File) → AreAcceptedAfter laws before files → IsAccepted laws (before ++ files) file.name file.body → AreAcceptedAfter laws before (files ++ file ∷ [])
  accepted_more before [] file all one = (subst (λ (fs : List File). IsAccepted laws fs file.name file.body) (append_nil before) one, tt)
    where
      append_nil : (xs : List File) → xs ++ [] ≡ xs
      append_nil [] = refl
      append_nil (x ∷ xs) = ap (λ ys. x ∷ ys) (append_nil xs)
  accepted_more before (x ∷ xs) file all one =
      (all.0, accepted_more (before ++ x ∷ []) xs file all.1 (subst (λ (fs : List File). IsAccepted laws fs file.name file.body) (sym (append_assoc before (x ∷ []) xs)) one))

  -- what the files of names say is right
  abbrev AreRight : List File → Type 0
  AreRight files = (name : List ℕ) (body : FileBody) → body_named name files ≡ Some body → IsRightFact laws (fact_said body)

  -- what an implication from a hypothesis says, where it is right
  from_right : (hypothesis : ℕ) (x : Fact) → IsFrom (Some hypothesis) x → IsRightFact laws x → Implies laws hypothesis (goal_said x)
  from_right hypothesis (implies from goal) e right = let same : from ≡ hypothesis = cc in subst (λ n. Implies laws n goal) same right
  from_right hypothesis (refutes holds fails) e right = absurd e

  goal_listed : (hypothesis : Option ℕ) (x : Fact) → IsFrom hypothesis x → IsRightFact laws x → IsSome (law_numbered laws (goal_said x))
  goal_listed hypothesis (implies from goal) e right = ap is_some right.goal_listed
  goal_listed hypothesis (refutes holds fails) e right = absurd e

  -- the goal of a cited file is implied, and listed
  cited_right : (files : List File) (hypothesis : ℕ) (name : List ℕ) → AreRight files → StandsAsProof files (Some hypothesis) name → Implies laws hypothesis (goal_in (body_named name files))
  cited_right files hypothesis name right stands = by (body_named name files) refl stands
    where
      by : (o : Option FileBody) → body_named name files ≡ o → ProvesFrom (Some hypothesis) o → Implies laws hypothesis (goal_in o)
      by None e h = absurd h
      by (Some body) e h = from_right hypothesis (fact_said body) h (right name body e)

  cited_listed : (files : List File) (hypothesis : Option ℕ) (name : List ℕ) → AreRight files → StandsAsProof files hypothesis name → IsSome (law_numbered laws (goal_in (body_named name files)))
  cited_listed files hypothesis name right stands = by (body_named name files) refl stands
    where
      by : (o : Option FileBody) → body_named name files ≡ o → ProvesFrom hypothesis o → IsSome (law_numbered laws (goal_in o))
      by None e h = absurd h
      by (Some body) e h = goal_listed hypothesis (fact_said body) h (right name body e)

  -- so are those of all cited files
  cites_implied : (files : List File) (hypothesis : Option ℕ) (names : List (List ℕ)) → AreRight files → All (StandsAsProof files hypothesis) names → AreImplied laws hypothesis (map (λ name. goal_in (body_named name files)) names)
  cites_implied files None names right stand = tt
  cites_implied files (Some hypothesis) names right stand =
      all_from (Implies laws hypothesis) (map (λ name. goal_in (body_named name files)) names) (λ k n h.
      let from = map_origin (λ name. goal_in (body_named name files)) names k n h in
      subst (Implies laws hypothesis) from.2 (cited_right files hypothesis from.0 right (all_at (StandsAsProof files (Some hypothesis)) names k from.0 stand from.1)))

  accepted_right : (files : List File) (name : List ℕ) (body : FileBody) → AreRight files → IsAccepted laws files name body → IsRightFact laws (fact_said body)
  accepted_right files name body right one =
      right_fact laws body (cited_goals files body) one.valid.valid (cites_implied files (hypothesis_of body) (cites_of body) right one.valid.cited)

  some_body : (a b : FileBody) → Some a ≡ Some b → a ≡ b
  some_body a b e = cc

  right_more : (files : List File) (file : File) → AreRight files → IsRightFact laws (fact_said file.body) → AreRight (files ++ file ∷ [])
  right_more files file right here name body e = by (body_named name files) refl (sym (named_more name files file) ∙ e)
    where
      last : (b : Bool) → cond b (Some file.body) None ≡ Some body → IsRightFact laws (fact_said body)
      last true e = subst (λ (x : FileBody). IsRightFact laws (fact_said x)) (some_body file.body body e) here
      last false e = cc

      by : (o : Option FileBody) → body_named name files ≡ o → or_else o (body_named name (file ∷ [])) ≡ Some body → IsRightFact laws (fact_said body)
      by None there e = last (is_named name file) e
      by (Some x) there e = right name body (there ∙ e)

  after_right : (before files : List File) → AreRight before → AreAcceptedAfter laws before files → (k : ℕ) (x : Fact) → slice_get (facts_of files) k ≡ Some x → IsRightFact laws x
  after_right before [] right all k x h = cc
  after_right before (file ∷ files) right all zero x h =
      let same : fact_said file.body ≡ x = cc in subst (IsRightFact laws) same (accepted_right before file.name file.body right all.0)
  after_right before (file ∷ files) right all (suc k) x h =
      after_right (before ++ file ∷ []) files (right_more before file right (accepted_right before file.name file.body right all.0)) all.1 k x h

  -- all facts of accepted files are right
  pub facts_right : (files : List File) → AreAccepted laws files → (x : Fact) → Contains (facts_of files) x → IsRightFact laws x
  facts_right files all x there =
      let at = contains_get (facts_of files) x there in
      after_right [] files (λ name body e. absurd (cc)) all at.0 x at.1

  right_after : (before files : List File) → AreRight before → AreAcceptedAfter laws before files → AreRight (before ++ files)
  right_after before [] right all = subst AreRight (sym (append_none before)) right
    where
      append_none : (xs : List File) → xs ++ [] ≡ xs
      append_none [] = refl
      append_none (x ∷ xs) = ap (λ ys. x ∷ ys) (append_none xs)
  right_after before (file ∷ files) right all =
      subst AreRight (append_assoc before (file ∷ []) files) (right_after (before ++ file ∷ []) files (right_more before file right (accepted_right before file.name file.body right all.0)) all.1)

  -- the goals of files that are cited are listed
  pub goals_listed : (files : List File) (body : FileBody) → AreAccepted laws files → All (StandsAsProof files (hypothesis_of body)) (cites_of body) → All (λ n. IsSome (law_numbered laws n)) (cited_goals files body)
  goals_listed files body all stand =
      all_from (λ n. IsSome (law_numbered laws n)) (cited_goals files body) (λ k n h.
      let from = map_origin (λ cite. goal_in (body_named cite files)) (cites_of body) k n h in
      let listed = cited_listed files (hypothesis_of body) from.0 (right_after [] files (λ name body e. absurd (cc)) all) (all_at (StandsAsProof files (hypothesis_of body)) (cites_of body) k from.0 stand from.1) in
      subst (λ m. IsSome (law_numbered laws m)) from.2 listed)
