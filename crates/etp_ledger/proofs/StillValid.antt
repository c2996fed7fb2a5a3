-- The body of a file that stands is valid over all files that stand.
use Rattle.std.proofs.Common.{◌≡◌, ℕ, zero, suc, List, [], ◌∷◌, ◌++◌, true, false, cond, Option, Some, None, slice_get, refl, sym, ap, subst, ◌∙◌, append_assoc}
use Rattle.etp_theory.specs.Trees.{Equation}
use Rattle.etp_items.specs.Bodies.{FileBody}
use Rattle.etp_check.specs.Checks.{hypothesis_of, cites_of, IsValidBody}
use Rattle.etp_ledger.specs.Files.{File, is_named, body_named, StandsAsProof, ProvesFrom, goal_in}
use Rattle.etp_ledger.specs.Accepting.{IsValidOver, AreAcceptedAfter, AreAccepted}
use Rattle.etp_ledger.proofs.Lists.{all_at, all_from, map_same}
use Rattle.etp_ledger.proofs.Naming.{or_else}

named_append : (name : List ℕ) (xs ys : List File) → body_named name (xs ++ ys) ≡ or_else (body_named name xs) (body_named name ys)
named_append name [] ys = refl
named_append name (x ∷ xs) ys =
    elim (is_named name x) as (λ b. cond b (Some x.body) (body_named name (xs ++ ys)) ≡ or_else (cond b (Some x.body) (body_named name xs)) (body_named name ys)) [ true ↦ refl | false ↦ named_append name xs ys ]

-- a name that stands is the same file's with more files after it
stands_first : (hypothesis : Option ℕ) (name : List ℕ) (before rest : List File) → StandsAsProof before hypothesis name → body_named name (before ++ rest) ≡ body_named name before
stands_first hypothesis name before rest stands = by (body_named name before) refl stands
  where
    by : (o : Option FileBody) → body_named name before ≡ o → ProvesFrom hypothesis o → body_named name (before ++ rest) ≡ body_named name before
    by None e h = absurd h
    by (Some body) e h = named_append name before rest ∙ ap (λ o. or_else o (body_named name rest)) e ∙ sym e

module _ (laws : List Equation) where
  valid_more : (before rest : List File) (body : FileBody) → IsValidOver laws before body → IsValidOver laws (before ++ rest) body
  valid_more before rest body v = record {
    cited = all_from (StandsAsProof (before ++ rest) (hypothesis_of body)) (cites_of body) (λ k cite h. subst (ProvesFrom (hypothesis_of body)) (sym (same k cite h)) (stands k cite h));
    valid = subst (IsValidBody laws body) (map_same (λ cite. goal_in (body_named cite before)) (λ cite. goal_in (body_named cite (before ++ rest))) (cites_of body) (λ k cite h. ap goal_in (sym (same k cite h)))) v.valid;
  }
    where
      stands : (k : ℕ) (cite : List ℕ) → slice_get (cites_of body) k ≡ Some cite → StandsAsProof before (hypothesis_of body) cite
      stands k cite h = all_at (StandsAsProof before (hypothesis_of body)) (cites_of body) k cite v.cited h

      same : (k : ℕ) (cite : List ℕ) → slice_get (cites_of body) k ≡ Some cite → body_named cite (before ++ rest) ≡ body_named cite before
      same k cite h = stands_first (hypothesis_of body) cite before rest (stands k cite h)

  valid_after : (before files : List File) → AreAcceptedAfter laws before files → (k : ℕ) (file : File) → slice_get files k ≡ Some file → IsValidOver laws (before ++ files) file.body
  valid_after before [] all k file h = cc
  valid_after before (x ∷ xs) all zero file h =
      let same : x ≡ file = cc in
      subst (λ (y : File). IsValidOver laws (before ++ x ∷ xs) y.body) same (valid_more before (x ∷ xs) x.body all.0.valid)
  valid_after before (x ∷ xs) all (suc k) file h =
      subst (λ (fs : List File). IsValidOver laws fs file.body) (append_assoc before (x ∷ []) xs) (valid_after (before ++ x ∷ []) xs all.1 k file h)

  pub valid_at : (files : List File) → AreAccepted laws files → (k : ℕ) (file : File) → slice_get files k ≡ Some file → IsValidOver laws files file.body
  valid_at files all k file h = valid_after [] files all k file h
