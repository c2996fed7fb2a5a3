-- Files that stay accepted when one that no file cites is taken out.
use Rattle.std.proofs.Common.{◌≡◌, ◌≢◌, ℕ, zero, suc, List, [], ◌∷◌, ◌++◌, Bool, true, false, cond, All, Contains, Option, Some, None, IsSome, is_some, slice_get, refl, sym, ap, subst, ◌∙◌, true≢false}
use Rattle.std.specs.Map.{remove_entry}
use Rattle.std.specs.Str.{bytes_eq}
use Rattle.std.specs.declared.vec.Vec.{Vec}
use Rattle.etp_theory.specs.Trees.{Equation}
use Rattle.etp_theory.specs.Reach.{Fact}
use Rattle.etp_items.specs.Bodies.{FileBody}
use Rattle.etp_check.specs.Checks.{hypothesis_of, cites_of, IsValidBody}
use Rattle.etp_ledger.specs.Files.{File, facts_of, is_named, body_named, Stands, StandsAsProof, ProvesFrom, goal_in}
use Rattle.etp_ledger.specs.Accepting.{IsAccepted, AreAcceptedAfter, AreAccepted}
use Rattle.etp_ledger.specs.Withdrawing.{Cites, without}
use Rattle.etp_ledger.specs.Kept.{file_of, files_of}
use Rattle.etp_ledger.specs.declared.kept.Kept.{Kept}
use Rattle.etp_ledger.proofs.Lists.{all_at, all_from, all_first, all_rest, get_contains, contains_get, map_same}
use Rattle.etp_ledger.proofs.Naming.{same_bytes, or_else, named_more}

-- both lists have the same files of all names but one
abbrev AgreeBut : List ℕ → List File → List File → Type 0
AgreeBut name old new = (other : List ℕ) → other ≢ name → body_named other new ≡ body_named other old

agree_more : (name : List ℕ) (old new : List File) (file : File) → AgreeBut name old new → AgreeBut name (old ++ file ∷ []) (new ++ file ∷ [])
agree_more name old new file agree other differs =
    named_more other new file ∙ ap (λ o. or_else o (body_named other (file ∷ []))) (agree other differs) ∙ sym (named_more other old file)

stands_more : (name : List ℕ) (files : List File) (file : File) → Stands files name → Stands (files ++ file ∷ []) name
stands_more name files file stands = subst IsSome (sym (named_more name files file)) (by (body_named name files) stands)
  where
    by : (o : Option FileBody) → IsSome o → IsSome (or_else o (body_named name (file ∷ [])))
    by None h = absurd (true≢false (sym h))
    by (Some x) h = refl

-- a file that doesn't have the name
unnamed : (name : List ℕ) (file : File) → is_named name file ≡ false → (other : List ℕ) → other ≡ name → is_named other file ≡ false
unnamed name file h other e = ap (λ n. is_named n file) e ∙ h

module _ (laws : List Equation) (name : List ℕ) where
  one_shorter : (old new : List File) (file : File) → AgreeBut name old new → Stands old name → ¬ Cites name file → IsAccepted laws old file.name file.body → IsAccepted laws new file.name file.body
  one_shorter old new file agree stands uncited one = record {
    spelled = one.spelled;
    free = agree file.name own ∙ one.free;
    valid = record {
      cited = all_from (StandsAsProof new (hypothesis_of file.body)) (cites_of file.body) (λ k cite h. subst (ProvesFrom (hypothesis_of file.body)) (sym (agree cite (apart k cite h))) (all_at (StandsAsProof old (hypothesis_of file.body)) (cites_of file.body) k cite one.valid.cited h));
      valid = subst (IsValidBody laws file.body) (map_same (λ cite. goal_in (body_named cite old)) (λ cite. goal_in (body_named cite new)) (cites_of file.body) (λ k cite h. ap goal_in (sym (agree cite (apart k cite h))))) one.valid.valid;
    };
  }
    where
      own : file.name ≢ name
      own e = true≢false (sym stands ∙ ap is_some (ap (λ n. body_named n old) (sym e) ∙ one.free))

      apart : (k : ℕ) (cite : List ℕ) → slice_get (cites_of file.body) k ≡ Some cite → cite ≢ name
      apart k cite h e = uncited (get_contains (cites_of file.body) k name (h ∙ ap Some e))

  all_shorter : (old new files : List File) → AgreeBut name old new → Stands old name → All (λ file. ¬ Cites name file) files → AreAcceptedAfter laws old files → AreAcceptedAfter laws new files
  all_shorter old new [] agree stands uncited all = tt
  all_shorter old new (file ∷ files) agree stands uncited all = (
    one_shorter old new file agree stands (all_first (λ file. ¬ Cites name file) file files uncited) all.0,
    all_shorter (old ++ file ∷ []) (new ++ file ∷ []) files (agree_more name old new file agree) (stands_more name old file stands) (all_rest (λ file. ¬ Cites name file) file files uncited) all.1,
  )

  -- the list without its last file, which has the name
  without_last : (before : List File) (file : File) → is_named name file ≡ true → AgreeBut name (before ++ file ∷ []) before
  without_last before file h other differs = sym (named_more other before file ∙ ap (or_else (body_named other before)) (no (is_named other file) refl) ∙ nothing (body_named other before))
    where
      no : (b : Bool) → is_named other file ≡ b → cond b (Some file.body) None ≡ None
      no true e = absurd (differs (same_bytes other file.name e ∙ sym (same_bytes name file.name h)))
      no false e = refl

      nothing : (o : Option FileBody) → or_else o None ≡ o
      nothing None = refl
      nothing (Some x) = refl

  stands_last : (before : List File) (file : File) → is_named name file ≡ true → Stands (before ++ file ∷ []) name
  stands_last [] file h = ap (λ b. is_some (cond b (Some file.body) None)) h
  stands_last (x ∷ xs) file h = elim (is_named name x) as (λ b. is_some (cond b (Some x.body) (body_named name (xs ++ file ∷ []))) ≡ true) [ true ↦ refl | false ↦ stands_last xs file h ]

  without_one : (before : List File) (file : File) (files : List File) (b : Bool) → is_named name file ≡ b → All (λ file. ¬ Cites name file) files → AreAcceptedAfter laws before (file ∷ files) → AreAcceptedAfter laws (before ++ file ∷ []) (without name files) → AreAcceptedAfter laws before (cond b files (file ∷ without name files))
  without_one before file files true h rest all shorter = all_shorter (before ++ file ∷ []) before files (without_last before file h) (stands_last before file h) rest all.1
  without_one before file files false h rest all shorter = (all.0, shorter)

  without_accepted : (before files : List File) → All (λ file. ¬ Cites name file) files → AreAcceptedAfter laws before files → AreAcceptedAfter laws before (without name files)
  without_accepted before [] uncited all = tt
  without_accepted before (file ∷ files) uncited all =
      let rest = all_rest (λ file. ¬ Cites name file) file files uncited in
      without_one before file files (is_named name file) refl rest all (without_accepted (before ++ file ∷ []) files rest all.1)

  pub withdrawn_accepted : (files : List File) → All (λ file. ¬ Cites name file) files → AreAccepted laws files → AreAccepted laws (without name files)
  withdrawn_accepted files uncited all = without_accepted [] files uncited all

-- the files that stay are files that stood
stood_by : (name : List ℕ) (file : File) (files : List File) (x : Fact) (b : Bool) → ((k : ℕ) → slice_get (facts_of (without name files)) k ≡ Some x → (at : ℕ) × (slice_get (facts_of files) at ≡ Some x)) → (k : ℕ) → slice_get (facts_of (cond b files (file ∷ without name files))) k ≡ Some x → (at : ℕ) × (slice_get (facts_of (file ∷ files)) at ≡ Some x)
stood_by name file files x true rest k h = (suc k, h)
stood_by name file files x false rest zero h = (0, h)
stood_by name file files x false rest (suc k) h = let there = rest k h in (suc there.0, there.1)

stood : (name : List ℕ) (files : List File) (x : Fact) (k : ℕ) → slice_get (facts_of (without name files)) k ≡ Some x → (at : ℕ) × (slice_get (facts_of files) at ≡ Some x)
stood name [] x k h = cc
stood name (file ∷ files) x k h = stood_by name file files x (is_named name file) (stood name files x) k h

pub without_stood : (name : List ℕ) (files : List File) (x : Fact) → Contains (facts_of (without name files)) x → Contains (facts_of files) x
without_stood name files x h =
    let at = contains_get (facts_of (without name files)) x h in
    let there = stood name files x at.0 at.1 in
    get_contains (facts_of files) there.0 x there.1

-- the map's entries without one are the files without one
pub removed : {A : Type 0} (name : List ℕ) (es : List (Vec ℕ A × Kept)) → files_of (remove_entry (λ k. bytes_eq name k.items) es) ≡ without name (files_of es)
removed name [] = refl
removed name (e ∷ es) =
    elim (bytes_eq name e.0.items) as (λ b. files_of (cond b es (e ∷ remove_entry (λ k. bytes_eq name k.items) es)) ≡ cond b (files_of es) (file_of e ∷ without name (files_of es))) [ true ↦ refl | false ↦ ap (λ fs. file_of e ∷ fs) (removed name es) ]
