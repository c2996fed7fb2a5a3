-- Files that stay accepted when one is taken out.
use Rattle.std.proofs.Common.{◌≡◌, ℕ, zero, suc, List, [], ◌∷◌, ◌++◌, Bool, true, false, cond, Contains, Option, Some, None, slice_get, refl, sym, ap, ◌∙◌}
use Rattle.std.specs.Map.{remove_entry}
use Rattle.std.specs.Str.{bytes_eq}
use Rattle.std.specs.declared.vec.Vec.{Vec}
use Rattle.etp_theory.specs.Trees.{Equation}
use Rattle.etp_theory.specs.Reach.{Fact}
use Rattle.etp_finite_body.specs.FiniteBodies.{FiniteFileBody}
use Rattle.etp_finite.specs.Files.{File, facts_of, is_named, body_named}
use Rattle.etp_finite.specs.Accepting.{IsAccepted, AreAcceptedAfter, AreAccepted}
use Rattle.etp_finite.specs.Withdrawing.{without}
use Rattle.etp_finite.specs.Kept.{file_of, files_of}
use Rattle.etp_finite.specs.declared.kept.Kept.{Kept}
use Rattle.etp_finite.proofs.Lists.{get_contains, contains_get}
use Rattle.etp_finite.proofs.Naming.{or_else, named_more}

-- a name that the one list hasn't the other hasn't either
abbrev HasFewer : List File → List File → Type 0
HasFewer old new = (other : List ℕ) → body_named other old ≡ None → body_named other new ≡ None

neither : (o p : Option FiniteFileBody) → or_else o p ≡ None → (o ≡ None) × (p ≡ None)
neither None p h = (refl, h)
neither (Some x) p h = cc

fewer_more : (old new : List File) (file : File) → HasFewer old new → HasFewer (old ++ file ∷ []) (new ++ file ∷ [])
fewer_more old new file fewer other h =
    let n = neither (body_named other old) (body_named other (file ∷ [])) (sym (named_more other old file) ∙ h) in
    named_more other new file ∙ ap (λ o. or_else o (body_named other (file ∷ []))) (fewer other n.0) ∙ n.1

without_last : (before : List File) (file : File) → HasFewer (before ++ file ∷ []) before
without_last before file other h = (neither (body_named other before) (body_named other (file ∷ [])) (sym (named_more other before file) ∙ h)).0

module _ (laws : List Equation) (name : List ℕ) where
  all_shorter : (old new files : List File) → HasFewer old new → AreAcceptedAfter laws old files → AreAcceptedAfter laws new files
  all_shorter old new [] fewer all = tt
  all_shorter old new (file ∷ files) fewer all = (
    record { spelled = all.0.spelled; free = fewer file.name all.0.free; valid = all.0.valid },
    all_shorter (old ++ file ∷ []) (new ++ file ∷ []) files (fewer_more old new file fewer) all.1,
  )

  without_one : (before : List File) (file : File) (files : List File) (b : Bool) → AreAcceptedAfter laws before (file ∷ files) → AreAcceptedAfter laws (before ++ file ∷ []) (without name files) → AreAcceptedAfter laws before (cond b files (file ∷ without name files))
  without_one before file files true all shorter = all_shorter (before ++ file ∷ []) before files (without_last before file) all.1
  without_one before file files false all shorter = (all.0, shorter)

  without_accepted : (before files : List File) → AreAcceptedAfter laws before files → AreAcceptedAfter laws before (without name files)
  without_accepted before [] all = tt
  without_accepted before (file ∷ files) all =
      without_one before file files (is_named name file) all (without_accepted (before ++ file ∷ []) files all.1)

  pub withdrawn_accepted : (files : List File) → AreAccepted laws files → AreAccepted laws (without name files)
  withdrawn_accepted files all = without_accepted [] files all

-- the files that stay are files that stood
stood_by : (name : List ℕ) (file : File) (files : List File) (x : Fact) (b : Bool) → ((k : ℕ) → slice_get (facts_of (without name files)) k ≡ Some x → (at : ℕ) × (slice_get (facts_of files) at ≡ Some x)) → (k : ℕ) → slice_get (facts_of (cond b files (file ∷ without name files))) k ≡ Some x → (at : ℕ) × (slice_get (facts_of (file ∷ files)) at ≡ Some x)
stood_by name file files x true rest k h = (suc k, h)
stood_by name file files x false rest zero h = (0, h)
stood_by name file files x false rest (suc k) h = let there = rest k h in (suc there.0, there.1)

stood : (name : List ℕ) (files : List File) (x : Fact) (k : ℕ) → slice_get (facts_of (without name files)) k ≡ Some x → (at : ℕ) × (slice_get (facts_of files) at ≡ Some x)
stood name [] x k h = cc
stood name (file ∷ files) x k h = stood_by name file files x (is_named name file) (stood name files x) k h

pub without_stood : (name : List ℕ) (files : List File) (x : Fact) → Contains (facts_of (without name files)) x → Contains (facts_of files) x
without_stood name files x h =
    let at = contains_get (facts_of (without name files)) x h in
    let there = stood name files x at.0 at.1 in
    get_contains (facts_of files) there.0 x there.1

-- the map's entries without one are the files without one
pub removed : {A : Type 0} (name : List ℕ) (es : List (Vec ℕ A × Kept)) → files_of (remove_entry (λ k. bytes_eq name k.items) es) ≡ without name (files_of es)
removed name [] = refl
removed name (e ∷ es) =
    elim (bytes_eq name e.0.items) as (λ b. files_of (cond b es (e ∷ remove_entry (λ k. bytes_eq name k.items) es)) ≡ cond b (files_of es) (file_of e ∷ without name (files_of es))) [ true ↦ refl | false ↦ ap (λ fs. file_of e ∷ fs) (removed name es) ]
