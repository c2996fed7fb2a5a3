-- The body of the file at the place of a name.
use Rattle.std.proofs.Common.{◌≡◌, ℕ, suc, ◌+◌, ◌<◌, ◌≤◌, List, [], ◌∷◌, length, Bool, true, false, not, cond, nat_lt, position, slice_get, Option, Some, None, inl, inr, refl, sym, ap, ◌∙◌, arith}
use Rattle.std.specs.List.{position_or_len}
use Rattle.std.proofs.lemmas.Bool.{lt-ltb, le-ltb, cases_lt}
use Rattle.etp_ledger.specs.Files.{File, is_named, body_named}

-- how many files stand before the first of the name
abbrev before : List ℕ → List File → ℕ
before name files = position_or_len (is_named name) files

-- the first file of the name
record First (name : List ℕ) (files : List File) (at : ℕ) : Type 0 where
  pub file : File
  pub there : slice_get files at ≡ Some file
  pub body : body_named name files ≡ Some file.body

next : (f : File) (files : List File) (n : ℕ) → slice_get (f ∷ files) (1 + n) ≡ slice_get files n
next f files n = let s : 1 + n ≡ suc n = omega arith in ap (slice_get (f ∷ files)) s

first : (name : List ℕ) (files : List File) → before name files < length files → First name files (before name files)
first name [] h = absurd (omega (arith, h))
first name (f ∷ files) h = go (is_named name f) refl h (first name files)
  where
    go : (b : Bool) → is_named name f ≡ b → cond (not b) (1 + before name files) 0 < length (f ∷ files)
        → (before name files < length files → First name files (before name files))
        → First name (f ∷ files) (cond (not b) (1 + before name files) 0)
    go true e l rec = record { file = f; there = refl; body = ap (λ t. cond t (Some f.body) (body_named name files)) e }
    go false e l rec =
        let r = rec (omega (arith, l)) in
        record { file = r.file; there = next f files (before name files) ∙ r.there; body = ap (λ t. cond t (Some f.body) (body_named name files)) e ∙ r.body }

none_there : (name : List ℕ) (files : List File) → length files ≤ before name files → body_named name files ≡ None
none_there name [] h = refl
none_there name (f ∷ files) h = go (is_named name f) refl h (none_there name files)
  where
    go : (b : Bool) → is_named name f ≡ b → length (f ∷ files) ≤ cond (not b) (1 + before name files) 0
        → (length files ≤ before name files → body_named name files ≡ None)
        → body_named name (f ∷ files) ≡ None
    go true e l rec = absurd (omega (arith, l))
    go false e l rec = rw e (rec (omega (arith, l)))

-- the file at the place of a name has the body of the name
pub body_at : (name : List ℕ) (files : List File) (at : ℕ) (file : File) → position (is_named name) files ≡ Some at → slice_get files at ≡ Some file → body_named name files ≡ Some file.body
body_at name files at file h s = elim (cases_lt (before name files) (length files)) [
  | inl l ↦
      let one = first name files l in
      let less : nat_lt (before name files) (length files) ≡ true = lt-ltb (before name files) (length files) l in
      let place : Some (before name files) ≡ Some at = rw less at h in
      let same : before name files ≡ at = cc in
      let file_is : Some one.file ≡ Some file = sym one.there ∙ ap (slice_get files) same ∙ s in
      let is : one.file ≡ file = cc in
      one.body ∙ ap (λ (f : File). Some f.body) is
  | inr l ↦
      let less : nat_lt (before name files) (length files) ≡ false = le-ltb (before name files) (length files) l in
      let bad : ◌≡◌ {A = Option ℕ} None (Some at) = rw less at h in
      absurd (cc)
]

-- where the name has no place, it has no body
pub unplaced : (name : List ℕ) (files : List File) → position (is_named name) files ≡ None → body_named name files ≡ None
unplaced name files h = elim (cases_lt (before name files) (length files)) [
  | inl l ↦
      let less : nat_lt (before name files) (length files) ≡ true = lt-ltb (before name files) (length files) l in
      let bad : ◌≡◌ {A = Option ℕ} (Some (before name files)) None = rw less at h in
      absurd (cc)
  | inr l ↦ none_there name files l
]
