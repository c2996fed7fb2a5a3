-- Where the file of a name stands, and what a body that was read has.
use Rattle.std.proofs.Common.{◌≡◌, ℕ, ◌+◌, ◌<◌, ◌≤◌, nat_lt, not, cond, List, [], ◌∷◌, ◌++◌, length, All, refl, sym, Option, None, Some, Bool, true, false, arith}
use Rattle.etp_io.specs.Texts.{LineText}
use Rattle.std.specs.Prelude.{IsSome, position, slice_get}
use Rattle.std.specs.List.{position_or_len}
use Rattle.std.proofs.lemmas.List.Elements.{All-nil, All-cons, All-head, All-tail, All-weaker}
use Rattle.std.proofs.Common.{get_or}
use Rattle.std.proofs.Common.{◌-◌}
use Rattle.std.proofs.lemmas.Bool.{lt-ltb, le-ltb}
use Rattle.std.proofs.lemmas.Option.{slice_get-get_or}
use Rattle.etp_laws.specs.Listing.{reflexive_law}
use Rattle.etp_theory.specs.Trees.{Equation}
use Rattle.etp_laws.proofs.Entries.{entry_after}
use Rattle.etp_theory.specs.LawNumbers.{law_numbered, IsLaw}
use Rattle.etp_items.specs.Bodies.{FileBody, table, linear, matrix, rules, proof, model}
use Rattle.etp_items.specs.Reading.{IsBody, IsReadBody}
use Rattle.etp_items.specs.Written.{IsWritableRule}
use Rattle.etp_items.proofs.Writable.{body_writable}
use Rattle.etp_items.proofs.ReadAgain.{listed_numbers}
use Rattle.etp_check.specs.Checks.{IsListedBody, HasContent}
use Rattle.etp_ledger.specs.Files.{File, is_named, body_named, Stands}
use Rattle.etp_ledger.proofs.Lists.{all_at}

len-none : (name : List ℕ) (files : List File) → body_named name files ≡ None → position_or_len (is_named name) files ≡ length files
len-none name [] h = refl
len-none name (f ∷ files) h = go (is_named name f) refl h (len-none name files)
  where
    go : (b : Bool) → is_named name f ≡ b → cond b (Some f.body) (body_named name files) ≡ None
        → (body_named name files ≡ None → position_or_len (is_named name) files ≡ length files)
        → cond (not b) (1 + position_or_len (is_named name) files) 0 ≡ length (f ∷ files)
    go true e h rec = absurd (cc)
    go false e h rec = let r = rec h in omega (arith, r)

len-some : (name : List ℕ) (files : List File) (b : FileBody) → body_named name files ≡ Some b → position_or_len (is_named name) files < length files
len-some name [] b h = absurd (cc)
len-some name (f ∷ files) b h = go (is_named name f) refl h (len-some name files b)
  where
    go : (t : Bool) → is_named name f ≡ t → cond t (Some f.body) (body_named name files) ≡ Some b
        → (body_named name files ≡ Some b → position_or_len (is_named name) files < length files)
        → cond (not t) (1 + position_or_len (is_named name) files) 0 < length (f ∷ files)
    go true e h rec = omega arith
    go false e h rec = let r = rec h in omega (arith, r)

found-at : (a n : ℕ) → ◌≡◌ {A = Option ℕ} (cond (nat_lt a n) (Some a) None) None → a < n → ⊥
found-at a n h l = let e : nat_lt a n ≡ true = lt-ltb a n l in let x : Some a ≡ None = rw e at h in absurd (cc)

-- no file of the name has a place
pub unplaced-free : (name : List ℕ) (files : List File) → position (is_named name) files ≡ None → body_named name files ≡ None
unplaced-free name files h = by (body_named name files) refl
  where
    by : (o : Option FileBody) → body_named name files ≡ o → body_named name files ≡ None
    by None e = e
    by (Some b) e = absurd (found-at _ _ h (len-some name files b e))

-- a file of the name has one
pub placed-stands : (name : List ℕ) (files : List File) (k : ℕ) → position (is_named name) files ≡ Some k → Stands files name
placed-stands name files k h = by (body_named name files) refl
  where
    by : (o : Option FileBody) → body_named name files ≡ o → Stands files name
    by None e = let l : position_or_len (is_named name) files ≡ length files = len-none name files e in
        let f : nat_lt (position_or_len (is_named name) files) (length files) ≡ false = le-ltb (position_or_len (is_named name) files) (length files) (omega (arith, l)) in
        let x : None ≡ Some k = rw f at h in absurd (cc)
    by (Some b) e = rw e refl

-- lines that are a body have what its check requires
pub body-content : (lines : List LineText) (b : FileBody) → IsBody lines b → HasContent b
body-content lines (proof p) h = (body_writable lines (proof p) h).0
body-content lines (model (table size entries) claims) h =
    let w = (body_writable lines (model (table size entries) claims) h).0 in (w.0, w.2)
body-content lines (model (linear l) claims) h = tt
body-content lines (model (matrix g) claims) h = (body_writable lines (model (matrix g) claims) h).0.shape
body-content lines (model (rules w rs) claims) h =
    let system = (body_writable lines (model (rules w rs) claims) h).0 in
    record {
      some = system.some;
      few = system.few;
      small = λ i r s. let one : IsWritableRule r = all_at IsWritableRule rs i r system.each s in (one.left_named, one.right_named);
    }

entry-there : (laws : List Equation) (n : ℕ) → 1 ≤ n → n ≤ length laws → IsSome (law_numbered laws n)
entry-there laws n h k =
    let listed : law_numbered laws n ≡ slice_get laws (n - 1) = entry_after laws n (omega (arith, h)) in
    let there : slice_get laws (n - 1) ≡ Some (get_or laws (n - 1) reflexive_law) = slice_get-get_or laws (n - 1) reflexive_law (omega (arith, h, k)) in
    rw (listed, there) refl

-- and its law numbers are listed
pub body-listed : (laws : List Equation) (count : ℕ) (lines : List LineText) (closed : Bool) (b : FileBody) → count ≡ length laws → IsReadBody count lines closed b → IsListedBody laws b
body-listed laws count lines closed (proof p) e h =
    let listed = listed_numbers count lines closed (proof p) h in
    let hypothesis : IsLaw count p.hypothesis = All-head (IsLaw count) p.hypothesis (p.goal ∷ []) listed in
    let goal : IsLaw count p.goal = All-head (IsLaw count) p.goal [] (All-tail (IsLaw count) p.hypothesis (p.goal ∷ []) listed) in
    record {
      hypothesis_listed = entry-there laws p.hypothesis hypothesis.from_one (rw (sym e) hypothesis.to_last);
      goal_listed = entry-there laws p.goal goal.from_one (rw (sym e) goal.to_last);
    }
body-listed laws count lines closed (model m claims) e h =
    let listed = front_of claims.holds claims.fails (listed_numbers count lines closed (model m claims) h) in
    record { holds_listed = All-weaker (IsLaw count) (λ n. IsSome (law_numbered laws n)) there claims.holds listed.0; fails_listed = All-weaker (IsLaw count) (λ n. IsSome (law_numbered laws n)) there claims.fails listed.1 }
  where
    there : (n : ℕ) → IsLaw count n → IsSome (law_numbered laws n)
    there n h = entry-there laws n h.from_one (rw (sym e) h.to_last)

    front_of : (xs ys : List ℕ) → All (IsLaw count) (xs ++ ys) → All (IsLaw count) xs × All (IsLaw count) ys
    front_of [] ys h = (All-nil (IsLaw count), h)
    front_of (x ∷ xs) ys h =
        let on = front_of xs ys (All-tail (IsLaw count) x (xs ++ ys) h) in
        (All-cons (IsLaw count) x xs (All-head (IsLaw count) x (xs ++ ys) h) on.0, on.1)
