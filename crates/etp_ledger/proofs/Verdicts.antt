-- A file and a withdrawal have one verdict.
use Rattle.std.proofs.Common.{◌≡◌, ◌⊎◌, inl, inr, ℕ, zero, suc, ◌+◌, ◌<◌, List, [], ◌∷◌, ◌++◌, All, Option, Some, None, IsSome, is_some, true≢false, take, slice_get, refl, sym, ap, ◌∙◌, subst, arith}
use Rattle.etp_theory.specs.Trees.{Equation}
use Rattle.etp_laws.specs.Listing.{IsTheList}
use Rattle.etp_laws.specs.LawLists.{LawList}
use Rattle.etp_items.specs.Bodies.{FileBody}
use Rattle.etp_check.specs.Checks.{hypothesis_of, cites_of, IsRightBody}
use Rattle.etp_check.specs.Refusals.{IsBodyOffence}
use Rattle.etp_check.specs.declared.refusal.CheckRefusal.{CheckRefusal}
use Rattle.etp_check.proofs.Verdicts.{right_or_refused as body_right_or_refused, one_offence}
use Rattle.etp_ledger.specs.Files.{File, body_named, Stands, StandsAsProof, ProvesFrom, cited_goals}
use Rattle.etp_ledger.specs.Accepting.{IsAccepted, AreAccepted}
use Rattle.etp_ledger.specs.Withdrawing.{Cites, IsWithdrawn, IsFirstCiting}
use Rattle.etp_ledger.specs.Refusals.{IsFileRefused, IsWithdrawalRefused, IsCiteRefused, IsFirstCiteRefused, ProvesOther}
use Rattle.etp_ledger.specs.declared.refusal.LedgerRefusal.{LedgerRefusal}
use Rattle.etp_ledger.specs.declared.refusal.LedgerRefusal.TheVariants.{NameTaken, NoSuchName, Check, UnknownLaw, Cited, CiteMissing, CiteOther, NoMemory}
use Rattle.etp_ledger.proofs.Lists.{all_at}
use Rattle.etp_ledger.proofs.Accepted.{accepted_more}
use Rattle.etp_ledger.proofs.Withdrawn.{withdrawn_accepted}

-- two places are the same, or one comes first
in_order : (i j : ℕ) → (i < j) ⊎ ((i ≡ j) ⊎ (j < i))
in_order i j = grind arith

get_take : {X : Type 0} (xs : List X) (i j : ℕ) → i < j → slice_get (take j xs) i ≡ slice_get xs i
get_take xs i zero h = absurd (omega (arith, h))
get_take [] i (suc j) h = refl
get_take (x ∷ xs) zero (suc j) h = refl
get_take (x ∷ xs) (suc i) (suc j) h = get_take xs i j (omega (arith, h))

one_item : {X : Type 0} (o : Option X) (x y : X) → o ≡ Some x → o ≡ Some y → x ≡ y
one_item o x y h k = cc

stands_or_free : {X : Type 0} (o : Option X) → IsSome o → o ≡ None → ⊥
stands_or_free o h e = true≢false (sym h ∙ ap is_some e)

proves_or_other : (h : Option ℕ) (o : Option FileBody) → ProvesFrom h o → ProvesOther h o → ⊥
proves_or_other h None p q = p
proves_or_other h (Some body) p q = q p

module _ (files : List File) (h : Option ℕ) where
  -- how a cite is refused
  cite_ways : (name : List ℕ) (n : ℕ) (r : LedgerRefusal) → IsCiteRefused files h name n r
      → ((r ≡ CiteMissing n) × (body_named name files ≡ None)) ⊎ ((r ≡ CiteOther n) × ProvesOther h (body_named name files))
  cite_ways name n (CiteMissing c) w = inl (ap CiteMissing w.0, w.1)
  cite_ways name n (CiteOther c) w = inr (ap CiteOther w.0, w.1)
  cite_ways name n NameTaken w = absurd w
  cite_ways name n NoSuchName w = absurd w
  cite_ways name n (Check x) w = absurd w
  cite_ways name n (UnknownLaw x) w = absurd w
  cite_ways name n (Cited x) w = absurd w
  cite_ways name n NoMemory w = absurd w

  refused_or_right : (name : List ℕ) (n : ℕ) (r : LedgerRefusal) → IsCiteRefused files h name n r → StandsAsProof files h name → ⊥
  refused_or_right name n r w stands = by (cite_ways name n r w)
    where
      by : ((r ≡ CiteMissing n) × (body_named name files ≡ None)) ⊎ ((r ≡ CiteOther n) × ProvesOther h (body_named name files)) → ⊥
      by (inl (e, none)) = subst (ProvesFrom h) none stands
      by (inr (e, other)) = proves_or_other h (body_named name files) stands other

  other_not_missing : (o : Option FileBody) → o ≡ None → ProvesOther h o → ⊥
  other_not_missing o none other = subst (ProvesOther h) none other

  one_cite : (name : List ℕ) (n : ℕ) (r s : LedgerRefusal) → IsCiteRefused files h name n r → IsCiteRefused files h name n s → r ≡ s
  one_cite name n r s w v = by (cite_ways name n r w) (cite_ways name n s v)
    where
      by : ((r ≡ CiteMissing n) × (body_named name files ≡ None)) ⊎ ((r ≡ CiteOther n) × ProvesOther h (body_named name files)) → ((s ≡ CiteMissing n) × (body_named name files ≡ None)) ⊎ ((s ≡ CiteOther n) × ProvesOther h (body_named name files)) → r ≡ s
      by (inl (e, none)) (inl (f, again)) = e ∙ sym f
      by (inl (e, none)) (inr (f, other)) = absurd (other_not_missing (body_named name files) none other)
      by (inr (e, other)) (inl (f, none)) = absurd (other_not_missing (body_named name files) none other)
      by (inr (e, other)) (inr (f, again)) = e ∙ sym f

  module _ (names : List (List ℕ)) where
    cites_right_or_refused : (r : LedgerRefusal) → All (StandsAsProof files h) names → IsFirstCiteRefused files h names r → ⊥
    cites_right_or_refused r all w = refused_or_right w.name (w.place + 1) r w.refused (all_at (StandsAsProof files h) names w.place w.name all w.cited)

    not_before : (r s : LedgerRefusal) (w : IsFirstCiteRefused files h names r) (v : IsFirstCiteRefused files h names s) → w.place < v.place → ⊥
    not_before r s w v k =
        refused_or_right w.name (w.place + 1) r w.refused (all_at (StandsAsProof files h) (take v.place names) w.place w.name v.before (get_take names w.place v.place k ∙ w.cited))

    first_cite : (r s : LedgerRefusal) → IsFirstCiteRefused files h names r → IsFirstCiteRefused files h names s → r ≡ s
    first_cite r s w v = go (in_order w.place v.place)
      where
        go : (w.place < v.place) ⊎ ((w.place ≡ v.place) ⊎ (v.place < w.place)) → r ≡ s
        go (inl k) = absurd (not_before r s w v k)
        go (inr (inr k)) = absurd (not_before s r v w k)
        go (inr (inl k)) =
            let same : v.name ≡ w.name = one_item (slice_get names v.place) v.name w.name v.cited (ap (slice_get names) (sym k) ∙ w.cited) in
            let here = subst (λ (n : ℕ). IsCiteRefused files h v.name (n + 1) s) (sym k) v.refused in
            one_cite w.name (w.place + 1) r s w.refused (subst (λ (name : List ℕ). IsCiteRefused files h name (w.place + 1) s) same here)

-- the ways in which a file is refused
data Way (l : LawList) (files : List File) (name : List ℕ) (body : FileBody) (r : LedgerRefusal) : Type 0 where
  taken : r ≡ NameTaken → Stands files name → Way l files name body r
  by_cite : body_named name files ≡ None → IsFirstCiteRefused files (hypothesis_of body) (cites_of body) r → Way l files name body r
  by_check : (x : CheckRefusal) → r ≡ Check x → body_named name files ≡ None
      → All (StandsAsProof files (hypothesis_of body)) (cites_of body) → IsBodyOffence l body (cited_goals files body) x → Way l files name body r
  wanting : r ≡ NoMemory → Way l files name body r

module _ (l : LawList) (files : List File) (name : List ℕ) (body : FileBody) where
  way_of : (r : LedgerRefusal) → IsFileRefused l files name body r → Way l files name body r
  way_of NameTaken w = taken refl w
  way_of (CiteMissing c) w = by_cite w.0 w.1
  way_of (CiteOther c) w = by_cite w.0 w.1
  way_of (Check x) w = by_check x refl w.0 w.1 w.2
  way_of NoMemory w = wanting refl
  way_of NoSuchName w = absurd w
  way_of (UnknownLaw n) w = absurd w
  way_of (Cited n) w = absurd w

  module _ (free : body_named name files ≡ None) (cited : All (StandsAsProof files (hypothesis_of body)) (cites_of body)) (right : IsRightBody l.equations body (cited_goals files body)) where
    way_right : (r : LedgerRefusal) → Way l files name body r → r ≡ NoMemory
    way_right r (taken e stands) = absurd (stands_or_free (body_named name files) stands free)
    way_right r (by_cite same w) = absurd (cites_right_or_refused files (hypothesis_of body) (cites_of body) r cited w)
    way_right r (by_check x e same all w) = absurd (body_right_or_refused l body (cited_goals files body) x right w)
    way_right r (wanting e) = e

    pub right_or_refused : (r : LedgerRefusal) → IsFileRefused l files name body r → r ≡ NoMemory
    right_or_refused r w = way_right r (way_of r w)

  pub accepted_or_refused : (r : LedgerRefusal) → IsAccepted l.equations files name body → IsFileRefused l files name body r → r ≡ NoMemory
  accepted_or_refused r one w = right_or_refused one.free one.valid.cited one.valid.valid.right r w

  one_way : (r s : LedgerRefusal) → IsTheList l.order l.equations → Way l files name body r → Way l files name body s → (r ≡ NoMemory) ⊎ ((s ≡ NoMemory) ⊎ (r ≡ s))
  one_way r s list (wanting e) v = inl e
  one_way r s list (taken e stands) (wanting f) = inr (inl f)
  one_way r s list (taken e stands) (taken f again) = inr (inr (e ∙ sym f))
  one_way r s list (taken e stands) (by_cite free v) = absurd (stands_or_free (body_named name files) stands free)
  one_way r s list (taken e stands) (by_check y f free all v) = absurd (stands_or_free (body_named name files) stands free)
  one_way r s list (by_cite free w) (wanting f) = inr (inl f)
  one_way r s list (by_cite free w) (taken f stands) = absurd (stands_or_free (body_named name files) stands free)
  one_way r s list (by_cite free w) (by_cite same v) = inr (inr (first_cite files (hypothesis_of body) (cites_of body) r s w v))
  one_way r s list (by_cite free w) (by_check y f same all v) = absurd (cites_right_or_refused files (hypothesis_of body) (cites_of body) r all w)
  one_way r s list (by_check x e free all w) (wanting f) = inr (inl f)
  one_way r s list (by_check x e free all w) (taken f stands) = absurd (stands_or_free (body_named name files) stands free)
  one_way r s list (by_check x e free all w) (by_cite same v) = absurd (cites_right_or_refused files (hypothesis_of body) (cites_of body) s all v)
  one_way r s list (by_check x e free all w) (by_check y f same again v) =
      let one = one_offence l body (cited_goals files body) x y list w v in
      inr (inr (e ∙ ap Check one ∙ sym f))

  pub one_refusal : (r s : LedgerRefusal) → IsTheList l.order l.equations → IsFileRefused l files name body r → IsFileRefused l files name body s → (r ≡ NoMemory) ⊎ ((s ≡ NoMemory) ⊎ (r ≡ s))
  one_refusal r s list w v = one_way r s list (way_of r w) (way_of s v)

-- the ways in which a withdrawal is refused
module _ (files : List File) (name : List ℕ) where
  withdrawal_ways : (r : LedgerRefusal) → IsWithdrawalRefused files name r
      → ((r ≡ NoSuchName) × (body_named name files ≡ None)) ⊎ ((by : ℕ) × (r ≡ Cited by) × Stands files name × IsFirstCiting files name by)
  withdrawal_ways NoSuchName w = inl (refl, w)
  withdrawal_ways (Cited by) w = inr (by, refl, w.0, w.1)
  withdrawal_ways NameTaken w = absurd w
  withdrawal_ways (Check x) w = absurd w
  withdrawal_ways (UnknownLaw x) w = absurd w
  withdrawal_ways (CiteMissing x) w = absurd w
  withdrawal_ways (CiteOther x) w = absurd w
  withdrawal_ways NoMemory w = absurd w

  pub withdrawn_or_refused : (after : List File) (r : LedgerRefusal) → IsWithdrawn files name after → ¬ IsWithdrawalRefused files name r
  withdrawn_or_refused after r gone w = go (withdrawal_ways r w)
    where
      go : ((r ≡ NoSuchName) × (body_named name files ≡ None)) ⊎ ((by : ℕ) × (r ≡ Cited by) × Stands files name × IsFirstCiting files name by) → ⊥
      go (inl (e, none)) = stands_or_free (body_named name files) gone.stood none
      go (inr x) = all_at (λ file. ¬ Cites name file) files x.0 x.3.file gone.uncited x.3.stands x.3.cites

  citing_before : (i j : ℕ) → IsFirstCiting files name i → IsFirstCiting files name j → i < j → ⊥
  citing_before i j w v k = all_at (λ file. ¬ Cites name file) (take j files) i w.file v.before (get_take files i j k ∙ w.stands) w.cites

  first_citing : (i j : ℕ) → IsFirstCiting files name i → IsFirstCiting files name j → i ≡ j
  first_citing i j w v = go (in_order i j)
    where
      go : (i < j) ⊎ ((i ≡ j) ⊎ (j < i)) → i ≡ j
      go (inl k) = absurd (citing_before i j w v k)
      go (inr (inl k)) = k
      go (inr (inr k)) = absurd (citing_before j i v w k)

  pub one_withdrawal_refusal : (r s : LedgerRefusal) → IsWithdrawalRefused files name r → IsWithdrawalRefused files name s → r ≡ s
  one_withdrawal_refusal r s w v = go (withdrawal_ways r w) (withdrawal_ways s v)
    where
      go : ((r ≡ NoSuchName) × (body_named name files ≡ None)) ⊎ ((by : ℕ) × (r ≡ Cited by) × Stands files name × IsFirstCiting files name by) → ((s ≡ NoSuchName) × (body_named name files ≡ None)) ⊎ ((by : ℕ) × (s ≡ Cited by) × Stands files name × IsFirstCiting files name by) → r ≡ s
      go (inl (e, none)) (inl (f, again)) = e ∙ sym f
      go (inl (e, none)) (inr y) = absurd (stands_or_free (body_named name files) y.2 none)
      go (inr x) (inl (f, none)) = absurd (stands_or_free (body_named name files) x.2 none)
      go (inr x) (inr y) = x.1 ∙ ap Cited (first_citing x.0 y.0 x.3 y.3) ∙ sym y.1

pub one_more : (laws : List Equation) (files : List File) (name : List ℕ) (body : FileBody) → AreAccepted laws files → IsAccepted laws files name body → AreAccepted laws (files ++ record { name = name; body = body } ∷ [])
one_more laws files name body all one = accepted_more laws [] files (record { name = name; body = body }) all one

pub one_less : (laws : List Equation) (files : List File) (name : List ℕ) (after : List File) → AreAccepted laws files → IsWithdrawn files name after → AreAccepted laws after
one_less laws files name after all gone = subst (AreAccepted laws) (sym gone.gone) (withdrawn_accepted laws name files gone.uncited all)
