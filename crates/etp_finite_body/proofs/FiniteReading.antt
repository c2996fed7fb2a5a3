-- A reader of bodies about finite magmas with one line more, and at its end.
use Rattle.std.proofs.Common.{◌≡◌, ℕ, inl, inr, Bool, List, [], ◌∷◌, ◌++◌, refl, sym, ap, subst, ◌∙◌, IfOk, IfErr, OnOk, Result, Ok, Err}
use Rattle.etp_io.specs.Texts.{LineText, whole, too_long}
use Rattle.etp_words.specs.Words.{IsBlankLine}
use Rattle.etp_reading.proofs.Theorems.{reading_theorems}
use Rattle.etp_lines.specs.BodyLines.{bodies}
use Rattle.etp_lines.proofs.OneLine as Lines
use Rattle.etp_items.specs.Work as Items
use Rattle.etp_items.specs.declared.reader.BodyReader.{BodyReader}
use Rattle.etp_finite_lines.specs.FiniteLines.{finite_proofs}
use Rattle.etp_finite_lines.proofs.OneFiniteLine.{one}
use Rattle.etp_reading.specs.declared.refusal.BodyRefusal.{BodyRefusal}
use Rattle.etp_finite_body.specs.FiniteBodies.{finite_body_of}
use Rattle.etp_finite_body.specs.Reading.{IsBlankText, IsInfinite, IsModel, RefusesBody, IsReadFiniteBody, FiniteRefuses}
use Rattle.etp_finite_body.specs.Work.{BeginsFinite, BeginsOther, ReadsModel, ReadsProof, BeginsAs, HasReadProof, HasBegun, HasReadFinite}
use Rattle.etp_finite_body.specs.declared.body.FiniteBody.{FiniteBody}
use Rattle.etp_finite_body.specs.declared.refusal.FiniteBodyRefusal.{FiniteBodyRefusal}
use Rattle.etp_finite_body.specs.declared.refusal.FiniteBodyRefusal.TheVariants.{Infinite as NoFinite, Body}
use Rattle.etp_finite_body.specs.declared.proof_reader.ProofReader.{ProofReader}
use Rattle.etp_finite_body.specs.declared.first.First.{First}
use Rattle.etp_finite_body.specs.declared.first.First.TheVariants.{Blank, Infinite, Model, Proof}
use Rattle.etp_finite_body.specs.declared.reader.FiniteReader.{FiniteReader}
use Rattle.etp_finite_body.proofs.FirstLemmas.{first_more, first_at, blank_more, none_first, first_apart}

begun_at : (r : FiniteReader) (first : First) (count : ℕ) (lines : List LineText) → r.first ≡ first → HasReadFinite count r lines → HasBegun first r lines
begun_at r first count lines e h = subst (λ (f : First). HasBegun f r lines) e h.begun

-- behind the first line that isn't blank
pub more_infinite : (r : FiniteReader) (x : LineText) → r.first ≡ Infinite → (count : ℕ) (lines : List LineText) → HasReadFinite count r lines → HasReadFinite count r (lines ++ x ∷ [])
more_infinite r x e count lines h = record {
  begun = subst (λ (f : First). HasBegun f r (lines ++ x ∷ [])) (sym e) (first_more IsInfinite lines (x ∷ []) (begun_at r Infinite count lines e h));
  models_count = h.models_count;
  proofs_count = h.proofs_count;
}

pub more_model : {E : Type 0} (r : FiniteReader) (models : BodyReader) (o : Result (Unit {0}) E) (x : LineText) → r.first ≡ Model
    → OnOk o ((lines : List LineText) → Items.HasRead r.models lines → Items.HasRead models (lines ++ x ∷ [])) → OnOk o (models.tally.count ≡ r.models.tally.count)
    → OnOk o ((count : ℕ) (lines : List LineText) → HasReadFinite count r lines → HasReadFinite count (record r { models = models }) (lines ++ x ∷ []))
more_model r models (Err z) x e on same = tt
more_model r models (Ok u) x e on same = λ count lines h.
    let b = begun_at r Model count lines e h in
    record {
      begun = subst (λ (f : First). HasBegun f (record r { models = models }) (lines ++ x ∷ [])) (sym e) (on lines b.0, first_more BeginsFinite lines (x ∷ []) b.1);
      models_count = same ∙ h.models_count;
      proofs_count = h.proofs_count;
    }

pub more_proof : {E : Type 0} (r : FiniteReader) (proofs : ProofReader) (o : Result (Unit {0}) E) (x : LineText) → r.first ≡ Proof
    → OnOk o ((lines : List LineText) → HasReadProof r.proofs lines → HasReadProof proofs (lines ++ x ∷ [])) → OnOk o (proofs.tally.count ≡ r.proofs.tally.count)
    → OnOk o ((count : ℕ) (lines : List LineText) → HasReadFinite count r lines → HasReadFinite count (record r { proofs = proofs }) (lines ++ x ∷ []))
more_proof r proofs (Err z) x e on same = tt
more_proof r proofs (Ok u) x e on same = λ count lines h.
    let b = begun_at r Proof count lines e h in
    record {
      begun = subst (λ (f : First). HasBegun f (record r { proofs = proofs }) (lines ++ x ∷ [])) (sym e) (first_more BeginsOther lines (x ∷ []) b.0, on lines b.1);
      models_count = h.models_count;
      proofs_count = same ∙ h.proofs_count;
    }

-- behind blank lines
module _ (r : FiniteReader) (blank : r.first ≡ Blank) where
  pub blank_pushed : (models : BodyReader) (proofs : ProofReader) (x : LineText) → IsBlankText x
      → ((lines : List LineText) → Items.HasRead r.models lines → Items.HasRead models (lines ++ x ∷ []))
      → ((lines : List LineText) (bytes : List ℕ) → HasReadProof r.proofs lines → IsBlankLine bytes → HasReadProof proofs (lines ++ whole bytes ∷ []))
      → models.tally.count ≡ r.models.tally.count → proofs.tally.count ≡ r.proofs.tally.count
      → (count : ℕ) (lines : List LineText) → HasReadFinite count r lines → HasReadFinite count (record r { models = models; proofs = proofs }) (lines ++ x ∷ [])
  blank_pushed models proofs too_long is on next m p count lines h = absurd is
  blank_pushed models proofs (whole bytes) is on next m p count lines h =
      let b = begun_at r Blank count lines blank h in
      record {
        begun = subst (λ (f : First). HasBegun f (record r { models = models; proofs = proofs }) (lines ++ whole bytes ∷ [])) (sym blank)
            (blank_more lines (whole bytes) b.0 is, on lines b.1, next lines bytes b.2 is);
        models_count = m ∙ h.models_count;
        proofs_count = p ∙ h.proofs_count;
      }

  pub infinite_begun : (x : LineText) → BeginsAs Infinite x → (count : ℕ) (lines : List LineText) → HasReadFinite count r lines → HasReadFinite count (record r { first = Infinite }) (lines ++ x ∷ [])
  infinite_begun x is count lines h =
      let b = begun_at r Blank count lines blank h in
      record { begun = first_at IsInfinite lines x b.0 is.0 is.1; models_count = h.models_count; proofs_count = h.proofs_count }

  pub model_begun : (models : BodyReader) (x : LineText) → BeginsAs Model x
      → ((lines : List LineText) → Items.HasRead r.models lines → Items.HasRead models (lines ++ x ∷ [])) → models.tally.count ≡ r.models.tally.count
      → (count : ℕ) (lines : List LineText) → HasReadFinite count r lines → HasReadFinite count (record r { first = Model; models = models }) (lines ++ x ∷ [])
  model_begun models x is on m count lines h =
      let b = begun_at r Blank count lines blank h in
      record { begun = (on lines b.1, first_at BeginsFinite lines x b.0 is.0 is.1); models_count = m ∙ h.models_count; proofs_count = h.proofs_count }

  pub proof_begun : (proofs : ProofReader) (x : LineText) → BeginsAs Proof x
      → ((lines : List LineText) → HasReadProof r.proofs lines → HasReadProof proofs (lines ++ x ∷ [])) → proofs.tally.count ≡ r.proofs.tally.count
      → (count : ℕ) (lines : List LineText) → HasReadFinite count r lines → HasReadFinite count (record r { first = Proof; proofs = proofs }) (lines ++ x ∷ [])
  proof_begun proofs x is on p count lines h =
      let b = begun_at r Blank count lines blank h in
      record { begun = (first_at BeginsOther lines x b.0 is.0 is.1, on lines b.2); models_count = h.models_count; proofs_count = p ∙ h.proofs_count }

  pub blank_reads : (count : ℕ) (lines : List LineText) → HasReadFinite count r lines → ReadsProof r.proofs lines × (r.proofs.tally.count ≡ count)
  blank_reads count lines h =
      let b = begun_at r Blank count lines blank h in
      ((b.2, none_first IsInfinite lines b.0, none_first IsModel lines b.0), h.proofs_count)

pub model_reads : (r : FiniteReader) → r.first ≡ Model → (count : ℕ) (lines : List LineText) → HasReadFinite count r lines → ReadsModel r.models lines × (r.models.tally.count ≡ count)
model_reads r e count lines h = (begun_at r Model count lines e h, h.models_count)

pub proof_reads : (r : FiniteReader) → r.first ≡ Proof → (count : ℕ) (lines : List LineText) → HasReadFinite count r lines → ReadsProof r.proofs lines × (r.proofs.tally.count ≡ count)
proof_reads r e count lines h =
    let b = begun_at r Proof count lines e h in
    ((b.1, first_apart BeginsOther IsInfinite lines (λ x o i. o.1 i) b.0, first_apart BeginsOther IsModel lines (λ x o m. o.0 m) b.0), h.proofs_count)

-- at the end
module _ (r : FiniteReader) (closed : Bool) (n : ℕ) (reads : List LineText → Type 0) (all : (count : ℕ) (lines : List LineText) → HasReadFinite count r lines → reads lines × (n ≡ count)) where
  pub ends_ok : (o : Result FiniteBody FiniteBodyRefusal) → IfOk o (λ body. (lines : List LineText) → reads lines → IsReadFiniteBody n lines closed (finite_body_of body))
      → IfOk o (λ body. (count : ℕ) (lines : List LineText) → HasReadFinite count r lines → IsReadFiniteBody count lines closed (finite_body_of body))
  ends_ok (Err e) k = tt
  ends_ok (Ok b) k = λ count lines h. let q = all count lines h in subst (λ m. IsReadFiniteBody m lines closed (finite_body_of b)) q.1 (k lines q.0)

  pub ends_err : (o : Result FiniteBody FiniteBodyRefusal) → IfErr o (λ refusal. (lines : List LineText) → reads lines → FiniteRefuses n lines closed refusal)
      → IfErr o (λ refusal. (count : ℕ) (lines : List LineText) → HasReadFinite count r lines → FiniteRefuses count lines closed refusal)
  ends_err (Ok b) k = tt
  ends_err (Err e) k = λ count lines h. let q = all count lines h in subst (λ m. FiniteRefuses m lines closed e) q.1 (k lines q.0)

-- lines have one refusal
one_body_refusal : (count : ℕ) (lines : List LineText) (closed : Bool) (r s : BodyRefusal) → RefusesBody count lines closed r → RefusesBody count lines closed s → r ≡ s
one_body_refusal count lines closed r s (inl h) (inl k) = (reading_theorems bodies Lines.one).one_refusal count lines closed r s h.1 k.1
one_body_refusal count lines closed r s (inl h) (inr k) = absurd (k.0 h.0)
one_body_refusal count lines closed r s (inr h) (inl k) = absurd (h.0 k.0)
one_body_refusal count lines closed r s (inr h) (inr k) = (reading_theorems finite_proofs one).one_refusal count lines closed r s h.1 k.1

pub one_refusal : (count : ℕ) (lines : List LineText) (closed : Bool) (r s : FiniteBodyRefusal) → FiniteRefuses count lines closed r → FiniteRefuses count lines closed s → r ≡ s
one_refusal count lines closed NoFinite NoFinite h k = refl
one_refusal count lines closed NoFinite (Body s) h k = absurd (k.0 h)
one_refusal count lines closed (Body r) NoFinite h k = absurd (h.0 k)
one_refusal count lines closed (Body r) (Body s) h k = ap Body (one_body_refusal count lines closed r s h.1 k.1)
