-- A cover's law that fails does so in the magma of the cover's file.
use Rattle.std.proofs.Common.{◌≡◌, ℕ, List, Bool, true, false, Contains, Some, slice_get, length, refl, sym, ap, subst, ◌∙◌}
use Rattle.std.specs.Option.{option_map}
use Rattle.std.proofs.lemmas.Option.{slice_get-map, same_Some}
use Rattle.std.proofs.lemmas.List.Elements.{All-contains}
use Rattle.etp_theory.specs.Trees.{Equation}
use Rattle.etp_theory.specs.LawNumbers.{IsLaw, IsOwnInverse}
use Rattle.etp_theory.specs.Reach.{refutes}
use Rattle.etp_laws.specs.Listing.{IsTheList}
use Rattle.etp_laws.specs.LawLists.{LawList}
use Rattle.etp_closure.specs.Tables.{image_of}
use Rattle.etp_chain.specs.Evidence.{IsCover, GivesPair}
use Rattle.etp_chain.specs.declared.evidence.Cover.{Cover}
use Rattle.etp_table.specs.Judgements as Tables
use Rattle.etp_linear.specs.Judgements as Linears
use Rattle.etp_matrix.specs.Judgements as Matrices
use Rattle.etp_canonical.specs.Judgements as Systems
use Rattle.etp_lines.specs.Claims.{Claims}
use Rattle.etp_items.specs.Bodies.{FileBody, Model, table, linear, matrix, rules, proof, model}
use Rattle.etp_check.specs.Checks.{fact_said, HasModelContent, IsRightModel, IsValidBody}
use Rattle.etp_check.proofs.Rights.{listed_fact}
use Rattle.etp_ledger.specs.Files.{File, facts_of, cited_goals}
use Rattle.etp_ledger.specs.Accepting.{IsValidFor}
use Rattle.etp_ledger.specs.Ledgers.{Entries, IsOver}
use Rattle.etp_evidence.specs.Failing.{FailsIn, FailsInBody}

-- a law that is to fail does so
claimed_fails : (laws : List Equation) (m : Model) (claims : Claims) (n : ℕ) → HasModelContent m → IsRightModel laws m claims → Contains claims.fails n → FailsIn laws m n
claimed_fails laws (table size entries) claims n content right there =
    (right.0, All-contains (Tables.LawFails laws (record { size = size; entries = entries })) claims.fails n right.1.failing there)
claimed_fails laws (linear l) claims n content right there = (right.0, All-contains (Linears.LawFails laws l) claims.fails n right.1.failing there)
claimed_fails laws (matrix g) claims n content right there = (right.0, All-contains (Matrices.LawFails laws g) claims.fails n right.1.failing there)
claimed_fails laws (rules w rs) claims n content right there =
    (content, right.0, All-contains (Systems.LawFails laws rs) claims.fails n right.1.failing there)

-- what a valid body says that refutes
refuted : (laws : List Equation) (body : FileBody) (cited holds fails : List ℕ) (n : ℕ) → IsValidBody laws body cited
    → fact_said body ≡ refutes holds fails → Contains fails n → FailsInBody laws body n × IsLaw (length laws) n
refuted laws (proof p) cited holds fails n valid is there = absurd (cc)
refuted laws (model m claims) cited holds fails n valid is there =
    let same : claims.fails ≡ fails = cc in
    let claimed : Contains claims.fails n = subst (λ (l : List ℕ). Contains l n) (sym same) there in
    (claimed_fails laws m claims n valid.content valid.right claimed, All-contains (IsLaw (length laws)) claims.fails n (listed_fact laws (model m claims) valid.listed).1 claimed)

-- the dual of a law's dual is the law
image_twice : (duals : List ℕ) (dual : Bool) (law : ℕ) → IsOwnInverse duals → IsLaw (length duals) law → image_of duals dual (image_of duals dual law) ≡ law
image_twice duals true law own is = own.twice law is
image_twice duals false law own is = refl

image_in : (duals : List ℕ) (dual : Bool) (law : ℕ) → IsOwnInverse duals → IsLaw (length duals) law → IsLaw (length duals) (image_of duals dual law)
image_in duals true law own is = own.within law is
image_in duals false law own is = is

-- the law that fails, as the file has it
pub record Failing (laws : LawList) (body : FileBody) (cover : Cover) : Type 0 where
  pub law_in : IsLaw (length laws.duals) cover.fails
  pub fails : FailsInBody laws.equations body (image_of laws.duals cover.dual cover.fails)

pub cover_fails : (laws : LawList) (ledger : Entries) (e f : ℕ) (cover : Cover) (file : File) → IsOver laws ledger → IsOwnInverse laws.duals
    → IsCover laws.duals (facts_of ledger.files) e f cover → slice_get ledger.files cover.file ≡ Some file
    → IsValidFor ledger.order ledger.files file.body → Failing laws file.body cover
cover_fails laws ledger e f cover file over own is stands valid =
    let g : GivesPair laws.duals (facts_of ledger.files) cover.file cover.dual cover.holds cover.fails = is.pair.least.gives in
    let said : fact_said file.body ≡ refutes g.all_holds g.all_fails =
    same_Some _ _ (sym (ap (option_map (λ (x : File). fact_said x.body)) stands) ∙ sym (slice_get-map (λ (x : File). fact_said x.body) ledger.files cover.file) ∙ g.said) in
    let right = valid laws.equations (subst (λ k. IsTheList k laws.equations) (sym over.same_order) over.list) in
    let known = refuted laws.equations file.body (cited_goals ledger.files file.body) g.all_holds g.all_fails g.fail right.valid said g.fail_in in
    let many : length laws.equations ≡ length laws.duals = sym over.same_size ∙ ap length over.same_duals in
    let law : IsLaw (length laws.duals) g.fail = subst (λ k. IsLaw k g.fail) many known.1 in
    record {
      law_in = subst (IsLaw (length laws.duals)) (sym g.to) (image_in laws.duals cover.dual g.fail own law);
      fails = subst (FailsInBody laws.equations file.body) (sym (ap (image_of laws.duals cover.dual) g.to ∙ image_twice laws.duals cover.dual g.fail own law)) known.0;
    }
