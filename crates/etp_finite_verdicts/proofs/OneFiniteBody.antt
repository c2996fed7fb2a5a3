-- Lines about finite magmas are one body, and lines that are one have no refusal.
use Rattle.std.proofs.Common.{◌≡◌, ℕ, inl, inr, Bool, List, [], ◌∷◌, ◌++◌, map, refl, sym, ap, ◌∙◌, append-nil}
use Rattle.etp_theory.specs.Proofs.{ProofStep}
use Rattle.etp_io.specs.Texts.{LineText}
use Rattle.etp_reading.proofs.Theorems.{reading_theorems}
use Rattle.etp_lines.specs.ProofLines.{plain, heading, lemma, step}
use Rattle.etp_lines.specs.BodyLines.{of_proofs, proof_line}
use Rattle.etp_items.specs.Bodies as Bodies
use Rattle.etp_items.specs.Bodies.{FileBody}
use Rattle.etp_items.proofs.Theorems.{body_theorems}
use Rattle.etp_cancel.specs.Cancelling.{FiniteLemma, by_steps, by_cancel}
use Rattle.etp_finite_lines.specs.FiniteLines.{FiniteLine, body, cancel, opening, finite_proofs}
use Rattle.etp_finite_lines.proofs.OneFiniteLine.{one}
use Rattle.etp_finite_body.specs.FiniteBodies.{FiniteProofBody, FiniteFileBody, proof, model, finite_lemma_lines, finite_proof_lines}
use Rattle.etp_finite_body.specs.Reading.{IsReadProof, IsReadFiniteBody, IsModel, IsInfinite, FirstIs, FiniteRefuses}
use Rattle.etp_finite_body.specs.Work.{BeginsFinite}
use Rattle.etp_finite_body.specs.declared.refusal.FiniteBodyRefusal.{FiniteBodyRefusal}
use Rattle.etp_finite_body.specs.declared.refusal.FiniteBodyRefusal.TheVariants.{Infinite, Body}
use Rattle.etp_finite_body.proofs.FirstLemmas.{first_apart, first_weaker}
use Rattle.etp_finite_verdicts.proofs.FirstSaid.{SaysText, first_says, heading_apart, heading_finite, model_first, as_body}

-- the lemmas of lines, from the last one on: steps whose lemma hasn't come, and lemmas
record Parsed : Type 0 where
  steps : List ProofStep
  lemmas : List FiniteLemma

abbrev add : FiniteLine → Parsed → Parsed
add (body (of_proofs, step x)) s = record { steps = x ∷ s.steps; lemmas = s.lemmas }
add (body (of_proofs, lemma t)) s = record { steps = []; lemmas = by_steps (record { start = t; steps = s.steps }) ∷ s.lemmas }
add (cancel c) s = record { steps = []; lemmas = by_cancel c ∷ s.lemmas }
add _ s = s

abbrev parsed : List FiniteLine → Parsed
parsed [] = record { steps = []; lemmas = [] }
parsed (x ∷ xs) = add x (parsed xs)

steps_parsed : (xs : List ProofStep) (rest : List FiniteLine)
    → parsed (map (λ x. body (proof_line (step x))) xs ++ rest) ≡ record { steps = xs ++ (parsed rest).steps; lemmas = (parsed rest).lemmas }
steps_parsed [] rest = refl
steps_parsed (x ∷ xs) rest = ap (add (body (proof_line (step x)))) (steps_parsed xs rest)

lemmas_parsed : (ls : List FiniteLemma) → parsed (finite_lemma_lines ls) ≡ record { steps = []; lemmas = ls }
lemmas_parsed [] = refl
lemmas_parsed (by_steps l ∷ ls) =
    let here = steps_parsed l.steps (finite_lemma_lines ls) ∙ ap (λ (p : Parsed). record { steps = l.steps ++ p.steps; lemmas = p.lemmas }) (lemmas_parsed ls)
    ∙ ap (λ (z : List ProofStep). record { steps = z; lemmas = ls }) (append-nil l.steps) in
    ap (add (body (proof_line (lemma l.start)))) here
lemmas_parsed (by_cancel c ∷ ls) = ap (add (cancel c)) (lemmas_parsed ls)

-- the two laws of a heading
abbrev laws_in : FiniteLine → ℕ × ℕ
laws_in (body (of_proofs, heading v hypothesis goal)) = (hypothesis, goal)
laws_in _ = (0, 0)

-- a proof is told by its lines
one_proof : (p q : FiniteProofBody) → finite_proof_lines p ≡ finite_proof_lines q → p ≡ q
one_proof p q e =
    let head : body (proof_line (heading plain p.hypothesis p.goal)) ≡ body (proof_line (heading plain q.hypothesis q.goal)) = cc in
    let tail : finite_lemma_lines p.lemmas ≡ finite_lemma_lines q.lemmas = cc in
    let both : Path (ℕ × ℕ) (p.hypothesis, p.goal) (q.hypothesis, q.goal) = ap laws_in head in
    let hypothesis : p.hypothesis ≡ q.hypothesis = ap (λ (z : ℕ × ℕ). z.0) both in
    let goal : p.goal ≡ q.goal = ap (λ (z : ℕ × ℕ). z.1) both in
    let lemmas : p.lemmas ≡ q.lemmas =
    ap (λ (z : Parsed). z.lemmas) (sym (lemmas_parsed p.lemmas) ∙ ap parsed tail ∙ lemmas_parsed q.lemmas) in
    ap (λ h. record { hypothesis = h; goal = p.goal; lemmas = p.lemmas }) hypothesis
    ∙ ap (λ g. record { hypothesis = q.hypothesis; goal = g; lemmas = p.lemmas }) goal
    ∙ ap (λ l. record { hypothesis = q.hypothesis; goal = q.goal; lemmas = l }) lemmas

-- the first line of a proof is its heading
module _ (count : ℕ) (lines : List LineText) (closed : Bool) (p : FiniteProofBody) (r : IsReadProof count lines closed p) where
  first_heading : FirstIs (SaysText finite_proofs (body (proof_line (heading plain p.hypothesis p.goal)))) lines
  first_heading = first_says finite_proofs one opening lines (body (proof_line (heading plain p.hypothesis p.goal))) (finite_lemma_lines p.lemmas) r.are_whole.come r.are_whole.reads

  no_model : FirstIs IsModel lines → ⊥
  no_model h = first_apart (SaysText finite_proofs (body (proof_line (heading plain p.hypothesis p.goal)))) IsModel lines
      (λ x s m. heading_apart plain p.hypothesis p.goal x (as_body (proof_line (heading plain p.hypothesis p.goal)) x s) m) first_heading h

  not_infinite : FirstIs IsInfinite lines → ⊥
  not_infinite h = first_apart (SaysText finite_proofs (body (proof_line (heading plain p.hypothesis p.goal)))) IsInfinite lines
      (λ x s m. heading_finite plain p.hypothesis p.goal x (as_body (proof_line (heading plain p.hypothesis p.goal)) x s) m) first_heading h

-- a body of the first ledger as one about finite magmas, where it is no proof
abbrev carried : FileBody → FiniteFileBody → FiniteFileBody
carried (Bodies.proof p) other = other
carried (Bodies.model m c) other = model m c

is_model : (x : LineText) → BeginsFinite x → IsModel x
is_model x h = h.0

pub one_body : (count : ℕ) (lines : List LineText) (closed : Bool) (b c : FiniteFileBody)
    → IsReadFiniteBody count lines closed b → IsReadFiniteBody count lines closed c → b ≡ c
one_body count lines closed (proof p) (proof q) h k =
    let same = (reading_theorems finite_proofs one).one_reading opening lines (finite_proof_lines p) (finite_proof_lines q)
    h.are_whole.come k.are_whole.come h.are_whole.reads k.are_whole.reads in
    ap proof (one_proof p q same.0)
one_body count lines closed (proof p) (model m c) h k =
    absurd (no_model count lines closed p h (first_weaker BeginsFinite IsModel lines is_model (model_first count lines closed m c k.0 k.1)))
one_body count lines closed (model m c) (proof p) h k =
    absurd (no_model count lines closed p k (first_weaker BeginsFinite IsModel lines is_model (model_first count lines closed m c h.0 h.1)))
one_body count lines closed (model m c) (model n d) h k =
    ap (λ (b : FileBody). carried b (model m c)) (body_theorems.one_body lines (Bodies.model m c) (Bodies.model n d) h.1.is_body k.1.is_body)

pub body_stands : (count : ℕ) (lines : List LineText) (closed : Bool) (b : FiniteFileBody) (r : FiniteBodyRefusal)
    → IsReadFiniteBody count lines closed b → FiniteRefuses count lines closed r → ⊥
body_stands count lines closed (proof p) Infinite h f = not_infinite count lines closed p h f
body_stands count lines closed (proof p) (Body r) h (n, inl f) = no_model count lines closed p h f.0
body_stands count lines closed (proof p) (Body r) h (n, inr f) =
    (reading_theorems finite_proofs one).read_or_refused count lines closed (finite_proof_lines p) r h f.1
body_stands count lines closed (model m c) Infinite h f =
    first_apart BeginsFinite IsInfinite lines (λ x b i. b.1 i) (model_first count lines closed m c h.0 h.1) f
body_stands count lines closed (model m c) (Body r) h (n, inl f) =
    body_theorems.body_stands count lines closed (Bodies.model m c) r h.1 f.1
body_stands count lines closed (model m c) (Body r) h (n, inr f) =
    absurd (f.0 (first_weaker BeginsFinite IsModel lines is_model (model_first count lines closed m c h.0 h.1)))
