-- The lines of a proof are those of one proof.
use Rattle.std.proofs.Common.{◌≡◌, ℕ, List, [], ◌∷◌, ◌++◌, map, refl, sym, ap, ◌∙◌}
use Rattle.etp_theory.specs.Proofs.{Lemma, ProofStep}
use Rattle.etp_items.specs.Bodies.{ProofBody}
use Rattle.etp_lines.specs.ProofLines.{Version, ProofLine, heading, cite, lemma, step}
use Rattle.etp_items.specs.Reading.{lemma_lines, proof_lines}

-- the names that are cited at the front of the lines
abbrev pub cites_in : List ProofLine → List (List ℕ)
cites_in [] = []
cites_in (cite name ∷ xs) = name ∷ cites_in xs
cites_in (_ ∷ xs) = []

-- the steps at the front of the lines
abbrev pub steps_in : List ProofLine → List ProofStep
steps_in [] = []
steps_in (step x ∷ xs) = x ∷ steps_in xs
steps_in (_ ∷ xs) = []

-- the lemmas of the lines
abbrev pub lemmas_in : List ProofLine → List Lemma
lemmas_in [] = []
lemmas_in (lemma t ∷ xs) = record { start = t; steps = steps_in xs } ∷ lemmas_in xs
lemmas_in (_ ∷ xs) = lemmas_in xs

cites_back : (cites : List (List ℕ)) (ls : List Lemma) → cites_in (map cite cites ++ lemma_lines ls) ≡ cites
cites_back [] [] = refl
cites_back [] (l ∷ ls) = refl
cites_back (name ∷ cites) ls = ap (λ z. name ∷ z) (cites_back cites ls)

steps_back : (xs : List ProofStep) (ls : List Lemma) → steps_in (map step xs ++ lemma_lines ls) ≡ xs
steps_back [] [] = refl
steps_back [] (l ∷ ls) = refl
steps_back (x ∷ xs) ls = ap (λ z. x ∷ z) (steps_back xs ls)

past_steps : (xs : List ProofStep) (ls : List ProofLine) → lemmas_in (map step xs ++ ls) ≡ lemmas_in ls
past_steps [] ls = refl
past_steps (x ∷ xs) ls = past_steps xs ls

past_cites : (cites : List (List ℕ)) (ls : List ProofLine) → lemmas_in (map cite cites ++ ls) ≡ lemmas_in ls
past_cites [] ls = refl
past_cites (name ∷ cites) ls = past_cites cites ls

lemmas_back : (ls : List Lemma) → lemmas_in (lemma_lines ls) ≡ ls
lemmas_back [] = refl
lemmas_back (l ∷ ls) =
    ap (λ z. record { start = l.start; steps = z } ∷ lemmas_in (map step l.steps ++ lemma_lines ls)) (steps_back l.steps ls)
    ∙ ap (λ z. l ∷ z) (past_steps l.steps (lemma_lines ls) ∙ lemmas_back ls)

same_proof : (p q : ProofBody) → p.hypothesis ≡ q.hypothesis → p.goal ≡ q.goal → p.cites ≡ q.cites → p.lemmas ≡ q.lemmas → p ≡ q
same_proof p q a b c d =
    ap (λ z. record { hypothesis = z; goal = p.goal; cites = p.cites; lemmas = p.lemmas }) a
    ∙ ap (λ z. record { hypothesis = q.hypothesis; goal = z; cites = p.cites; lemmas = p.lemmas }) b
    ∙ ap (λ z. record { hypothesis = q.hypothesis; goal = q.goal; cites = z; lemmas = p.lemmas }) c
    ∙ ap (λ z. record { hypothesis = q.hypothesis; goal = q.goal; cites = q.cites; lemmas = z }) d

-- what the lines of a proof say tells the proof
pub one_proof : (v w : Version) (p q : ProofBody) → proof_lines v p ≡ proof_lines w q → p ≡ q
one_proof v w p q e =
    let h : heading v p.hypothesis p.goal ≡ heading w q.hypothesis q.goal = cc in
    let rest : map cite p.cites ++ lemma_lines p.lemmas ≡ map cite q.cites ++ lemma_lines q.lemmas = cc in
    let a : p.hypothesis ≡ q.hypothesis = cc in
    let b : p.goal ≡ q.goal = cc in
    same_proof p q a b
    (sym (cites_back p.cites p.lemmas) ∙ ap cites_in rest ∙ cites_back q.cites q.lemmas)
    (sym (past_cites p.cites (lemma_lines p.lemmas) ∙ lemmas_back p.lemmas) ∙ ap lemmas_in rest ∙ past_cites q.cites (lemma_lines q.lemmas) ∙ lemmas_back q.lemmas)
