-- The equation that a step names, by places in lists.
use Rattle.std.proofs.Common.{◌≡◌, ℕ, zero, suc, ◌-◌, List, [], ◌∷◌, map, Bor, Option, Some, None, slice_get, refl, sym, ap, ◌∙◌, arith}
use Rattle.std.specs.Option.{option_map}
use Rattle.std.proofs.lemmas.Option.{slice_get-map}
use Rattle.etp_theory.specs.Trees.{Equation}
use Rattle.etp_theory.specs.Proofs.{ProofStep, last_term, conclusion, conclusions, line_equation, cited_equation}
use Rattle.etp_theory.specs.Proofs as Theory
use Rattle.etp_term.specs.Laws.{equation_of}
use Rattle.etp_term.specs.declared.law.Law.{Law}
use Rattle.etp_proof.specs.Lemmas.{lemma_of}
use Rattle.etp_replay.specs.Lines.{cites_of}
use Rattle.etp_proof.specs.declared.proof.Lemma.{Lemma}

pub line_after : (h : Equation) (earlier : List Equation) (k : ℕ) → (k ≡ 0 → ⊥) → line_equation h earlier k ≡ slice_get earlier (k - 1)
line_after h earlier zero n = absurd (n refl)
line_after h earlier (suc k) n = ap (slice_get earlier) (let e : k ≡ suc k - 1 = omega arith in e)

pub cited_after : (cites : List Equation) (k : ℕ) → (k ≡ 0 → ⊥) → cited_equation cites k ≡ slice_get cites (k - 1)
cited_after cites zero n = absurd (n refl)
cited_after cites (suc k) n = ap (slice_get cites) (let e : k ≡ suc k - 1 = omega arith in e)

pub conclusion_at : (ls : List Theory.Lemma) (k : ℕ) → slice_get (conclusions ls) k ≡ option_map conclusion (slice_get ls k)
conclusion_at [] k = refl
conclusion_at (l ∷ ls) zero = refl
conclusion_at (l ∷ ls) (suc k) = conclusion_at ls k

pub cited_at : (cites : List (Bor Law)) (n : ℕ) (o : Option (Bor Law)) → (n ≡ 0 → ⊥) → o ≡ slice_get cites (n - 1) → cited_equation (cites_of cites) n ≡ option_map (λ (l : Bor Law). equation_of l.now) o
cited_at cites n o k h =
    cited_after (cites_of cites) n k ∙ slice_get-map (λ (l : Bor Law). equation_of l.now) cites (n - 1) ∙ ap (option_map (λ (l : Bor Law). equation_of l.now)) (sym h)

pub line_at : (e : Equation) (earlier : List Lemma) (n : ℕ) (o : Option Lemma) → (n ≡ 0 → ⊥) → o ≡ slice_get earlier (n - 1) → line_equation e (conclusions (map lemma_of earlier)) n ≡ option_map (λ l. conclusion (lemma_of l)) o
line_at e earlier n o k h =
    line_after e (conclusions (map lemma_of earlier)) n k ∙ conclusion_at (map lemma_of earlier) (n - 1) ∙ ap (option_map conclusion) (slice_get-map lemma_of earlier (n - 1) ∙ ap (option_map lemma_of) (sym h)) ∙ two o
  where
    two : (o : Option Lemma) → option_map conclusion (option_map lemma_of o) ≡ option_map (λ l. conclusion (lemma_of l)) o
    two None = refl
    two (Some x) = refl
