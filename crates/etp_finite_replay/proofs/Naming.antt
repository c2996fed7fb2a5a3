-- The equation that a lemma names.
use Rattle.std.proofs.Common.{◌≡◌, ◌≢◌, ℕ, zero, suc, ◌+◌, ◌-◌, ◌<◌, Bool, true, false, cond, List, [], map, take, length, get_or, Bor, Option, Some, None, MatchOption, slice_get, refl, sym, ap, ◌∙◌, subst, Result, Ok, Err, IfErr, ◌⊎◌, inl, inr}
use Rattle.std.specs.Option.{option_map, option_copied}
use Rattle.std.proofs.lemmas.Option.{slice_get-map}
use Rattle.etp_theory.specs.Trees.{Tree, Equation}
use Rattle.etp_theory.specs.Proofs.{ProofStep, line_equation, cited_equation, named_equation, as_read}
use Rattle.etp_term.specs.Laws.{equation_of}
use Rattle.etp_term.specs.declared.law.Law.{Law}
use Rattle.etp_replay.specs.Steps.{IsStepCheck}
use Rattle.etp_replay.specs.Replay.{IsFoundRefused, IsStepRefused, wrong, missing, IsMissing}
use Rattle.etp_replay.specs.declared.checking.StepCheck.{StepCheck}
use Rattle.etp_replay.specs.declared.refusal.ReplayRefusal.{ReplayRefusal}
use Rattle.etp_replay.specs.declared.refusal.ReplayRefusal.TheVariants.{NoMemory}
use Rattle.etp_replay.specs.Replay.{IsLemmaRefused}
use Rattle.etp_replay.proofs.Growing.{lemma_refused}
use Rattle.etp_replay.proofs.Naming.{line_after}
use Rattle.etp_theory.specs.Proofs.{last_term, AreRightSteps}
use Rattle.etp_term.specs.Terms.{tree_of}
use Rattle.etp_proof.specs.Lemmas.{step_of, lemma_of}
use Rattle.etp_proof.specs.declared.proof.Step.{Step}
use Rattle.etp_proof.specs.declared.proof.Lemma as Program
use Rattle.etp_cancel.specs.Cancelling.{by_steps}
use Rattle.etp_finite_replay.specs.FiniteReplay.{IsFiniteLemmaRefused}
use Rattle.etp_finite_replay.specs.declared.refusal.FiniteReplayRefusal.{FiniteReplayRefusal}
use Rattle.etp_finite_replay.specs.declared.refusal.FiniteReplayRefusal.TheVariants as Finite

pub line_at : (h : Equation) (earlier : List Law) (n : ℕ) (o : Option Law) → (n ≡ 0 → ⊥) → o ≡ slice_get earlier (n - 1) → line_equation h (map equation_of earlier) n ≡ option_map equation_of o
line_at h earlier n o k e = line_after h (map equation_of earlier) n k ∙ slice_get-map equation_of earlier (n - 1) ∙ ap (option_map equation_of) (sym e)

none_cited : (k : ℕ) → cited_equation [] k ≡ None
none_cited zero = refl
none_cited (suc k) = refl

pub cited_names_none : (h : Equation) (earlier : List Equation) (x : ProofStep) → x.cited ≡ true → named_equation h [] earlier x ≡ None
cited_names_none h earlier x e = ap (λ b. cond b (cited_equation [] x.line) (line_equation h earlier x.line)) e ∙ none_cited x.line

pub names_line : (h : Equation) (earlier : List Equation) (x : ProofStep) → x.cited ≡ false → named_equation h [] earlier x ≡ line_equation h earlier x.line
names_line h earlier x e = ap (λ b. cond b (cited_equation [] x.line) (line_equation h earlier x.line)) e

pub line_found : (h : Equation) (earlier : List Law) (n : ℕ) (o : Option (Bor Law)) → (n ≡ 0 → ⊥) → option_copied o ≡ slice_get earlier (n - 1)
    → MatchOption o (line_equation h (map equation_of earlier) n ≡ None) (λ law. line_equation h (map equation_of earlier) n ≡ Some (equation_of law.now))
line_found h earlier n None k e = line_at h earlier n None k e
line_found h earlier n (Some law) k e = line_at h earlier n (Some law.now) k e

pub named_found : (h : Equation) (earlier : List Equation) (x : ProofStep) (o : Option (Bor Law)) → x.cited ≡ false → MatchOption o (line_equation h earlier x.line ≡ None) (λ law. line_equation h earlier x.line ≡ Some (equation_of law.now))
    → MatchOption o (named_equation h [] earlier x ≡ None) (λ law. named_equation h [] earlier x ≡ Some (equation_of law.now))
named_found h earlier x None e k = names_line h earlier x e ∙ k
named_found h earlier x (Some law) e k = names_line h earlier x e ∙ k

-- the outcome of a test is the refusal of the step
pub outcome_refused : (h : Equation) (earlier : List Equation) (s : Tree) (x : ProofStep) (a b : ℕ) (e : Equation) (found : StepCheck) (r : Result (Unit {0}) ReplayRefusal) → named_equation h [] earlier x ≡ Some e → IsStepCheck (as_read x.reversed e) x.position s x.to found → IfErr r (IsFoundRefused a b found)
    → IfErr r (λ q. (q ≡ NoMemory) ⊎ IsStepRefused h [] earlier s x a b q)
outcome_refused h earlier s x a b e found (Ok u) n k i = tt
outcome_refused h earlier s x a b e found (Err r) n k i = inr (wrong e found n k i)

-- and that of its lemma
pub steps_refused : (h : Equation) (earlier : List Equation) (l : Program.Lemma) (t : Tree) (ys : List Step) (i : ℕ) (x : Step) (a : ℕ) (r : ReplayRefusal) → ys ≡ l.steps → i < length ys → x ≡ get_or ys i x
    → AreRightSteps h [] earlier (tree_of l.start) (map step_of (take i l.steps)) → t ≡ last_term (tree_of l.start) (map step_of (take i l.steps))
    → (r ≡ NoMemory) ⊎ IsStepRefused h [] earlier t (step_of x) a (i + 1) r → (r ≡ NoMemory) ⊎ IsLemmaRefused h [] earlier (lemma_of l) a r
steps_refused h earlier l t ys i x a r e k q f g (inl none) = inl none
steps_refused h earlier l t ys i x a r e k q f g (inr w) = inr (lemma_refused h [] earlier l t ys i x a r e k q f g w)

pub lemma_outcome : (h : Equation) (earlier : List Equation) (l : Program.Lemma) (a : ℕ) (x : ReplayRefusal) (r : FiniteReplayRefusal) → ((r ≡ Finite.NoMemory) × (x ≡ NoMemory)) ⊎ ((r ≡ Finite.Replay x) × (x ≢ NoMemory))
    → (x ≡ NoMemory) ⊎ IsLemmaRefused h [] earlier (lemma_of l) a x → (r ≡ Finite.NoMemory) ⊎ IsFiniteLemmaRefused h earlier (by_steps (lemma_of l)) a r
lemma_outcome h earlier l a x r (inl none) w = inl none.0
lemma_outcome h earlier l a x r (inr some) (inl none) = absurd (some.1 none)
lemma_outcome h earlier l a x r (inr some) (inr w) = inr (subst (IsFiniteLemmaRefused h earlier (by_steps (lemma_of l)) a) (sym some.0) w)
