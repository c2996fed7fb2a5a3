-- What a finite proof said, and how far it has come, with one line more.
use Rattle.std.proofs.Common.{◌≡◌, ◌<◌, ◌⊎◌, inl, inr, arith, Bool, true, false, List, [], ◌∷◌, ◌++◌, length, map, refl, sym, ap, ◌∙◌, Some, None, append_assoc, append-nil}
use Rattle.etp_theory.specs.Trees.{Tree}
use Rattle.etp_theory.specs.Proofs as Theory
use Rattle.etp_theory.specs.Proofs.{ProofStep}
use Rattle.etp_term.specs.Terms.{tree_of}
use Rattle.etp_term.specs.declared.term.Term.{Term}
use Rattle.etp_proof.specs.Lemmas.{step_of}
use Rattle.etp_proof.specs.declared.proof.Step.{Step}
use Rattle.etp_proof.specs.declared.proof.Lemma.{Lemma}
use Rattle.etp_lines.specs.ProofLines.{plain, heading, cite, lemma, step}
use Rattle.etp_lines.specs.Said.{proof_line_of, version_of}
use Rattle.etp_lines.specs.declared.proof.ProofLine as Said
use Rattle.etp_lines.specs.declared.proof.ProofLine.TheVariants.{Heading, Cite}
use Rattle.etp_lines.specs.declared.proof.Heading as Headings
use Rattle.etp_proof.specs.declared.label.Label.{Label}
use Rattle.etp_lines.specs.BodyLines.{proof_line}
use Rattle.etp_cancel.specs.Cancelling.{Cancel, FiniteLemma, by_steps, by_cancel}
use Rattle.etp_finite_lines.specs.FiniteLines.{FiniteLine, body, cancel, FinitePlace, headed, stepping, cancelled, after}
use Rattle.etp_finite_body.specs.declared.lemmas.FiniteLemma as Program
use Rattle.etp_finite_body.specs.declared.lemmas.FiniteLemma.TheVariants.{Steps, Cancel as Cancels}
use Rattle.etp_finite_body.specs.declared.body.FiniteProof.{FiniteProof}
use Rattle.etp_finite_body.specs.Growing.{is_steps, ends_from, ends_in_steps, with_step, with_last_step}
use Rattle.etp_finite_body.specs.FiniteBodies.{finite_lemma_of, finite_lemma_lines, lines_of_lemma}
use Rattle.etp_finite_body.specs.Work.{place_of, place_after, proof_place, TakesInProof}
use Rattle.etp_lines.proofs.SideLemmas.{map_end}

true_false : true ≡ false → ⊥
true_false e = cc

-- what holds at each place behind a heading
pub everywhere : (P : FinitePlace → Type 0) → P stepping → P cancelled → (p : FinitePlace) → P p → (ls : List FiniteLemma) → P (place_after p ls)
everywhere P s c p h [] = h
everywhere P s c p h (by_steps l ∷ ls) = everywhere P s c stepping s ls
everywhere P s c p h (by_cancel l ∷ ls) = everywhere P s c cancelled c ls

place_end : (p : FinitePlace) (ls : List FiniteLemma) (l : FiniteLemma) → place_after p (ls ++ l ∷ []) ≡ place_of l
place_end p [] l = refl
place_end p (m ∷ ls) l = place_end (place_of m) ls l

lines_end : (ls : List FiniteLemma) (l : FiniteLemma) → finite_lemma_lines (ls ++ l ∷ []) ≡ finite_lemma_lines ls ++ lines_of_lemma l
lines_end [] l = append-nil (lines_of_lemma l)
lines_end (m ∷ ms) l =
    ap (λ z. lines_of_lemma m ++ z) (lines_end ms l) ∙ sym (append_assoc (lines_of_lemma m) (finite_lemma_lines ms) (lines_of_lemma l))

-- one lemma more, of one line
module _ (old new : FiniteProof) (l : Program.FiniteLemma) (said : FiniteLine) where
  pub lemma_taken : new.hypothesis ≡ old.hypothesis → new.goal ≡ old.goal → new.lemmas ≡ old.lemmas ++ l ∷ [] → lines_of_lemma (finite_lemma_of l) ≡ said ∷ []
      → after (proof_place old) said ≡ Some (place_of (finite_lemma_of l)) → TakesInProof old said new true
  lemma_taken h g e one stands =
      let lemmas : map finite_lemma_of new.lemmas ≡ map finite_lemma_of old.lemmas ++ finite_lemma_of l ∷ [] = ap (map finite_lemma_of) e ∙ map_end finite_lemma_of old.lemmas l in (
        stands ∙ ap Some (sym (ap (place_after headed) lemmas ∙ place_end headed (map finite_lemma_of old.lemmas) (finite_lemma_of l))),
        rw (h, g) (ap (λ z. body (proof_line (heading plain old.hypothesis old.goal)) ∷ z) (ap finite_lemma_lines lemmas ∙ lines_end (map finite_lemma_of old.lemmas) (finite_lemma_of l) ∙ ap (λ z. finite_lemma_lines (map finite_lemma_of old.lemmas) ++ z) one)),
      )

pub lemma_stands : (old : FiniteProof) (t : Tree) → after (proof_place old) (body (proof_line (lemma t))) ≡ Some stepping
lemma_stands old t = everywhere (λ p. after p (body (proof_line (lemma t))) ≡ Some stepping) refl refl headed refl (map finite_lemma_of old.lemmas)

pub cancel_stands : (old : FiniteProof) (c : Cancel) → after (proof_place old) (cancel c) ≡ Some cancelled
cancel_stands old c = everywhere (λ p. after p (cancel c) ≡ Some cancelled) refl refl headed refl (map finite_lemma_of old.lemmas)

pub lemma_line : (start : Term) (l : Lemma) → l.start ≡ start → l.steps ≡ [] → lines_of_lemma (finite_lemma_of (Steps l)) ≡ body (proof_line (lemma (tree_of start))) ∷ []
lemma_line start l e none = rw (e, none) refl

-- one step more
step_kept : (p : FinitePlace) (ls : List Program.FiniteLemma) (x : Step) → place_after p (map finite_lemma_of (with_last_step ls x)) ≡ place_after p (map finite_lemma_of ls)
step_kept p [] x = refl
step_kept p (Steps l ∷ []) x = refl
step_kept p (Cancels n v a b ∷ []) x = refl
step_kept p (l ∷ m ∷ ls) x = step_kept (place_of (finite_lemma_of l)) (m ∷ ls) x

abbrev pub said_step : ProofStep → FiniteLine
said_step x = body (proof_line (step x))

steps_end : (xs : List Step) (x : Step) → map said_step (map step_of (xs ++ x ∷ [])) ≡ map said_step (map step_of xs) ++ said_step (step_of x) ∷ []
steps_end xs x = ap (map said_step) (map_end step_of xs x) ∙ map_end said_step (map step_of xs) (step_of x)

step_lines : (b : Bool) (ls : List Program.FiniteLemma) (x : Step) → 0 < length ls → ends_from b ls ≡ true → finite_lemma_lines (map finite_lemma_of (with_last_step ls x)) ≡ finite_lemma_lines (map finite_lemma_of ls) ++ said_step (step_of x) ∷ []
step_lines b [] x some h = absurd (omega (arith, some))
step_lines b (Steps l ∷ []) x some h =
    append-nil (lines_of_lemma (finite_lemma_of (with_step (Steps l) x)))
    ∙ ap (λ z. body (proof_line (lemma (tree_of l.start))) ∷ z) (steps_end l.steps x)
    ∙ ap (λ z. z ++ said_step (step_of x) ∷ []) (sym (append-nil (lines_of_lemma (finite_lemma_of (Steps l)))))
step_lines b (Cancels n v a c ∷ []) x some h = absurd (true_false (sym h))
step_lines b (l ∷ m ∷ ls) x some h =
    ap (λ z. lines_of_lemma (finite_lemma_of l) ++ z) (step_lines (is_steps l) (m ∷ ls) x (omega arith) h)
    ∙ sym (append_assoc (lines_of_lemma (finite_lemma_of l)) (finite_lemma_lines (map finite_lemma_of (m ∷ ls))) (said_step (step_of x) ∷ []))

step_place : (b : Bool) (p : FinitePlace) (ls : List Program.FiniteLemma) → ends_from b ls ≡ true → (b ≡ true → p ≡ stepping) → place_after p (map finite_lemma_of ls) ≡ stepping
step_place b p [] h k = k h
step_place b p (Steps l ∷ ls) h k = step_place true stepping ls h (λ e. refl)
step_place b p (Cancels n v a c ∷ ls) h k = step_place false cancelled ls h (λ e. absurd (true_false (sym e)))

ends_some : (ls : List Program.FiniteLemma) → ends_in_steps ls ≡ true → 0 < length ls
ends_some [] h = absurd (true_false (sym h))
ends_some (l ∷ ls) h = omega arith

stepped : (x : ProofStep) → x.cited ≡ false → after stepping (said_step x) ≡ Some stepping
stepped x e = rw e refl

pub step_taken : (old new : FiniteProof) (x : Step) → new.hypothesis ≡ old.hypothesis → new.goal ≡ old.goal → new.lemmas ≡ with_last_step old.lemmas x → x.cited ≡ false → ends_in_steps old.lemmas ≡ true
    → TakesInProof old (said_step (step_of x)) new true
step_taken old new x h g e uncited ends =
    let place : proof_place old ≡ stepping = step_place false headed old.lemmas ends (λ q. absurd (true_false (sym q))) in (
      ap (λ p. after p (said_step (step_of x))) place ∙ stepped (step_of x) uncited
          ∙ ap Some (sym (ap (λ ls. place_after headed (map finite_lemma_of ls)) e ∙ step_kept headed old.lemmas x ∙ place)),
      rw (h, g) (ap (λ z. body (proof_line (heading plain old.hypothesis old.goal)) ∷ z) (ap (λ ls. finite_lemma_lines (map finite_lemma_of ls)) e ∙ step_lines false old.lemmas x (ends_some old.lemmas ends) ends)),
    )

cited_left : (x : ProofStep) → x.cited ≡ true → after stepping (said_step x) ≡ None
cited_left x e = rw e refl

-- a step by a cite may not stand
pub cite_left : (old : FiniteProof) (x : ProofStep) → x.cited ≡ true → after (proof_place old) (said_step x) ≡ None
cite_left old x e = everywhere (λ p. after p (said_step x) ≡ None) (cited_left x e) refl headed refl (map finite_lemma_of old.lemmas)

no_step : (b : Bool) (p : FinitePlace) (ls : List Program.FiniteLemma) (x : ProofStep) → ends_from b ls ≡ false → (b ≡ false → after p (said_step x) ≡ None) → after (place_after p (map finite_lemma_of ls)) (said_step x) ≡ None
no_step b p [] x h k = k h
no_step b p (Steps l ∷ ls) x h k = no_step true stepping ls x h (λ e. absurd (true_false e))
no_step b p (Cancels n v a c ∷ ls) x h k = no_step false cancelled ls x h (λ e. refl)

-- and none where the last lemma cancels, or there is none
pub step_left : (old : FiniteProof) (x : ProofStep) → ends_in_steps old.lemmas ≡ false → after (proof_place old) (said_step x) ≡ None
step_left old x h = no_step false headed old.lemmas x h (λ e. refl)

-- nor may a heading or a cite
pub no_heading : (old : FiniteProof) (said : Said.ProofLine) → ((h : Headings.Heading) × (said ≡ Heading h)) ⊎ ((n : Label) × (said ≡ Cite n)) → after (proof_place old) (body (proof_line (proof_line_of said))) ≡ None
no_heading old said (inl (h, e)) =
    ap (λ (z : Said.ProofLine). after (proof_place old) (body (proof_line (proof_line_of z)))) e
    ∙ everywhere (λ p. after p (body (proof_line (heading (version_of h.version) h.hypothesis h.goal))) ≡ None) refl refl headed refl (map finite_lemma_of old.lemmas)
no_heading old said (inr (n, e)) =
    ap (λ (z : Said.ProofLine). after (proof_place old) (body (proof_line (proof_line_of z)))) e
    ∙ everywhere (λ p. after p (body (proof_line (cite n))) ≡ None) refl refl headed refl (map finite_lemma_of old.lemmas)
