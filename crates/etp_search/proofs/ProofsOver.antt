-- Proofs of one lemma from the hypothesis alone, and the steps to the least neighbours.
use Rattle.std.proofs.Common.{◌≡◌, ◌<◌, ◌≤◌, ◌⊎◌, ℕ, zero, suc, Bool, true, false, cond, List, [], ◌∷◌, Some, None, length, refl, inl, inr, arith, sym, ap, ◌∙◌, subst}
use Rattle.std.specs.List.{All}
use Rattle.std.proofs.lemmas.Bool.{cases_lt}
use Rattle.std.proofs.lemmas.Option.{same_Some}
use Rattle.etp_theory.specs.Trees.{Tree, Equation}
use Rattle.etp_theory.specs.Sameness.{Same}
use Rattle.etp_theory.specs.Proofs.{ProofStep, Lemma, last_term, cited_equation, line_equation, named_equation, as_read, IsStepBy, IsRightStep, AreRightSteps, IsValidProof}
use Rattle.etp_theory.proofs.Sameness.{reflexive}
use Rattle.etp_search.specs.Spaces.{Space, IsSearchTerm, IsStepOf, IsWithin}
use Rattle.etp_search.specs.Shortest.{AreLeastSteps}
use Rattle.etp_search.specs.Outcomes.{IsProofOver, IsShortest, IsUnreached}

-- the steps found

names : (law : Equation) (x : ProofStep) → x.line ≡ 0 → x.cited ≡ false → named_equation law [] [] x ≡ Some law
names law x line cited = λ i. cond (cited i) (cited_equation [] x.line) (line_equation law [] (line i))

pub right_steps : (space : Space) (end : Tree) (k : ℕ) (s : Tree) (xs : List ProofStep) → AreLeastSteps space end k s xs → AreRightSteps space.law [] [] s xs
right_steps space end zero s [] h = tt
right_steps space end zero s (x ∷ xs) h = absurd h
right_steps space end (suc k) s [] h = absurd h
right_steps space end (suc k) s (x ∷ xs) h =
    (record { equation = space.law; named = names space.law x h.0.by_hypothesis h.0.not_cited; right = h.0.place.right }, right_steps space end k x.to xs h.1)

pub arrives : (space : Space) (end : Tree) (k : ℕ) (s : Tree) (xs : List ProofStep) → AreLeastSteps space end k s xs → last_term s xs ≡ end
arrives space end zero s [] h = h
arrives space end zero s (x ∷ xs) h = absurd h
arrives space end (suc k) s [] h = absurd h
arrives space end (suc k) s (x ∷ xs) h = arrives space end k x.to xs h.1

pub valid : (space : Space) (goal : Equation) (steps : ℕ) (l : Lemma) → IsShortest space goal steps l → IsValidProof space.law goal [] (l ∷ [])
valid space goal steps l h = record {
  right = (subst (λ s. AreRightSteps space.law [] [] s l.steps) (sym h.start) (right_steps space goal.right (length l.steps) goal.left l.steps h.least), tt);
  final = l;
  last = refl;
  reached = subst (λ e. Same e goal) (λ i. record { left = sym h.start i; right = sym last i }) (reflexive goal);
}
  where
    last : last_term l.start l.steps ≡ goal.right
    last = ap (λ s. last_term s l.steps) h.start ∙ arrives space goal.right (length l.steps) goal.left l.steps h.least

-- any other proof

only_name : (law e : Equation) (b : Bool) (n : ℕ) → cond b (cited_equation [] n) (line_equation law [] n) ≡ Some e → e ≡ law
only_name law e true zero h = absurd (let k : None ≡ Some e = h in cc)
only_name law e true (suc n) h = absurd (let k : None ≡ Some e = h in cc)
only_name law e false zero h = sym (same_Some _ _ h)
only_name law e false (suc n) h = absurd (let k : None ≡ Some e = h in cc)

step_of_law : (law : Equation) (s : Tree) (x : ProofStep) → IsRightStep law [] [] s x → IsStepOf law s x.to
step_of_law law s x h = record {
  position = x.position;
  reversed = x.reversed;
  right = subst (λ e. IsStepBy (as_read x.reversed e) x.position s x.to) (only_name law h.equation x.cited x.line h.named) h.right;
}

steps_within : (space : Space) (end : Tree) (s : Tree) (xs : List ProofStep) → IsSearchTerm space s → All (λ x. IsSearchTerm space x.to) xs → AreRightSteps space.law [] [] s xs → last_term s xs ≡ end → IsWithin space end (length xs) s
steps_within space end s [] from over right arrived = (from, arrived)
steps_within space end s (x ∷ xs) from over right arrived =
    let next = over 0 x (omega arith) in
    inr (x.to, record { from = from; to = next; step = step_of_law space.law s x right.0 }, steps_within space end x.to xs next (λ k d lt. over (suc k) d (omega (arith, lt))) right.1 arrived)

pub over_within : (space : Space) (goal : Equation) (l : Lemma) → IsProofOver space goal l → IsWithin space goal.right (length l.steps) goal.left
over_within space goal l h = subst (IsWithin space goal.right (length l.steps)) h.start (steps_within space goal.right l.start l.steps h.from h.over h.right h.end)

pub no_fewer : (space : Space) (goal : Equation) (steps : ℕ) (found l : Lemma) → IsShortest space goal steps found → IsProofOver space goal l → length found.steps ≤ length l.steps
no_fewer space goal steps found l h other = go (cases_lt (length l.steps) (length found.steps))
  where
    go : (length l.steps < length found.steps) ⊎ (length found.steps ≤ length l.steps) → length found.steps ≤ length l.steps
    go (inl less) = absurd ((h.first (length l.steps) less).apart (over_within space goal l other))
    go (inr k) = k

pub all_longer : (space : Space) (goal : Equation) (steps : ℕ) (l : Lemma) → IsUnreached space goal steps → IsProofOver space goal l → steps < length l.steps
all_longer space goal steps l h other = go (cases_lt steps (length l.steps))
  where
    go : (steps < length l.steps) ⊎ (length l.steps ≤ steps) → steps < length l.steps
    go (inl k) = k
    go (inr less) = absurd ((h (length l.steps) less).apart (over_within space goal l other))
