-- What a proof with lines that cancel concludes holds in every finite magma of its hypothesis.
use Rattle.std.proofs.Common.{◌≡◌, ℕ, zero, suc, ◌⊎◌, inl, inr, Bool, true, false, cond, List, [], ◌∷◌, ◌++◌, Some, slice_get, refl, sym, ◌∙◌, subst}
use Rattle.etp_theory.specs.Trees.{Tree, Equation}
use Rattle.etp_theory.specs.Positions.{Side}
use Rattle.etp_theory.specs.Tables.{below}
use Rattle.etp_theory.specs.Sound.{sound}
use Rattle.etp_theory.specs.Sameness.{Same}
use Rattle.etp_theory.specs.Derivations.{Derives}
use Rattle.etp_theory.specs.Proofs.{ProofStep, last_term, line_equation, cited_equation, named_equation, as_read, IsStepBy, AreRightSteps}
use Rattle.etp_theory.proofs.Derivations.{derives_itself}
use Rattle.etp_theory.proofs.Proofs.{step_derived}
use Rattle.etp_theory.proofs.Sameness.{same_derives}
use Rattle.etp_cancel.specs.FiniteMagmas.{FiniteImplies}
use Rattle.etp_cancel.specs.Cancelling.{FiniteLemma, by_steps, by_cancel, finite_conclusion, IsRightFiniteLemma, AreRightFiniteLemmas, IsFinitelyValid}
use Rattle.etp_cancel.proofs.Putting.{cancels}

pub derived : (e f : Equation) → Derives e f → FiniteImplies e f
derived e f d n times m h = sound (below n) times m.closed e h d

pub chained : (e f g : Equation) → FiniteImplies e f → FiniteImplies f g → FiniteImplies e g
chained e f g h k n times m i = k n times m (h n times m i)

pub same : (e f : Equation) → Same e f → FiniteImplies e f × FiniteImplies f e
same e f s = (derived e f (same_derives e f s).0, derived f e (same_derives e f s).1)

-- each of the laws holds in every finite magma of the hypothesis
abbrev pub AllImplied : Equation → List Equation → Type 0
AllImplied e laws = (k : ℕ) (c : Equation) → slice_get laws k ≡ Some c → FiniteImplies e c

pub line_implied : (e : Equation) (earlier : List Equation) → AllImplied e earlier → (k : ℕ) (c : Equation) → line_equation e earlier k ≡ Some c → FiniteImplies e c
line_implied e earlier h zero c q = subst (FiniteImplies e) (let f : e ≡ c = cc in f) (λ n times m i. i)
line_implied e earlier h (suc k) c q = h k c q

no_cite : (k : ℕ) (c : Equation) → cited_equation [] k ≡ Some c → ⊥
no_cite zero c q = cc
no_cite (suc k) c q = cc

named_implied : (e : Equation) (earlier : List Equation) → AllImplied e earlier → (x : ProofStep) (c : Equation) → named_equation e [] earlier x ≡ Some c → FiniteImplies e c
named_implied e earlier h x c q = go x.cited refl
  where
    go : (b : Bool) → x.cited ≡ b → FiniteImplies e c
    go true r = absurd (no_cite x.line c (subst (λ b. cond b (cited_equation [] x.line) (line_equation e earlier x.line) ≡ Some c) r q))
    go false r = line_implied e earlier h x.line c (subst (λ b. cond b (cited_equation [] x.line) (line_equation e earlier x.line) ≡ Some c) r q)

read_implied : (e c : Equation) (b : Bool) → FiniteImplies e c → FiniteImplies e (as_read b c)
read_implied e c true h n times m i r j = sym (h n times m i r j)
read_implied e c false h n times m i r j = h n times m i r j

step_implied : (e c : Equation) (p : List Side) (s t : Tree) → FiniteImplies e c → IsStepBy c p s t → FiniteImplies e (record { left = s; right = t })
step_implied e c p s t h x n times m i = sound (below n) times m.closed c (h n times m i) (step_derived c c p s t (derives_itself c) x)

steps_implied : (e : Equation) (earlier : List Equation) → AllImplied e earlier → (s : Tree) (xs : List ProofStep) → AreRightSteps e [] earlier s xs → FiniteImplies e (record { left = s; right = last_term s xs })
steps_implied e earlier h s [] r n times m i j k = refl
steps_implied e earlier h s (x ∷ xs) r n times m i j k =
    let d = read_implied e r.0.equation x.reversed (named_implied e earlier h x r.0.equation r.0.named) in
    step_implied e (as_read x.reversed r.0.equation) x.position s x.to d r.0.right n times m i j k
    ∙ steps_implied e earlier h x.to xs r.1 n times m i j k

lemma_implied : (e : Equation) (earlier : List Equation) → AllImplied e earlier → (l : FiniteLemma) → IsRightFiniteLemma e earlier l → FiniteImplies e (finite_conclusion l)
lemma_implied e earlier h (by_steps l) r = steps_implied e earlier h l.start l.steps r
lemma_implied e earlier h (by_cancel c) r = chained e r.equation (finite_conclusion (by_cancel c)) (line_implied e earlier h c.line r.equation r.named) (cancels c r.equation r.form)

get_end : (xs : List Equation) (c d : Equation) (k : ℕ) → slice_get (xs ++ (c ∷ [])) k ≡ Some d → (slice_get xs k ≡ Some d) ⊎ (c ≡ d)
get_end [] c d zero q = inr (cc)
get_end [] c d (suc k) q = absurd (cc)
get_end (x ∷ xs) c d zero q = inl q
get_end (x ∷ xs) c d (suc k) q = get_end xs c d k q

more_implied : (e : Equation) (earlier : List Equation) (c : Equation) → AllImplied e earlier → FiniteImplies e c → AllImplied e (earlier ++ (c ∷ []))
more_implied e earlier c h d i c' q = go (get_end earlier c c' i q)
  where
    go : (slice_get earlier i ≡ Some c') ⊎ (c ≡ c') → FiniteImplies e c'
    go (inl p) = h i c' p
    go (inr p) = subst (FiniteImplies e) p d

lemmas_implied : (e : Equation) (earlier : List Equation) → AllImplied e earlier → (ls : List FiniteLemma) → AreRightFiniteLemmas e earlier ls → (k : ℕ) (l : FiniteLemma) → slice_get ls k ≡ Some l → FiniteImplies e (finite_conclusion l)
lemmas_implied e earlier a [] r k l q = absurd (cc)
lemmas_implied e earlier a (x ∷ ls) r zero l q =
    let f : x ≡ l = cc in
    subst (λ y. FiniteImplies e (finite_conclusion y)) f (lemma_implied e earlier a x r.0)
lemmas_implied e earlier a (x ∷ ls) r (suc k) l q =
    lemmas_implied e (earlier ++ (finite_conclusion x ∷ [])) (more_implied e earlier (finite_conclusion x) a (lemma_implied e earlier a x r.0)) ls r.1 k l q

pub concluded : (e : Equation) (ls : List FiniteLemma) → AreRightFiniteLemmas e [] ls → (k : ℕ) (l : FiniteLemma) → slice_get ls k ≡ Some l → FiniteImplies e (finite_conclusion l)
concluded e ls r = lemmas_implied e [] (λ k c q. absurd (cc)) ls r

pub proved : (e goal : Equation) (ls : List FiniteLemma) → IsFinitelyValid e goal ls → FiniteImplies e goal
proved e goal ls v = chained e (finite_conclusion v.final) goal (concluded e ls v.right _ v.final v.last) (same (finite_conclusion v.final) goal v.reached).0
