-- Right steps and lemmas unfold into derivations.
use Rattle.std.proofs.Common.{ap, ◌≡◌, ℕ, zero, suc, ◌⊎◌, inl, inr, Bool, true, false, cond, List, [], ◌∷◌, ◌++◌, Some, slice_get, refl, sym, ◌∙◌, subst}
use Rattle.etp_theory.specs.Trees.{Tree, Equation}
use Rattle.etp_theory.specs.Substitutions.{apply, Partial, total}
use Rattle.etp_theory.specs.Positions.{Side, sub_at, put_at}
use Rattle.etp_theory.specs.Derivations.{Concludes, reflexive, symmetric, transitive, Derives}
use Rattle.etp_theory.specs.Proofs.{ProofStep, Lemma, last_term, conclusion, line_equation, cited_equation, named_equation, as_read, AgreeOutside, IsStepBy, AreRightSteps, AreRightLemmas, IsValidProof, AllDerived}
use Rattle.etp_theory.proofs.Trees.{sub_at_put, put_at_sub, put_at_put}
use Rattle.etp_theory.proofs.Derivations.{derives_itself, substituted, chained, inside}
use Rattle.etp_theory.proofs.Sameness.{same_forth}
use Rattle.etp_theory.proofs.Finite.{finite_enough}

-- what agrees outside the position with a term that has `v` there is that term with `v` put there
pub agree_put : (p : List Side) (s t v : Tree) → AgreeOutside p s t → sub_at p t ≡ Some v → t ≡ put_at p s v
agree_put p s t v h k = sym (put_at_sub p t v k) ∙ sym (h v)

pub put_agrees : (p : List Side) (s v : Tree) → AgreeOutside p s (put_at p s v)
put_agrees p s v u = sym (put_at_put p s v u)

-- the step's substitution may be taken as a finite partial map
pub step_partial : (e : Equation) (p : List Side) (s t : Tree) → IsStepBy e p s t → (m : Partial) × (sub_at p s ≡ Some (apply (total m) e.left)) × (sub_at p t ≡ Some (apply (total m) e.right))
step_partial e p s t x = let m = finite_enough x.by e.left e.right in (m.0, x.before ∙ ap Some (sym m.1), x.after ∙ ap Some (sym m.2))

pub step_replaces : (e : Equation) (p : List Side) (s t : Tree) → IsStepBy e p s t → (m : ℕ → Tree) × (sub_at p s ≡ Some (apply m e.left)) × (t ≡ put_at p s (apply m e.right))
step_replaces e p s t x = (x.by, x.before, agree_put p s t _ x.outside x.after)

pub replaced_step : (e : Equation) (p : List Side) (s t : Tree) → (m : ℕ → Tree) × (sub_at p s ≡ Some (apply m e.left)) × (t ≡ put_at p s (apply m e.right)) → IsStepBy e p s t
replaced_step e p s t x = record {
  by = x.0;
  before = x.1;
  after = ap (sub_at p) x.2 ∙ sub_at_put p s _ (apply x.0 e.right) x.1;
  outside = subst (AgreeOutside p s) (sym x.2) (put_agrees p s (apply x.0 e.right));
}

line_derived : (e : Equation) (earlier : List Equation) → AllDerived e earlier → (k : ℕ) (c : Equation) → line_equation e earlier k ≡ Some c → Derives e c
line_derived e earlier h zero c q = subst (Derives e) (let f : e ≡ c = cc in f) (derives_itself e)
line_derived e earlier h (suc k) c q = h k c q

cited_derived : (e : Equation) (cites : List Equation) → AllDerived e cites → (k : ℕ) (c : Equation) → cited_equation cites k ≡ Some c → Derives e c
cited_derived e cites h zero c q = absurd (cc)
cited_derived e cites h (suc k) c q = h k c q

named_derived : (e : Equation) (cites earlier : List Equation) → AllDerived e cites → AllDerived e earlier → (x : ProofStep) (c : Equation) → named_equation e cites earlier x ≡ Some c → Derives e c
named_derived e cites earlier h k x c q = go x.cited refl
  where
    go : (b : Bool) → x.cited ≡ b → Derives e c
    go true r = cited_derived e cites h x.line c (subst (λ b. cond b (cited_equation cites x.line) (line_equation e earlier x.line) ≡ Some c) r q)
    go false r = line_derived e earlier k x.line c (subst (λ b. cond b (cited_equation cites x.line) (line_equation e earlier x.line) ≡ Some c) r q)

read_derived : (e c : Equation) (b : Bool) → Derives e c → Derives e (as_read b c)
read_derived e c true d = symmetric d
read_derived e c false d = d

-- a right step by an equation that is derived
pub step_derived : (e c : Equation) (p : List Side) (s t : Tree) → Derives e c → IsStepBy c p s t → Concludes e s t
step_derived e c p s t d x = subst (Concludes e s) (sym (agree_put p s t _ x.outside x.after)) (inside e p s _ _ x.before (substituted e x.by d))

module _ (e : Equation) (cites : List Equation) (h : AllDerived e cites) where
  steps_derived : (earlier : List Equation) → AllDerived e earlier → (s : Tree) (xs : List ProofStep) → AreRightSteps e cites earlier s xs → Concludes e s (last_term s xs)
  steps_derived earlier k s [] r = reflexive s
  steps_derived earlier k s (x ∷ xs) r =
      let d = read_derived e r.0.equation x.reversed (named_derived e cites earlier h k x r.0.equation r.0.named) in
      transitive (step_derived e _ x.position s x.to d r.0.right) (steps_derived earlier k x.to xs r.1)

  get_end : (xs : List Equation) (c d : Equation) (k : ℕ) → slice_get (xs ++ (c ∷ [])) k ≡ Some d → (slice_get xs k ≡ Some d) ⊎ (c ≡ d)
  get_end [] c d zero q = inr (cc)
  get_end [] c d (suc k) q = absurd (cc)
  get_end (x ∷ xs) c d zero q = inl q
  get_end (x ∷ xs) c d (suc k) q = get_end xs c d k q

  more_derived : (earlier : List Equation) (c : Equation) → AllDerived e earlier → Derives e c → AllDerived e (earlier ++ (c ∷ []))
  more_derived earlier c k d i c' q = go (get_end earlier c c' i q)
    where
      go : (slice_get earlier i ≡ Some c') ⊎ (c ≡ c') → Derives e c'
      go (inl p) = k i c' p
      go (inr p) = subst (Derives e) p d

  lemmas_derived : (earlier : List Equation) → AllDerived e earlier → (ls : List Lemma) → AreRightLemmas e cites earlier ls → (k : ℕ) (l : Lemma) → slice_get ls k ≡ Some l → Derives e (conclusion l)
  lemmas_derived earlier a [] r k l q = absurd (cc)
  lemmas_derived earlier a (m ∷ ls) r zero l q =
      let f : m ≡ l = cc in
      subst (λ (x : Lemma). Derives e (conclusion x)) f (steps_derived earlier a m.start m.steps r.0)
  lemmas_derived earlier a (m ∷ ls) r (suc k) l q =
      lemmas_derived (earlier ++ (conclusion m ∷ [])) (more_derived earlier (conclusion m) a (steps_derived earlier a m.start m.steps r.0)) ls r.1 k l q

  pub concluded : (ls : List Lemma) → AreRightLemmas e cites [] ls → (k : ℕ) (l : Lemma) → slice_get ls k ≡ Some l → Derives e (conclusion l)
  concluded ls r = lemmas_derived [] (λ k c q. absurd (cc)) ls r

  pub proved : (goal : Equation) (ls : List Lemma) → IsValidProof e goal cites ls → Derives e goal
  proved goal ls v = chained e (conclusion v.final) (concluded ls v.right _ v.final v.last) (same_forth (conclusion v.final) goal v.reached)
