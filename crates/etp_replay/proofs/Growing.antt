-- Right steps and right lemmas, one more at a time.
use Rattle.std.proofs.Common.{◌≡◌, ℕ, ◌+◌, ◌<◌, add-one, length, get_or, take, map, slice_get, Some, Result, Ok, Err, IfErr, List, [], ◌∷◌, ◌++◌, refl, sym, ap, ◌∙◌, subst, append_assoc, append-nil}
use Rattle.std.proofs.Math.Seq.{take-suc}
use Rattle.std.specs.Option.{option_map}
use Rattle.std.proofs.lemmas.Option.{slice_get-map, slice_get-get_or}
use Rattle.etp_theory.specs.Trees.{Tree, Equation}
use Rattle.etp_theory.specs.Proofs.{ProofStep, Lemma, last_term, conclusion, conclusions, named_equation, as_read, IsRightStep, AreRightSteps, AreRightLemmas}
use Rattle.std.proofs.lemmas.List.{take-map}
use Rattle.etp_term.specs.Terms.{tree_of}
use Rattle.etp_match.proofs.Extending.{map_after}
use Rattle.etp_proof.specs.Lemmas.{step_of, lemma_of}
use Rattle.etp_proof.specs.declared.proof.Step.{Step}
use Rattle.etp_proof.specs.declared.proof.Lemma as Program
use Rattle.etp_replay.specs.Steps.{IsStepCheck}
use Rattle.etp_replay.specs.Replay.{IsFoundRefused, IsStepRefused, wrong, IsLemmaRefused, IsFirstWrong}
use Rattle.etp_replay.specs.declared.checking.StepCheck.{StepCheck}
use Rattle.etp_replay.specs.declared.refusal.ReplayRefusal.{ReplayRefusal}

pub last_end : (s : Tree) (xs : List ProofStep) (x : ProofStep) → last_term s (xs ++ x ∷ []) ≡ x.to
last_end s [] x = refl
last_end s (y ∷ ys) x = last_end y.to ys x

module _ (h : Equation) (cites : List Equation) where
  pub steps_end : (earlier : List Equation) (s : Tree) (xs : List ProofStep) (x : ProofStep) → AreRightSteps h cites earlier s xs → IsRightStep h cites earlier (last_term s xs) x → AreRightSteps h cites earlier s (xs ++ x ∷ [])
  steps_end earlier s [] x r k = (k, tt)
  steps_end earlier s (y ∷ ys) x r k = (r.0, steps_end earlier y.to ys x r.1 k)

  pub lemmas_end : (earlier : List Equation) (ls : List Lemma) (l : Lemma) → AreRightLemmas h cites earlier ls → AreRightSteps h cites (earlier ++ conclusions ls) l.start l.steps → AreRightLemmas h cites earlier (ls ++ l ∷ [])
  lemmas_end earlier [] l r k = (subst (λ (e : List Equation). AreRightSteps h cites e l.start l.steps) (append-nil earlier) k, tt)
  lemmas_end earlier (m ∷ ms) l r k =
      (r.0, lemmas_end (earlier ++ conclusion m ∷ []) ms l r.1 (subst (λ (e : List Equation). AreRightSteps h cites e l.start l.steps) (sym (append_assoc earlier (conclusion m ∷ []) (conclusions ms))) k))

pub taken : {A B : Type 0} (f : A → B) (xs : List A) (i : ℕ) (x : A) → i < length xs → x ≡ get_or xs i x → map f (take (i + 1) xs) ≡ map f (take i xs) ++ f x ∷ []
taken f xs i x h e =
    ap (λ (n : ℕ). map f (take n xs)) (add-one i) ∙ ap (map f) (take-suc xs i x h) ∙ map_after f (take i xs) (get_or xs i x ∷ []) ∙ ap (λ y. map f (take i xs) ++ f y ∷ []) (sym e)

pub stands_at : {A B : Type 0} (f : A → B) (xs : List A) (i : ℕ) (x : A) → i < length xs → x ≡ get_or xs i x → slice_get (map f xs) i ≡ Some (f x)
stands_at f xs i x h e = slice_get-map f xs i ∙ ap (option_map f) (slice_get-get_or xs i x h ∙ ap Some (sym e))

-- the outcome of a test is the refusal of the step
pub outcome_refused : (h : Equation) (cites earlier : List Equation) (s : Tree) (x : ProofStep) (a b : ℕ) (e f : Equation) (found : StepCheck) (r : Result (Unit {0}) ReplayRefusal) → named_equation h cites earlier x ≡ Some e → f ≡ as_read x.reversed e → IsStepCheck f x.position s x.to found → IfErr r (IsFoundRefused a b found) → IfErr r (IsStepRefused h cites earlier s x a b)
outcome_refused h cites earlier s x a b e f found (Ok u) n q k i = tt
outcome_refused h cites earlier s x a b e f found (Err r) n q k i = wrong e found n (subst (λ z. IsStepCheck z x.position s x.to found) q k) i

module _ (h : Equation) (cites : List Equation) where
  pub steps_more : (earlier : List Equation) (s t : Tree) (xs ys : List Step) (i : ℕ) (x : Step) → ys ≡ xs → i < length ys → x ≡ get_or ys i x
      → AreRightSteps h cites earlier s (map step_of (take i xs)) → t ≡ last_term s (map step_of (take i xs)) → IsRightStep h cites earlier t (step_of x)
      → AreRightSteps h cites earlier s (map step_of (take (i + 1) xs)) × (tree_of x.to ≡ last_term s (map step_of (take (i + 1) xs)))
  steps_more earlier s t xs ys i x e k q r f g =
      let more : map step_of (take (i + 1) xs) ≡ map step_of (take i xs) ++ step_of x ∷ [] =
      subst (λ (zs : List Step). map step_of (take (i + 1) zs) ≡ map step_of (take i zs) ++ step_of x ∷ []) e (taken step_of ys i x k q) in (
        subst (AreRightSteps h cites earlier s) (sym more) (steps_end h cites earlier s (map step_of (take i xs)) (step_of x) r (subst (λ z. IsRightStep h cites earlier z (step_of x)) f g)),
        sym (ap (last_term s) more ∙ last_end s (map step_of (take i xs)) (step_of x)),
      )

  pub lemma_refused : (earlier : List Equation) (l : Program.Lemma) (t : Tree) (ys : List Step) (i : ℕ) (x : Step) (a : ℕ) (r : ReplayRefusal) → ys ≡ l.steps → i < length ys → x ≡ get_or ys i x
      → AreRightSteps h cites earlier (tree_of l.start) (map step_of (take i l.steps)) → t ≡ last_term (tree_of l.start) (map step_of (take i l.steps)) → IsStepRefused h cites earlier t (step_of x) a (i + 1) r
      → IsLemmaRefused h cites earlier (lemma_of l) a r
  lemma_refused earlier l t ys i x a r e k q f g w = record {
    place = i;
    step = step_of x;
    stands = subst (λ (zs : List Step). slice_get (map step_of zs) i ≡ Some (step_of x)) e (stands_at step_of ys i x k q);
    before = subst (AreRightSteps h cites earlier (tree_of l.start)) (sym (take-map step_of i l.steps)) f;
    refused = subst (λ z. IsStepRefused h cites earlier z (step_of x) a (i + 1) r) (g ∙ ap (last_term (tree_of l.start)) (sym (take-map step_of i l.steps))) w;
  }

  pub lemmas_more : (xs : List Program.Lemma) (i : ℕ) (x : Program.Lemma) → i < length xs → x ≡ get_or xs i x
      → AreRightLemmas h cites [] (map lemma_of (take i xs)) → AreRightSteps h cites (conclusions (map lemma_of (take i xs))) (tree_of x.start) (map step_of x.steps)
      → AreRightLemmas h cites [] (map lemma_of (take (i + 1) xs))
  lemmas_more xs i x k q r f = subst (AreRightLemmas h cites []) (sym (taken lemma_of xs i x k q)) (lemmas_end h cites [] (map lemma_of (take i xs)) (lemma_of x) r f)

  pub first_wrong : (xs : List Program.Lemma) (i : ℕ) (x : Program.Lemma) (r : ReplayRefusal) → i < length xs → x ≡ get_or xs i x
      → AreRightLemmas h cites [] (map lemma_of (take i xs)) → IsLemmaRefused h cites (conclusions (map lemma_of (take i xs))) (lemma_of x) (i + 1) r
      → IsFirstWrong h cites (map lemma_of xs) r
  first_wrong xs i x r k q f w = record {
    place = i;
    lemma = lemma_of x;
    stands = stands_at lemma_of xs i x k q;
    before = subst (AreRightLemmas h cites []) (sym (take-map lemma_of i xs)) f;
    refused = subst (λ (ls : List Lemma). IsLemmaRefused h cites (conclusions ls) (lemma_of x) (i + 1) r) (sym (take-map lemma_of i xs)) w;
  }
