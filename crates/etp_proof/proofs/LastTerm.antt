-- The last term of a lemma.
use Rattle.std.proofs.Common.{◌≡◌, suc, ◌-◌, List, [], ◌∷◌, length, map, Some, slice_get, refl, ap, ◌∙◌, arith}
use Rattle.std.specs.Option.{option_map}
use Rattle.std.proofs.lemmas.Option.{slice_get-map}
use Rattle.etp_theory.specs.Trees.{Tree}
use Rattle.etp_theory.specs.Proofs.{ProofStep, last_term}
use Rattle.etp_term.specs.Terms.{tree_of}
use Rattle.etp_proof.specs.Lemmas.{step_of}
use Rattle.etp_proof.specs.declared.proof.Step.{Step}

pub last_at : (s : Tree) (xs : List ProofStep) (x : ProofStep) → slice_get xs (length xs - 1) ≡ Some x → last_term s xs ≡ x.to
last_at s [] x h = absurd (cc)
last_at s (y ∷ []) x h = let f : Some y ≡ Some x = h in ap (λ (z : ProofStep). z.to) (let g : y ≡ x = cc in g)
last_at s (y ∷ z ∷ zs) x h =
    let e : suc (length zs) ≡ length (y ∷ z ∷ zs) - 1 = omega arith in
    let f : length (z ∷ zs) - 1 ≡ length zs = omega arith in
    last_at y.to (z ∷ zs) x (ap (slice_get (z ∷ zs)) f ∙ ap (slice_get (y ∷ z ∷ zs)) e ∙ h)

pub length_map : {A B : Type 0} (f : A → B) (xs : List A) → length (map f xs) ≡ length xs
length_map f [] = refl
length_map f (x ∷ xs) = ap suc (length_map f xs)

pub last_step : (s : Tree) (xs : List Step) (x : Step) → slice_get xs (length xs - 1) ≡ Some x → last_term s (map step_of xs) ≡ tree_of x.to
last_step s xs x h =
    last_at s (map step_of xs) (step_of x) (ap (λ n. slice_get (map step_of xs) (n - 1)) (length_map step_of xs) ∙ slice_get-map step_of xs (length xs - 1) ∙ ap (option_map step_of) h)
