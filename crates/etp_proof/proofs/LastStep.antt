-- A step at the end of the last lemma.
use Rattle.std.proofs.Common.{◌≡◌, ℕ, zero, suc, ◌-◌, ◌<◌, arith, List, [], ◌∷◌, ◌++◌, length, get_or, sym, ap, subst, Result, Ok, Err, OnOk}
use Rattle.std.proofs.Math.ListN.{set}
use Rattle.etp_proof.specs.declared.proof.Step.{Step}
use Rattle.etp_proof.specs.declared.proof.Lemma.{Lemma}
use Rattle.etp_proof.specs.Growing.{with_last_step}

last_set : (xs : List Lemma) (x : Step) (n : ℕ) (y : Lemma) → suc n ≡ length xs → y ≡ get_or xs n y → set xs n (record y { steps = y.steps ++ x ∷ [] }) ≡ with_last_step xs x
last_set [] x n y h e = absurd (omega (arith, h))
last_set (l ∷ []) x zero y h e = ap (λ (z : Lemma). record z { steps = z.steps ++ x ∷ [] } ∷ []) e
last_set (l ∷ []) x (suc n) y h e = absurd (omega (arith, h))
last_set (l ∷ m ∷ ls) x zero y h e = absurd (omega (arith, h))
last_set (l ∷ m ∷ ls) x (suc n) y h e = ap (λ zs. l ∷ zs) (last_set (m ∷ ls) x n y (omega (arith, h)) e)

pub last_grown : {E : Type 0} (r : Result (Unit {0}) E) (xs : List Lemma) (x : Step) (n : ℕ) (y : Lemma) (steps : List Step) → n ≡ length xs → 0 < length xs → y ≡ get_or xs (n - 1) y
    → OnOk r (steps ≡ y.steps ++ x ∷ []) → OnOk r (set xs (n - 1) (record { start = y.start; steps = steps }) ≡ with_last_step xs x)
last_grown (Err r) xs x n y steps e some h k = tt
last_grown (Ok u) xs x n y steps e some h k =
    subst (λ (s : List Step). set xs (n - 1) (record { start = y.start; steps = s }) ≡ with_last_step xs x) (sym k) (last_set xs x (n - 1) y (omega arith) h)
