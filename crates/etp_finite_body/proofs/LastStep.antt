-- A step at the end of the last lemma.
use Rattle.std.proofs.Common.{◌≡◌, ℕ, zero, suc, ◌-◌, ◌<◌, arith, Bool, true, false, List, [], ◌∷◌, ◌++◌, length, get_or, sym, ap, ◌∙◌, Some, slice_get, Result, Ok, Err, OnOk}
use Rattle.std.proofs.Math.ListN.{set}
use Rattle.etp_proof.specs.declared.proof.Step.{Step}
use Rattle.etp_proof.specs.declared.proof.Lemma.{Lemma}
use Rattle.etp_finite_body.specs.declared.lemmas.FiniteLemma.{FiniteLemma}
use Rattle.etp_finite_body.specs.declared.lemmas.FiniteLemma.TheVariants.{Steps}
use Rattle.etp_finite_body.specs.Growing.{is_steps, ends_from, ends_in_steps, with_step, with_last_step}

pub last_set : (xs : List FiniteLemma) (x : Step) (n : ℕ) (y z : FiniteLemma) → suc n ≡ length xs → y ≡ get_or xs n y → z ≡ with_step y x → set xs n z ≡ with_last_step xs x
last_set [] x n y z h e s = absurd (omega (arith, h))
last_set (l ∷ []) x zero y z h e s = ap (λ (w : FiniteLemma). w ∷ []) (s ∙ ap (λ (w : FiniteLemma). with_step w x) e)
last_set (l ∷ []) x (suc n) y z h e s = absurd (omega (arith, h))
last_set (l ∷ m ∷ ls) x zero y z h e s = absurd (omega (arith, h))
last_set (l ∷ m ∷ ls) x (suc n) y z h e s = ap (λ ws. l ∷ ws) (last_set (m ∷ ls) x n y z (omega (arith, h)) e s)

-- whether the lemmas end in steps is seen at the last one
pub ends_last : (b : Bool) (ls : List FiniteLemma) (l : FiniteLemma) → slice_get ls (length ls - 1) ≡ Some l → ends_from b ls ≡ is_steps l
ends_last b [] l h = absurd (cc)
ends_last b (k ∷ []) l h = let f : Some k ≡ Some l = h in ap is_steps (let g : k ≡ l = cc in g)
ends_last b (k ∷ m ∷ ls) l h =
    let e : suc (length ls) ≡ length (k ∷ m ∷ ls) - 1 = omega arith in
    let f : length (m ∷ ls) - 1 ≡ length ls = omega arith in
    ends_last (is_steps k) (m ∷ ls) l (ap (slice_get (m ∷ ls)) f ∙ ap (slice_get (k ∷ m ∷ ls)) e ∙ h)

true_false : true ≡ false → ⊥
true_false e = cc

pub ends_some : (ls : List FiniteLemma) → ends_in_steps ls ≡ true → 0 < length ls
ends_some [] h = absurd (true_false (sym h))
ends_some (l ∷ ls) h = omega arith

-- the last lemma, taken by its place
pub ends_at : (b : Bool) (ls : List FiniteLemma) (n : ℕ) (y : FiniteLemma) → suc n ≡ length ls → y ≡ get_or ls n y → ends_from b ls ≡ is_steps y
ends_at b [] n y h e = absurd (omega (arith, h))
ends_at b (l ∷ []) zero y h e = ap is_steps (sym e)
ends_at b (l ∷ []) (suc n) y h e = absurd (omega (arith, h))
ends_at b (l ∷ m ∷ ls) zero y h e = absurd (omega (arith, h))
ends_at b (l ∷ m ∷ ls) (suc n) y h e = ends_at (is_steps l) (m ∷ ls) n y (omega (arith, h)) e

pub no_cancel : (ls : List FiniteLemma) (n : ℕ) (y : FiniteLemma) → n ≡ length ls → ends_in_steps ls ≡ true → y ≡ get_or ls (n - 1) y → is_steps y ≡ false → ⊥
no_cancel ls n y long ends e other =
    let some : 0 < length ls = ends_some ls ends in
    true_false (sym ends ∙ ends_at false ls (n - 1) y (omega (arith, long, some)) e ∙ other)

pub last_grown : {E : Type 0} (r : Result (Unit {0}) E) (xs : List FiniteLemma) (x : Step) (n : ℕ) (y : FiniteLemma) (l m : Lemma) → n ≡ length xs → 0 < length xs → y ≡ get_or xs (n - 1) y → y ≡ Steps l
    → OnOk r (m ≡ record l { steps = l.steps ++ x ∷ [] }) → OnOk r (set xs (n - 1) (Steps m) ≡ with_last_step xs x)
last_grown (Err r) xs x n y l m e some h s k = tt
last_grown (Ok u) xs x n y l m e some h s k =
    last_set xs x (n - 1) y (Steps m) (omega (arith, e, some)) h (ap Steps k ∙ sym (ap (λ (w : FiniteLemma). with_step w x) s))
