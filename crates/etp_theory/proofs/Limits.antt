-- The limits of a walk, said by their numbers.
use Rattle.std.proofs.Common.{◌≡◌, ◌≢◌, ℕ, ◌<◌, ◌≤◌, ◌↔◌, List, None, subst, sym}
use Rattle.etp_theory.specs.Trees.{Tree, leaves, Equation}
use Rattle.etp_theory.specs.Strategy.{next, walk}
use Rattle.etp_theory.specs.Forms.{IsFormOf, PassesTermLimit, PassesStepLimit}
use Rattle.etp_theory.proofs.Passing.{form_of_walk}

module _ (rules : List Equation) (s : Tree) where
  abbrev Reaches : Tree → Type 0
  Reaches u = (n : ℕ) × (n ≤ 100000) × (walk rules n s ≡ u) × (next rules u ≡ None) × ((k : ℕ) → k ≤ n → leaves (walk rules k s) ≤ 512)

  pub form : (u : Tree) → IsFormOf rules s u ↔ Reaches u
  form u = (λ h. (h.steps, h.few, h.reached, h.ended, λ k l. h.narrow k), back)
    where
      back : Reaches u → IsFormOf rules s u
      back h = subst (IsFormOf rules s) h.2 (form_of_walk rules h.0 s h.1 (subst (λ t. next rules t ≡ None) (sym h.2) h.3) h.4)

  pub wide : PassesTermLimit rules s ↔ ((n : ℕ) × (n ≤ 100000) × (512 < leaves (walk rules n s)))
  wide = (λ h. (h.steps, h.few, h.wide), λ h. record { steps = h.0; few = h.1; wide = h.2 })

  pub long : PassesStepLimit rules s ↔ ((n : ℕ) × (n ≡ 100000) × ((k : ℕ) → k ≤ n → leaves (walk rules k s) ≤ 512) × (next rules (walk rules n s) ≢ None))
  long = (λ h. (h.steps, h.all, h.narrow, h.going), λ h. record { steps = h.0; all = h.1; narrow = h.2; going = h.3 })
