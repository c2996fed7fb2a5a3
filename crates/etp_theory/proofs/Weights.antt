use Rattle.std.proofs.Common.{◌≡◌, ℕ, zero, suc, ◌+◌, ◌*◌, ◌<◌, ◌≤◌, ◌⊎◌, inl, inr, max, false, cond, eqb, List, refl, sym, ap, ap₂, ◌∙◌, arith, eq-eqb, ne_eqb, mul-le-mul_right}
use Rattle.std.proofs.Math.Nat.{mul-lt-mul_of_pos_left}
use Rattle.etp_theory.specs.Trees.{Tree, var, op, bound, Equation}
use Rattle.etp_theory.specs.Substitutions.{apply}
use Rattle.etp_theory.specs.Rewriting.{Step, at_root, in_left, in_right}
use Rattle.etp_theory.specs.Weights.{sum_to, Weight, coefficient, constant, weigh, IsDecreasing, AllDecrease}
use Rattle.etp_theory.proofs.Comparing.{equal_or_below}

sum_mono : (n : ℕ) (g h : ℕ → ℕ) → ((x : ℕ) → g x ≤ h x) → sum_to n g ≤ sum_to n h
sum_mono zero g h e = omega arith
sum_mono (suc n) g h e = omega (arith, sum_mono n g h e, e n)

sum_linear : (a b n : ℕ) (g h f : ℕ → ℕ) → sum_to n (λ x. (a * g x + b * h x) * f x) ≡ a * sum_to n (λ x. g x * f x) + b * sum_to n (λ x. h x * f x)
sum_linear a b zero g h f = omega arith
sum_linear a b (suc n) g h f = omega (arith, sum_linear a b n g h f)

sum_none : (n v : ℕ) (f : ℕ → ℕ) → n ≤ v → sum_to n (λ x. cond (eqb v x) 1 0 * f x) ≡ 0
sum_none zero v f h = refl
sum_none (suc n) v f h =
    let e : eqb v n ≡ false = ne_eqb v n (omega arith) in
    let i = sum_none n v f (omega arith) in
    ap₂ (λ x b. x + cond b 1 0 * f n) i e ∙ omega arith

sum_one : (n v : ℕ) (f : ℕ → ℕ) → v < n → sum_to n (λ x. cond (eqb v x) 1 0 * f x) ≡ f v
sum_one zero v f h = absurd (omega arith)
sum_one (suc n) v f h = go (equal_or_below v n h) (sum_one n v f)
  where
    go : (v ≡ n) ⊎ (v < n) → (v < n → sum_to n (λ x. cond (eqb v x) 1 0 * f x) ≡ f v) → sum_to (suc n) (λ x. cond (eqb v x) 1 0 * f x) ≡ f v
    go (inl e) i = ap₂ (λ x b. x + cond b 1 0 * f n) (sum_none n v f (omega arith)) (eq-eqb v n e) ∙ omega arith ∙ ap f (sym e)
    go (inr l) i = ap₂ (λ x b. x + cond b 1 0 * f n) (i l) (ne_eqb v n (omega arith)) ∙ omega arith

-- the weight by coefficients
pub weigh_split : (w : Weight) (f : ℕ → ℕ) (n : ℕ) (t : Tree) → bound t ≤ n → weigh w f t ≡ sum_to n (λ x. coefficient w t x * f x) + constant w t
weigh_split w f n (var v) h = omega (arith, sum_one n v f h)
weigh_split w f n (op l r) h =
    let hl = weigh_split w f n l (omega arith) in
    let hr = weigh_split w f n r (omega arith) in
    let e = sum_linear w.on_left w.on_right n (coefficient w l) (coefficient w r) f in
    ap₂ (λ x y. w.on_left * x + w.on_right * y + w.added) hl hr ∙ omega (arith, e)

pub weigh_applied : (w : Weight) (f : ℕ → ℕ) (m : ℕ → Tree) (t : Tree) → weigh w f (apply m t) ≡ weigh w (λ v. weigh w f (m v)) t
weigh_applied w f m (var v) = refl
weigh_applied w f m (op l r) = ap₂ (λ x y. w.on_left * x + w.on_right * y + w.added) (weigh_applied w f m l) (weigh_applied w f m r)

pub rule_falls : (w : Weight) (e : Equation) (f : ℕ → ℕ) → IsDecreasing w e → weigh w f e.right < weigh w f e.left
rule_falls w e f d =
    let n : ℕ = max (bound e.left) (bound e.right) in
    let hl = weigh_split w f n e.left (omega arith) in
    let hr = weigh_split w f n e.right (omega arith) in
    let s = sum_mono n (λ x. coefficient w e.right x * f x) (λ x. coefficient w e.left x * f x) (λ x. mul-le-mul_right (f x) (d.coefficients x)) in
    omega (arith, hl, hr, s, d.constants)

pub step_falls : (w : Weight) (rules : List Equation) → AllDecrease w rules → (f : ℕ → ℕ) {s t : Tree} → Step rules s t → weigh w f t < weigh w f s
step_falls w rules all f (at_root {s = s} {t = t} i e m g h k) =
    let d = rule_falls w e (λ v. weigh w f (m v)) (all.each i e g) in
    omega (arith, d, ap (weigh w f) h, ap (weigh w f) k, weigh_applied w f m e.left, weigh_applied w f m e.right)
step_falls w rules all f (in_left {a = a} {b = b} c d) =
    omega (arith, mul-lt-mul_of_pos_left (step_falls w rules all f d) all.left_counts)
step_falls w rules all f (in_right {a = a} {b = b} c d) =
    omega (arith, mul-lt-mul_of_pos_left (step_falls w rules all f d) all.right_counts)
