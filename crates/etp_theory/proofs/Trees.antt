use Rattle.std.proofs.Common.{◌≡◌, ℕ, List, [], ◌∷◌, Some, refl, sym, ap, ap₂}
use Rattle.std.proofs.lemmas.Option.{same_Some}
use Rattle.etp_theory.specs.Trees.{Tree, var, op, dual, law_dual, Equation}
use Rattle.etp_theory.specs.Substitutions.{apply, then_apply}
use Rattle.etp_theory.specs.Positions.{Side, to_left, to_right, sub_at, put_at}

pub composed : (s t : ℕ → Tree) (u : Tree) → apply t (apply s u) ≡ apply (then_apply s t) u
composed s t (var v) = refl
composed s t (op l r) = ap₂ op (composed s t l) (composed s t r)

pub identity : (u : Tree) → apply var u ≡ u
identity (var v) = refl
identity (op l r) = ap₂ op (identity l) (identity r)

pub sub_at_applied : (p : List Side) (s : ℕ → Tree) (t u : Tree) → sub_at p t ≡ Some u → sub_at p (apply s t) ≡ Some (apply s u)
sub_at_applied [] s t u e = ap (λ x. Some (apply s x)) (same_Some _ _ e)
sub_at_applied (to_left ∷ p) s (var v) u e = absurd (cc)
sub_at_applied (to_left ∷ p) s (op l r) u e = sub_at_applied p s l u e
sub_at_applied (to_right ∷ p) s (var v) u e = absurd (cc)
sub_at_applied (to_right ∷ p) s (op l r) u e = sub_at_applied p s r u e

pub put_at_applied : (p : List Side) (s : ℕ → Tree) (t u v : Tree) → sub_at p t ≡ Some u → apply s (put_at p t v) ≡ put_at p (apply s t) (apply s v)
put_at_applied [] s t u v e = refl
put_at_applied (to_left ∷ p) s (var x) u v e = absurd (cc)
put_at_applied (to_left ∷ p) s (op l r) u v e = ap (λ x. op x (apply s r)) (put_at_applied p s l u v e)
put_at_applied (to_right ∷ p) s (var x) u v e = absurd (cc)
put_at_applied (to_right ∷ p) s (op l r) u v e = ap (λ x. op (apply s l) x) (put_at_applied p s r u v e)

pub sub_at_put : (p : List Side) (t u v : Tree) → sub_at p t ≡ Some u → sub_at p (put_at p t v) ≡ Some v
sub_at_put [] t u v e = refl
sub_at_put (to_left ∷ p) (var x) u v e = absurd (cc)
sub_at_put (to_left ∷ p) (op l r) u v e = sub_at_put p l u v e
sub_at_put (to_right ∷ p) (var x) u v e = absurd (cc)
sub_at_put (to_right ∷ p) (op l r) u v e = sub_at_put p r u v e

pub put_at_sub : (p : List Side) (t u : Tree) → sub_at p t ≡ Some u → put_at p t u ≡ t
put_at_sub [] t u e = sym (same_Some _ _ e)
put_at_sub (to_left ∷ p) (var x) u e = refl
put_at_sub (to_left ∷ p) (op l r) u e = ap (λ x. op x r) (put_at_sub p l u e)
put_at_sub (to_right ∷ p) (var x) u e = refl
put_at_sub (to_right ∷ p) (op l r) u e = ap (λ x. op l x) (put_at_sub p r u e)

pub put_at_put : (p : List Side) (t u v : Tree) → put_at p (put_at p t u) v ≡ put_at p t v
put_at_put [] t u v = refl
put_at_put (to_left ∷ p) (var x) u v = refl
put_at_put (to_left ∷ p) (op l r) u v = ap (λ x. op x r) (put_at_put p l u v)
put_at_put (to_right ∷ p) (var x) u v = refl
put_at_put (to_right ∷ p) (op l r) u v = ap (λ x. op l x) (put_at_put p r u v)

pub dual_dual : (t : Tree) → dual (dual t) ≡ t
dual_dual (var v) = refl
dual_dual (op l r) = ap₂ op (dual_dual l) (dual_dual r)

pub dual_applied : (s : ℕ → Tree) (t : Tree) → dual (apply s t) ≡ apply (λ v. dual (s v)) (dual t)
dual_applied s (var v) = refl
dual_applied s (op l r) = ap₂ op (dual_applied s r) (dual_applied s l)

-- laws with equal sides
pub pair_eq : {a b c d : Tree} → a ≡ c → b ≡ d → ◌≡◌ {A = Equation} (record { left = a; right = b }) (record { left = c; right = d })
pair_eq h k = ap₂ (λ x y. record { left = x; right = y }) h k

pub law_dual_dual : (e : Equation) → law_dual (law_dual e) ≡ e
law_dual_dual e = pair_eq (dual_dual e.left) (dual_dual e.right)
