-- Unifiers of two terms (Robinson 1965). Substitutions are total functions, but where a name ends in
-- `Partial`: there they are finite partial maps.
use Rattle.std.specs.Prelude.{◌≡◌, ℕ, zero, suc, ◌+◌, max, ◌⊎◌, Bool, true, Option, Some, None, cond, eqb}
use Rattle.etp_theory.specs.Trees.{Tree, var, op, bound, Occurs}
use Rattle.etp_theory.specs.Substitutions.{apply, Partial, total}
use Rattle.etp_theory.specs.Strategy.{first_some}

-- a substitution that makes both equal, and through which each other one factors
pub record IsMostGeneral (m : ℕ → Tree) (a b : Tree) : Type 0 where
  pub unifies : apply m a ≡ apply m b
  pub factors : (n : ℕ → Tree) → apply n a ≡ apply n b
      → (k : ℕ → Tree) × ((v : ℕ) → apply k (m v) ≡ n v)

-- the same for finite partial maps
pub record IsMostGeneralPartial (m : Partial) (a b : Tree) : Type 0 where
  pub unifies : apply (total m) a ≡ apply (total m) b
  pub factors : (n : Partial) → apply (total n) a ≡ apply (total n) b
      → (k : Partial) × ((v : ℕ) → apply (total k) (total m v) ≡ total n v)

-- no substitution makes both equal
abbrev pub NoUnifier : Tree → Tree → Type 0
NoUnifier a b = (n : ℕ → Tree) → apply n a ≡ apply n b → ⊥

-- every unifier is unchanged by `m` before it;
-- values for variables of both alone, with no other variables in them
pub record IsBest (m : ℕ → Tree) (a b : Tree) : Type 0 where
  pub unifies : apply m a ≡ apply m b
  pub absorbed : (n : ℕ → Tree) → apply n a ≡ apply n b → (v : ℕ) → apply n (m v) ≡ n v
  pub values : (v : ℕ) → (Occurs v a → ⊥) → (Occurs v b → ⊥) → m v ≡ var v
  pub variables : (v y : ℕ) → Occurs y (m v) → (y ≡ v) ⊎ (Occurs y a ⊎ Occurs y b)

-- the first place where two terms differ: a variable and what stands against it
pub record Difference : Type 0 where
  pub variable : ℕ
  pub value : Tree

abbrev pub difference : Tree → Tree → Option Difference
difference (var x) (var y) = cond (eqb x y) None (Some (record { variable = x; value = var y }))
difference (var x) (op c d) = Some (record { variable = x; value = op c d })
difference (op a b) (var y) = Some (record { variable = y; value = op a b })
difference (op a b) (op c d) = first_some (difference a c) (difference b d)

-- the substitution that has the value for one variable alone
abbrev pub single : ℕ → Tree → ℕ → Tree
single x b v = cond (eqb v x) b (var v)

-- whether the variable stands in the term
abbrev pub has : ℕ → Tree → Bool
has v (var x) = eqb x v
has v (op a b) = cond (has v a) true (has v b)

-- how many numbers below `n` pass the test
abbrev pub count_to : ℕ → (ℕ → Bool) → ℕ
count_to zero p = 0
count_to (suc n) p = count_to n p + cond (p n) 1 0

-- how many variables two terms have
abbrev pub remaining : Tree → Tree → ℕ
remaining s t = count_to (max (bound s) (bound t)) (λ v. cond (has v s) true (has v t))
