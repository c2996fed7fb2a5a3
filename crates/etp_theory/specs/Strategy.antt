-- The step of a term by the strategy, the walk, and its end.
use Rattle.std.specs.Prelude.{ℕ, zero, suc, Bool, true, false, cond, eqb, List, [], ◌∷◌, Option, Some, None, ⊤}
use Rattle.etp_theory.specs.Trees.{Tree, var, op, Equation}
use Rattle.etp_theory.specs.Substitutions.{apply, value_or}
use Rattle.etp_theory.specs.Positions.{Side, to_left, to_right}
use Rattle.etp_theory.specs.Weights.{Weight, constant}

-- whether two terms are equal
abbrev pub same : Tree → Tree → Bool
same (var x) (var y) = eqb x y
same (var x) (op c d) = false
same (op a b) (var y) = false
same (op a b) (op c d) = cond (same a c) (same b d) false

-- the first of two answers that is one
abbrev pub first_some : {A : Type 0} → Option A → Option A → Option A
first_some None y = y
first_some (Some x) y = Some x

abbrev pub within : {A B : Type 0} → (A → B) → Option A → Option B
within f None = None
within f (Some x) = Some (f x)

-- what stands in the term where the variable `v` of the pattern stands first
abbrev pub read : Tree → Tree → ℕ → Option Tree
read (var x) t v = cond (eqb x v) (Some t) None
read (op a b) (var y) v = None
read (op a b) (op c d) v = first_some (read a c v) (read b d v)

-- the substitution that takes the pattern to the term, where one does
abbrev pub matcher : Tree → Tree → ℕ → Tree
matcher l t v = value_or (read l t v) (var v)

-- the result of the rule at the root of the term, where it matches
abbrev pub try_rule : Equation → Tree → Option Tree
try_rule e t =
    cond (same (apply (matcher e.left t) e.left) t) (Some (apply (matcher e.left t) e.right)) None

-- the lowest matching rule
abbrev pub try_rules : List Equation → Tree → Option Tree
try_rules [] t = None
try_rules (e ∷ rest) t = first_some (try_rule e t) (try_rules rest t)

-- in the left part, else in the right part, else at the root
abbrev pub next : List Equation → Tree → Option Tree
next rules (var v) = try_rules rules (var v)
next rules (op l r) =
    first_some (within (λ x. op x r) (next rules l))
    (first_some (within (λ x. op l x) (next rules r)) (try_rules rules (op l r)))

abbrev pub go_on : Option Tree → Tree → (Tree → Tree) → Tree
go_on None s f = s
go_on (Some t) s f = f t

-- the term after at most `n` steps
abbrev pub walk : List Equation → ℕ → Tree → Tree
walk rules zero s = s
walk rules (suc n) s = go_on (next rules s) s (λ t. walk rules n t)

-- the constant of the weight falls at each step, so it bounds the walk
abbrev pub normal_form : Weight → List Equation → Tree → Tree
normal_form w rules s = walk rules (constant w s) s

abbrev pub no_step : Option Tree → Bool
no_step None = true
no_step (Some t) = false

-- the strategy has no step of the term
abbrev pub is_normal : List Equation → Tree → Bool
is_normal rules s = no_step (next rules s)

-- the operation of the magma of normal forms
abbrev pub normal_op : Weight → List Equation → Tree → Tree → Tree
normal_op w rules s t = normal_form w rules (op s t)

-- a step of the strategy: the rule's place in the list, the position, and the term after it
pub record Fired : Type 0 where
  pub number : ℕ
  pub position : List Side
  pub to : Tree

-- the lowest matching rule, where the first of the list has the number `n`
abbrev pub fired_root : ℕ → List Equation → Tree → Option Fired
fired_root n [] t = None
fired_root n (e ∷ rest) t =
    first_some (within (λ x. record { number = n; position = []; to = x }) (try_rule e t))
    (fired_root (suc n) rest t)

-- the step of a part as a step of the whole term
abbrev pub fired_inside : Side → (Tree → Tree) → Fired → Fired
fired_inside d f x = record { number = x.number; position = d ∷ x.position; to = f x.to }

-- the strategy's step with its rule and its position
abbrev pub fired : List Equation → Tree → Option Fired
fired rules (var v) = fired_root 0 rules (var v)
fired rules (op l r) =
    first_some (within (fired_inside to_left (λ x. op x r)) (fired rules l))
    (first_some (within (fired_inside to_right (λ x. op l x)) (fired rules r))
    (fired_root 0 rules (op l r)))

-- the order in which the strategy tries positions: those in the left part, then those in the
-- right part, then the root
abbrev pub TriedBefore : List Side → List Side → Type 0
TriedBefore [] q = ⊥
TriedBefore (d ∷ p) [] = ⊤
TriedBefore (to_left ∷ p) (to_left ∷ q) = TriedBefore p q
TriedBefore (to_left ∷ p) (to_right ∷ q) = ⊤
TriedBefore (to_right ∷ p) (to_left ∷ q) = ⊥
TriedBefore (to_right ∷ p) (to_right ∷ q) = TriedBefore p q
