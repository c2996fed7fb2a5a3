-- Terms and laws over all natural-number variables, and what is counted and read off them.
use Rattle.std.specs.Prelude.{ℕ, ◌+◌, suc, max, List, [], ◌∷◌, ◌++◌, ◌≡◌, ◌⊎◌}

-- a term: a variable, or an operation of two terms
pub data Tree : Type 0 where
  var : ℕ → Tree
  op : Tree → Tree → Tree

-- a term without its variables' names
pub data Shape : Type 0 where
  leaf : Shape
  fork : Shape → Shape → Shape

-- a law: the equation of two terms
pub record Equation : Type 0 where
  pub left : Tree
  pub right : Tree

-- the operations of a term
abbrev pub ops : Tree → ℕ
ops (var v) = 0
ops (op l r) = ops l + ops r + 1

-- the places of variables in a term
abbrev pub leaves : Tree → ℕ
leaves (var v) = 1
leaves (op l r) = leaves l + leaves r

abbrev pub shape_of : Tree → Shape
shape_of (var v) = leaf
shape_of (op l r) = fork (shape_of l) (shape_of r)

abbrev pub shape_ops : Shape → ℕ
shape_ops leaf = 0
shape_ops (fork a b) = shape_ops a + shape_ops b + 1

abbrev pub shape_leaves : Shape → ℕ
shape_leaves leaf = 1
shape_leaves (fork a b) = shape_leaves a + shape_leaves b

-- the variables from left to right
abbrev pub word_of : Tree → List ℕ
word_of (var v) = v ∷ []
word_of (op l r) = word_of l ++ word_of r

-- the operations of both sides together
abbrev pub law_ops : Equation → ℕ
law_ops p = ops p.left + ops p.right

-- the word of a law: its variables from left to right through both sides
abbrev pub law_word : Equation → List ℕ
law_word p = word_of p.left ++ word_of p.right

-- a term with its variables renamed
abbrev pub renamed : (ℕ → ℕ) → Tree → Tree
renamed f (var v) = var (f v)
renamed f (op l r) = op (renamed f l) (renamed f r)

abbrev pub law_renamed : (ℕ → ℕ) → Equation → Equation
law_renamed f p = record { left = renamed f p.left; right = renamed f p.right }

-- a law with its sides exchanged
abbrev pub exchanged : Equation → Equation
exchanged p = record { left = p.right; right = p.left }

-- both parts of every operation exchanged
abbrev pub dual : Tree → Tree
dual (var v) = var v
dual (op l r) = op (dual r) (dual l)

-- the law of the duals of both sides
abbrev pub law_dual : Equation → Equation
law_dual p = record { left = dual p.left; right = dual p.right }

-- the variable stands somewhere in the term
abbrev pub Occurs : ℕ → Tree → Type 0
Occurs v (var x) = x ≡ v
Occurs v (op a b) = Occurs v a ⊎ Occurs v b

-- one above the greatest variable of the term
abbrev pub bound : Tree → ℕ
bound (var v) = suc v
bound (op l r) = max (bound l) (bound r)
