-- Linear forms of terms, in magmas whose operation takes x and y to A x + B y + c: two additive maps A
-- and B of a carrier with an addition, and a value c.
use Rattle.std.specs.Prelude.{◌≡◌, ℕ, zero, suc, Bool, IsTrue, cond, eqb, List, Contains}
use Rattle.etp_theory.specs.Trees.{Tree, var, op}

-- an addition with its zero, the maps of the left and of the right value, and the value that is added
pub record Affine (A : Type 0) : Type 0 where
  pub plus : A → A → A
  pub origin : A
  pub on_left : A → A
  pub on_right : A → A
  pub added : A

module _ {A : Type 0} (f : Affine A) where
  abbrev pub combined : A → A → A
  combined x y = f.plus (f.plus (f.on_left x) (f.on_right y)) f.added

  -- the coefficient of a variable in a term's value, as the map that it is: A and B along the way to
  -- each place of the variable, and the sum over its places
  abbrev pub coefficient : Tree → ℕ → A → A
  coefficient (var x) v z = cond (eqb x v) z f.origin
  coefficient (op l r) v z = f.plus (f.on_left (coefficient l v z)) (f.on_right (coefficient r v z))

  -- the part of a term's value that no variable changes
  abbrev pub constant : Tree → A
  constant (var x) = f.origin
  constant (op l r) = combined (constant l) (constant r)

  -- the sum of what the variables below `n` give
  abbrev pub sum_to : ℕ → (ℕ → A) → A
  sum_to zero g = f.origin
  sum_to (suc n) g = f.plus (sum_to n g) (g n)

  -- one variable has the value, and all others are zero
  abbrev pub only : ℕ → A → ℕ → A
  only v z x = cond (eqb x v) z f.origin

-- the magma's operation is A x + B y + c, over a commutative group with cancellation, by additive maps
pub record IsLinear {A : Type 0} (inside : A → Bool) (times : A → A → A) (f : Affine A) : Type 0 where
  pub origin_inside : IsTrue (inside f.origin)
  pub added_inside : IsTrue (inside f.added)
  pub plus_inside : (x y : A) → IsTrue (inside x) → IsTrue (inside y) → IsTrue (inside (f.plus x y))
  pub left_inside : (x : A) → IsTrue (inside x) → IsTrue (inside (f.on_left x))
  pub right_inside : (x : A) → IsTrue (inside x) → IsTrue (inside (f.on_right x))
  pub operation : (x y : A) → IsTrue (inside x) → IsTrue (inside y) → times x y ≡ combined f x y
  pub associative : (x y z : A) → IsTrue (inside x) → IsTrue (inside y) → IsTrue (inside z)
      → f.plus (f.plus x y) z ≡ f.plus x (f.plus y z)
  pub commutative : (x y : A) → IsTrue (inside x) → IsTrue (inside y) → f.plus x y ≡ f.plus y x
  pub neutral : (x : A) → IsTrue (inside x) → f.plus x f.origin ≡ x
  pub cancelled : (x y z : A) → IsTrue (inside x) → IsTrue (inside y) → IsTrue (inside z)
      → f.plus x z ≡ f.plus y z → x ≡ y
  pub left_additive : (x y : A) → IsTrue (inside x) → IsTrue (inside y)
      → f.on_left (f.plus x y) ≡ f.plus (f.on_left x) (f.on_left y)
  pub right_additive : (x y : A) → IsTrue (inside x) → IsTrue (inside y)
      → f.on_right (f.plus x y) ≡ f.plus (f.on_right x) (f.on_right y)

-- what sums and differences make of some values
pub data Spanned {A : Type 0} (inside : A → Bool) (f : Affine A) (generators : List A) : A → Type 0 where
  is_origin : Spanned inside f generators f.origin
  is_generator : (x : A) → Contains generators x → Spanned inside f generators x
  is_sum : (x y : A) → Spanned inside f generators x → Spanned inside f generators y
      → Spanned inside f generators (f.plus x y)
  is_difference : (x y : A) → IsTrue (inside x) → Spanned inside f generators (f.plus x y)
      → Spanned inside f generators y → Spanned inside f generators x

-- the values are of the carrier, and make all of it
pub record Generate {A : Type 0} (inside : A → Bool) (f : Affine A) (generators : List A) : Type 0 where
  pub inside_too : (x : A) → Contains generators x → IsTrue (inside x)
  pub spanned : (x : A) → IsTrue (inside x) → Spanned inside f generators x

-- equal constants, and equal coefficients of each variable, as they are seen on generators
pub record HaveOneForm {A : Type 0} (f : Affine A) (generators : List A) (p q : Tree) : Type 0 where
  pub constants : constant f p ≡ constant f q
  pub coefficients : (v : ℕ) (x : A) → Contains generators x → coefficient f p v x ≡ coefficient f q v x
