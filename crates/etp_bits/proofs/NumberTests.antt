-- Tests of numbers, and tests put together.
use Rattle.std.proofs.Common.{◌≡◌, ℕ, ◌+◌, Bool, true, false, ◌||◌, nat_eq, nat_lt, refl, sym, inl, inr, arith}
use Rattle.std.proofs.lemmas.Bool.{cases_order, eq-eqb, ne_eqb, lt-ltb, le-ltb, or_right}

-- a test that fails adds nothing
pub or_none : (a b : Bool) → b ≡ false → a ≡ (a || b)
or_none true b h = refl
or_none false b h = sym h

-- the numbers below the next one
pub nat_lt-more : (x n : ℕ) → nat_lt x (n + 1) ≡ (nat_lt x n || nat_eq x n)
nat_lt-more x n =
    elim (cases_order x n) [
      | inl same ↦ rw (lt-ltb x (n + 1) (omega arith), eq-eqb x n same) (sym (or_right (nat_lt x n) true refl))
      | inr (inl below) ↦ rw (lt-ltb x (n + 1) (omega arith), lt-ltb x n below) refl
      | inr (inr above) ↦ rw (le-ltb x (n + 1) (omega arith), le-ltb x n (omega arith), ne_eqb x n (λ e. (omega (arith, e)))) refl
    ]
