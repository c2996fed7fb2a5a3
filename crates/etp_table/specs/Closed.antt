-- A table's operation stays in its carrier.
use Rattle.std.proofs.Common.{◌≡◌, ℕ, ◌+◌, ◌*◌, ◌<◌, ◌≤◌, inl, inr, Bool, true, false, ◌&&◌, List, length, get_or, nat_eq, nat_lt, refl, ap₂, arith, mul-le-mul_right, ltb-true, lt-ltb}
use Rattle.std.specs.List.{list_all}
use Rattle.std.proofs.lemmas.Bool.{eqb-true, cases_lt, le-ltb}
use Rattle.std.proofs.lemmas.List.Folds.{list_all_at}
use Rattle.etp_theory.specs.Magmas.{IsClosed}
use Rattle.etp_table.specs.Tables.{Table, times, is_square, carrier}

and_first : (a b : Bool) → (a && b) ≡ true → a ≡ true
and_first true b h = refl
and_first false b h = absurd (cc)

and_second : (a b : Bool) → (a && b) ≡ true → b ≡ true
and_second true b h = h
and_second false b h = absurd (cc)

entry_below : (n : ℕ) (xs : List ℕ) (i : ℕ) → list_all (λ x. nat_lt x n) xs ≡ true → i < length xs → get_or xs i 0 < n
entry_below n xs i all h = elim (cases_lt (get_or xs i 0) n) [
  | inl l ↦ l
  | inr l ↦
      let none : list_all (λ x. nat_lt x n) xs ≡ false =
      list_all_at (λ x. nat_lt x n) xs i 0 h (le-ltb (get_or xs i 0) n l) in
      absurd (cc)
]

in_range : (x y n : ℕ) → x < n → y < n → x * n + y < n * n
in_range x y n h k =
    let up : (x + 1) * n ≤ n * n = mul-le-mul_right n (omega arith) in
    omega (arith, up)

pub carrier_closed : (t : Table) → IsClosed (carrier t) (times t)
carrier_closed t x y h k =
    let square : is_square t ≡ true = and_first (is_square t) (nat_lt x t.size) h in
    let row : x < t.size = ltb-true x t.size (and_second (is_square t) (nat_lt x t.size) h) in
    let column : y < t.size = ltb-true y t.size (and_second (is_square t) (nat_lt y t.size) k) in
    let long : length t.entries ≡ t.size * t.size =
    eqb-true (length t.entries) (t.size * t.size) (and_first (nat_eq (length t.entries) (t.size * t.size))
    (list_all (λ z. nat_lt z t.size) t.entries) square) in
    let all = and_second (nat_eq (length t.entries) (t.size * t.size))
    (list_all (λ z. nat_lt z t.size) t.entries) square in
    let there = in_range x y t.size row column in
    let small = entry_below t.size t.entries (x * t.size + y) all (omega (arith, there, long)) in
    ap₂ (λ a b. a && b) square (lt-ltb (get_or t.entries (x * t.size + y) 0) t.size small)
