-- Sums and products of integers.
use Rattle.std.proofs.Common.{◌≡◌, ◌*◌, ap, ap₂, ◌∙◌, arith}
use Rattle.std.specs.Prelude.{ℤ, ◌+ℤ◌, ◌*ℤ◌}
use Rattle.std.proofs.lemmas.Int.{ints}
use borrow.Author.Differences.{up, down, same_in, sum_is_lem, product_is}

pub times_sum : (x y z : ℤ) → x *ℤ (y +ℤ z) ≡ x *ℤ y +ℤ x *ℤ z
times_sum x y z =
    let s = sum_is_lem y z in
    same_in _ _ (omega (arith, sum_is_lem (x *ℤ y) (x *ℤ z), product_is x y, product_is x z, product_is x (y +ℤ z), ap (λ n. up x * n) s, ap (λ n. down x * n) s))

pub times_comm : (x y : ℤ) → x *ℤ y ≡ y *ℤ x
times_comm x y = omega (arith, ints)

pub times_assoc : (x y z : ℤ) → (x *ℤ y) *ℤ z ≡ x *ℤ (y *ℤ z)
times_assoc x y z =
    let p = product_is x y in
    let q = product_is y z in
    same_in _ _ (omega (arith, product_is (x *ℤ y) z, product_is x (y *ℤ z), ap (λ n. n * up z) p.0, ap (λ n. n * down z) p.1, ap (λ n. n * down z) p.0, ap (λ n. n * up z) p.1, ap (λ n. up x * n) q.0, ap (λ n. down x * n) q.1, ap (λ n. up x * n) q.1, ap (λ n. down x * n) q.0))

pub sum_times : (x y z : ℤ) → (x +ℤ y) *ℤ z ≡ x *ℤ z +ℤ y *ℤ z
sum_times x y z = times_comm (x +ℤ y) z ∙ times_sum z x y ∙ ap₂ (λ a b. a +ℤ b) (times_comm z x) (times_comm z y)
