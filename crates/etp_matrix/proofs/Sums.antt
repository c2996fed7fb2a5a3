-- Vectors modulo a number: their sums, and matrices times them.
use Rattle.std.proofs.Common.{◌≡◌, ◌≢◌, ℕ, zero, suc, ◌+◌, ◌%◌, ◌<◌, ◌≤◌, ◌⊎◌, inl, inr, refl, sym, ap, ap₂, ◌∙◌, subst, arith, mod-lt, eq-eqb, true, List, [], ◌∷◌, length, get_or}
use Rattle.std.specs.Prelude.{IsTrue, ◌&&◌, nat_eq, nat_lt}
use Rattle.std.specs.List.{list_all}
use Rattle.std.proofs.lemmas.Bool.{lt-ltb, ltb-true, eqb-true, and_parts}
use Rattle.std.proofs.lemmas.List.{ext_get_or, get_or_past}
use Rattle.std.proofs.lemmas.List.FromFn.{length-map-range_with_len, get_or-map-range_with_len}
use Rattle.std.proofs.Math.Nat.{add-mod-mod, mod-add-mod}
use Rattle.etp_matrix.specs.Magmas.{vector, sum_below}
use Rattle.etp_matrix.specs.Walks.{IsVector}

-- ---- vectors, place by place

pub long : (size : ℕ) (f : ℕ → ℕ) → length (vector size f) ≡ size
long size f = length-map-range_with_len f 0 size

pub at : (size : ℕ) (f : ℕ → ℕ) (i : ℕ) → i < size → get_or (vector size f) i 0 ≡ f i
at size f i h = get_or-map-range_with_len f 0 size i i 0 h (omega arith)

pub past : (x : List ℕ) (i : ℕ) → length x ≤ i → get_or x i 0 ≡ 0
past x i h = get_or_past x i 0 h

pub is_vector : (size : ℕ) (f : ℕ → ℕ) (x : List ℕ) → length x ≡ size → ((i : ℕ) → i < size → get_or x i 0 ≡ f i) → x ≡ vector size f
is_vector size f x h e = ext_get_or 0 x (vector size f) (h ∙ sym (long size f)) (λ i k. e i (omega arith) ∙ sym (at size f i (omega arith)))

pub vectors_same : (size : ℕ) (f g : ℕ → ℕ) → ((i : ℕ) → i < size → f i ≡ g i) → vector size f ≡ vector size g
vectors_same size f g e = is_vector size g (vector size f) (long size f) (λ i h. at size f i h ∙ e i h)

pub reduced_vector : (m size : ℕ) → 0 < m → (f : ℕ → ℕ) → IsVector m size (vector size (λ i. f i % m))
reduced_vector m size h f = record {
  long = long size _;
  below = λ i k. subst (λ z. z < m) (sym (at size (λ i. f i % m) i k)) (mod-lt (f i) h);
}

all_from : (m : ℕ) (x : List ℕ) → ((i : ℕ) → i < length x → get_or x i 0 < m) → list_all (λ k. nat_lt k m) x ≡ true
all_from m [] h = refl
all_from m (k ∷ x) h = ap₂ (λ a b. a && b) (lt-ltb k m (h 0 (omega arith))) (all_from m x (λ i l. h (suc i) (omega arith)))

all_to : (m : ℕ) (x : List ℕ) → list_all (λ k. nat_lt k m) x ≡ true → (i : ℕ) → i < length x → get_or x i 0 < m
all_to m [] e i h = absurd (omega arith)
all_to m (k ∷ x) e zero h = ltb-true k m (and_parts (nat_lt k m) (list_all (λ k. nat_lt k m) x) e).0
all_to m (k ∷ x) e (suc i) h = all_to m x (and_parts (nat_lt k m) (list_all (λ k. nat_lt k m) x) e).1 i (omega arith)

abbrev pub In : ℕ → ℕ → List ℕ → Type 0
In m size x = IsTrue (nat_eq (length x) size && list_all (λ k. nat_lt k m) x)

pub to_vector : (m size : ℕ) (x : List ℕ) → In m size x → IsVector m size x
to_vector m size x i =
    let p = and_parts (nat_eq (length x) size) (list_all (λ k. nat_lt k m) x) i in
    let h : length x ≡ size = eqb-true (length x) size p.0 in
    record { long = h; below = λ j k. all_to m x p.1 j (omega arith) }

pub from_vector : (m size : ℕ) (x : List ℕ) → IsVector m size x → In m size x
from_vector m size x v = ap₂ (λ a b. a && b) (eq-eqb (length x) size v.long) (all_from m x (λ i h. v.below i (omega (arith, v.long))))

-- ---- sums

pub sums_same : (n : ℕ) (f g : ℕ → ℕ) → ((i : ℕ) → i < n → f i ≡ g i) → sum_below n f ≡ sum_below n g
sums_same zero f g e = refl
sums_same (suc n) f g e = ap₂ (λ a b. a + b) (sums_same n f g (λ i h. e i (omega arith))) (e n (omega arith))

pub sum_sums : (n : ℕ) (f g : ℕ → ℕ) → sum_below n (λ i. f i + g i) ≡ sum_below n f + sum_below n g
sum_sums zero f g = refl
sum_sums (suc n) f g = omega (arith, sum_sums n f g)

sum_left : (n m : ℕ) (f : ℕ → ℕ) → sum_below n (λ i. f i % m) % m ≡ sum_below n f % m
sum_left zero m f = refl
sum_left (suc n) m f =
    add-mod-mod (sum_below n (λ i. f i % m)) (f n) m
    ∙ sym (mod-add-mod (sum_below n (λ i. f i % m)) m (f n)) ∙ ap (λ s. (s + f n) % m) (sum_left n m f) ∙ mod-add-mod (sum_below n f) m (f n)

-- sums of numbers that leave the same leave the same
pub sum_alike : (n m : ℕ) (f g : ℕ → ℕ) → ((i : ℕ) → i < n → f i % m ≡ g i % m) → sum_below n f % m ≡ sum_below n g % m
sum_alike n m f g e = sym (sum_left n m f) ∙ ap (λ s. s % m) (sums_same n (λ i. f i % m) (λ i. g i % m) e) ∙ sum_left n m g

pub sum_zero : (n : ℕ) (f : ℕ → ℕ) → ((i : ℕ) → i < n → f i ≡ 0) → sum_below n f ≡ 0
sum_zero zero f e = refl
sum_zero (suc n) f e = omega (arith, sum_zero n f (λ i h. e i (omega arith)), e n (omega arith))

pub sum_one : (n k : ℕ) (f : ℕ → ℕ) → k < n → ((i : ℕ) → i < n → i ≢ k → f i ≡ 0) → sum_below n f ≡ f k
sum_one zero k f h e = absurd (omega arith)
sum_one (suc n) k f h e = go (grind arith) (λ l. sum_one n k f l (λ i j. e i (omega arith)))
  where
    go : (k ≡ n) ⊎ (k < n) → (k < n → sum_below n f ≡ f k) → sum_below (suc n) f ≡ f k
    go (inl d) r = omega (arith, sum_zero n f (λ i l. e i (omega arith) (omega arith)), ap f d)
    go (inr l) r = omega (arith, r l, e n (omega arith) (omega arith))

pub sum_longer : (n e : ℕ) (f : ℕ → ℕ) → ((i : ℕ) → n ≤ i → f i ≡ 0) → sum_below (n + e) f ≡ sum_below n f
sum_longer n zero f h = ap (λ k. sum_below k f) (omega arith)
sum_longer n (suc e) f h =
    let more : n + suc e ≡ suc (n + e) = omega arith in
    ap (λ k. sum_below k f) more ∙ omega (arith, sum_longer n e f h, h (n + e) (omega arith))
