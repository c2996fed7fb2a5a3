-- Vectors of a size among longer ones, with 0 in the further places.
use Rattle.std.proofs.Common.{◌≡◌, ℕ, ◌+◌, ◌*◌, ◌-◌, ◌%◌, ◌<◌, ◌≤◌, ◌⊎◌, inl, inr, refl, sym, ap, ap₂, ◌∙◌, subst, arith, ne_eqb, Bool, true, false, cond, eqb, List, ◌++◌, length, replicate, get_or}
use Rattle.std.proofs.lemmas.List.{ext_get_or, get_or_append_left, get_or-append_right, get_or-replicate, length-append, length-replicate}
use Rattle.std.proofs.Math.Nat.{zero-mod}
use Rattle.std.proofs.lemmas.Bool.{cases_lt}
use Rattle.etp_theory.specs.Trees.{Tree, var, op}
use Rattle.etp_forms.specs.Forms.{coefficient, constant}
use Rattle.etp_matrix.specs.Magmas.{vector, sum_below}
use Rattle.etp_matrix.specs.Values.{plus, product, zeros, unit, affine_by}
use Rattle.etp_matrix.specs.Failures.{padded}
use Rattle.etp_matrix.specs.Walks.{IsVector}
use Rattle.etp_matrix.proofs.Sums.{long, at, past, is_vector, vectors_same, sums_same, sum_zero, sum_longer}
use Rattle.etp_matrix.proofs.Modules.{plus_vector, product_vector, coefficient_vector, constant_vector}

module _ (m size n : ℕ) (some : 0 < m) (fits : size ≤ n) where
  abbrev V : List ℕ → Type 0
  V = IsVector m size

  pub wider : List ℕ → List ℕ
  wider x = vector n (λ i. get_or x i 0)

  pub wider_at : (x : List ℕ) → V x → (i : ℕ) → get_or (wider x) i 0 ≡ get_or x i 0
  unfolding wider
  wider_at x v i = go (cases_lt i n)
    where
      go : (i < n) ⊎ (n ≤ i) → get_or (vector n (λ i. get_or x i 0)) i 0 ≡ get_or x i 0
      go (inl h) = at n (λ i. get_or x i 0) i h
      go (inr h) = past _ i (omega (arith, long n (λ i. get_or x i 0))) ∙ sym (past x i (omega (arith, v.long)))

  wider_sum : (f g : ℕ → ℕ) → ((i : ℕ) → i < size → f i ≡ g i) → ((i : ℕ) → size ≤ i → f i ≡ 0) → sum_below n f ≡ sum_below size g
  wider_sum f g e z =
      let split : n ≡ size + (n - size) = omega arith in
      ap (λ k. sum_below k f) split ∙ sum_longer size (n - size) f z ∙ sums_same size f g e

  pub wider_plus : (x y : List ℕ) → V x → V y → wider (plus m size x y) ≡ plus m n (wider x) (wider y)
  unfolding wider
  wider_plus x y v w = vectors_same n _ _ (λ i h. each i (cases_lt i size) ∙ sym (ap₂ (λ a b. (a + b) % m) (at n (λ i. get_or x i 0) i h) (at n (λ i. get_or y i 0) i h)))
    where
      each : (i : ℕ) → (i < size) ⊎ (size ≤ i) → get_or (plus m size x y) i 0 ≡ (get_or x i 0 + get_or y i 0) % m
      each i (inl h) = at size _ i h
      each i (inr h) =
          past _ i (omega (arith, long size (λ i. (get_or x i 0 + get_or y i 0) % m)))
          ∙ sym (ap₂ (λ a b. (a + b) % m) (past x i (omega (arith, v.long))) (past y i (omega (arith, w.long))) ∙ zero-mod m)

  pub wider_product : (a wide : ℕ → ℕ → ℕ) → ((i j : ℕ) → i < size → j < size → wide i j ≡ a i j) → ((i j : ℕ) → size ≤ i → wide i j ≡ 0) → (x : List ℕ) → V x → wider (product m size a x) ≡ product m n wide (wider x)
  unfolding wider
  wider_product a wide same none x v = vectors_same n _ _ (λ i h. each i (cases_lt i size))
    where
      each : (i : ℕ) → (i < size) ⊎ (size ≤ i) → get_or (product m size a x) i 0 ≡ sum_below n (λ j. wide i j * get_or (wider x) j 0) % m
      each i (inl h) =
          at size _ i h
          ∙ sym (ap (λ w. w % m) (wider_sum (λ j. wide i j * get_or (wider x) j 0) (λ j. a i j * get_or x j 0)
          (λ j k. ap₂ (λ p q. p * q) (same i j h k) (wider_at x v j))
          (λ j k. ap (λ q. wide i j * q) (wider_at x v j ∙ past x j (omega (arith, v.long))) ∙ omega arith)))
      each i (inr h) =
          past _ i (omega (arith, long size (λ i. sum_below size (λ j. a i j * get_or x j 0) % m)))
          ∙ sym (ap (λ w. w % m) (sum_zero n _ (λ j k. ap (λ p. p * get_or (wider x) j 0) (none i j h) ∙ omega arith)) ∙ zero-mod m)

  pub wider_zeros : wider (zeros size) ≡ zeros n
  unfolding wider
  wider_zeros = vectors_same n _ _ (λ i h. each i (cases_lt i size))
    where
      each : (i : ℕ) → (i < size) ⊎ (size ≤ i) → get_or (zeros size) i 0 ≡ 0
      each i (inl h) = at size (λ i. 0) i h
      each i (inr h) = past _ i (omega (arith, long size (λ i. 0)))

  pub wider_unit : (k : ℕ) → k < size → wider (unit m size k) ≡ unit m n k
  unfolding wider
  wider_unit k l = vectors_same n _ _ (λ i h. each i (cases_lt i size))
    where
      each : (i : ℕ) → (i < size) ⊎ (size ≤ i) → get_or (unit m size k) i 0 ≡ cond (eqb i k) (1 % m) 0
      each i (inl h) = at size _ i h
      each i (inr h) = past _ i (omega (arith, long size (λ i. cond (eqb i k) (1 % m) 0))) ∙ ap (λ b. cond b (1 % m) 0) (sym (ne_eqb i k (λ e. omega arith)))

  pub wider_injective : (x y : List ℕ) → V x → V y → wider x ≡ wider y → x ≡ y
  wider_injective x y v w e = ext_get_or 0 x y (v.long ∙ sym w.long) (λ i h. sym (wider_at x v i) ∙ ap (λ z. get_or z i 0) e ∙ wider_at y w i)

  pub wider_vector : (x : List ℕ) → V x → IsVector m n (wider x)
  unfolding wider
  wider_vector x v = record { long = long n _; below = λ i h. subst (λ z. z < m) (sym (at n (λ i. get_or x i 0) i h)) (each i (cases_lt i size)) }
    where
      each : (i : ℕ) → (i < size) ⊎ (size ≤ i) → get_or x i 0 < m
      each i (inl h) = v.below i h
      each i (inr h) = omega (arith, past x i (omega (arith, v.long)))

  -- what agrees in each place is the wider vector
  pub is_wider : (x p : List ℕ) → length p ≡ n → ((i : ℕ) → i < n → get_or p i 0 ≡ get_or x i 0) → p ≡ wider x
  unfolding wider
  is_wider x p h e = is_vector n _ p h e

  -- ---- forms

  module _ (a b : ℕ → ℕ → ℕ) (c : List ℕ) (wide_a wide_b : ℕ → ℕ → ℕ) (wide_c : List ℕ)
      (same_a : (i j : ℕ) → i < size → j < size → wide_a i j ≡ a i j) (none_a : (i j : ℕ) → size ≤ i → wide_a i j ≡ 0)
      (same_b : (i j : ℕ) → i < size → j < size → wide_b i j ≡ b i j) (none_b : (i j : ℕ) → size ≤ i → wide_b i j ≡ 0)
      (c_inside : V c) (same_c : wide_c ≡ wider c) where
    pub wider_coefficient : (t : Tree) (v : ℕ) (z : List ℕ) → V z → coefficient (affine_by m n wide_a wide_b wide_c) t v (wider z) ≡ wider (coefficient (affine_by m size a b c) t v z)
    wider_coefficient (var x) v z h = go (eqb x v)
      where
        go : (d : Bool) → cond d (wider z) (zeros n) ≡ wider (cond d z (zeros size))
        go true = refl
        go false = sym wider_zeros
    wider_coefficient (op s t) v z h =
        let x = coefficient (affine_by m size a b c) s v z in
        let y = coefficient (affine_by m size a b c) t v z in
        ap₂ (λ p q. plus m n (product m n wide_a p) (product m n wide_b q)) (wider_coefficient s v z h) (wider_coefficient t v z h)
        ∙ sym (wider_plus (product m size a x) (product m size b y) (product_vector m size some a x) (product_vector m size some b y)
        ∙ ap₂ (plus m n) (wider_product a wide_a same_a none_a x (coefficient_vector m size some a b c s v z h)) (wider_product b wide_b same_b none_b y (coefficient_vector m size some a b c t v z h)))

    pub wider_constant : (t : Tree) → constant (affine_by m n wide_a wide_b wide_c) t ≡ wider (constant (affine_by m size a b c) t)
    wider_constant (var x) = sym wider_zeros
    wider_constant (op s t) =
        let x = constant (affine_by m size a b c) s in
        let y = constant (affine_by m size a b c) t in
        ap₂ (plus m n) (ap₂ (λ p q. plus m n (product m n wide_a p) (product m n wide_b q)) (wider_constant s) (wider_constant t)) same_c
        ∙ sym (wider_plus _ c (plus_vector m size some _ _) c_inside
        ∙ ap (λ w. plus m n w (wider c)) (wider_plus (product m size a x) (product m size b y) (product_vector m size some a x) (product_vector m size some b y)
        ∙ ap₂ (plus m n) (wider_product a wide_a same_a none_a x (constant_vector m size some a b c s)) (wider_product b wide_b same_b none_b y (constant_vector m size some a b c t))))

-- the wider vector of four places is the padded one
pub wider_padded : (m size : ℕ) (some : 0 < m) (fits : size ≤ 4) (x : List ℕ) → IsVector m size x → wider m size 4 some fits x ≡ padded x
wider_padded m size some fits x v =
    sym (is_wider m size 4 some fits x (padded x) (length-append x _ ∙ omega (arith, length-replicate {A = ℕ} (4 - length x) 0, v.long)) (λ i h. each i h (cases_lt i (length x))))
  where
    each : (i : ℕ) → i < 4 → (i < length x) ⊎ (length x ≤ i) → get_or (x ++ replicate (4 - length x) 0) i 0 ≡ get_or x i 0
    each i h (inl l) = get_or_append_left x (replicate (4 - length x) 0) 0 i l
    each i h (inr l) =
        get_or-append_right x (replicate (4 - length x) 0) (length x) i 0 refl l
        ∙ get_or-replicate (4 - length x) (i - length x) 0 0 (omega arith) ∙ sym (past x i l)
