-- Vectors modulo a number are a module: sums, matrices times vectors, and unit vectors, which make all.
use Rattle.std.proofs.Common.{◌≡◌, ◌≢◌, ℕ, zero, suc, ◌+◌, ◌*◌, ◌-◌, ◌%◌, ◌<◌, ◌≤◌, ◌⊎◌, inl, inr, refl, sym, ap, ap₂, ◌∙◌, subst, arith, mod-lt, mod-eq_of_lt, eq-eqb, ne_eqb, Bool, true, false, cond, eqb, List, length, get_or, Contains, map}
use Rattle.std.specs.Prelude.{◌&&◌, nat_eq, nat_lt}
use Rattle.std.specs.List.{range_with_len, list_all}
use Rattle.std.proofs.lemmas.Bool.{lt-ltb, le-ltb}
use Rattle.std.proofs.lemmas.List.{ext_get_or}
use Rattle.std.proofs.lemmas.List.FromFn.{length-map-range_with_len, get_or-map-range_with_len}
use Rattle.std.proofs.lemmas.Nat.{mul-mod_second}
use Rattle.std.proofs.Math.Nat.{add-mod-mod, mod-add-mod, zero-mod}
use Rattle.etp_theory.specs.Trees.{Tree, var, op, bound}
use Rattle.etp_forms.specs.Forms.{coefficient, constant, Affine, IsLinear, Spanned, is_origin, is_generator, is_sum, is_difference, Generate}
use Rattle.etp_matrix.specs.Magmas.{vector, sum_below}
use Rattle.etp_matrix.specs.Values.{plus, product, zeros, unit, affine_by}
use Rattle.etp_matrix.specs.Walks.{IsVector}
use Rattle.etp_matrix.proofs.Sums.{long, at, is_vector, vectors_same, reduced_vector, In, to_vector, from_vector, sum_sums, sum_alike, sum_zero, sum_one}

-- from equal sums, equal numbers
cancelled_mod : (m a b c : ℕ) → a < m → b < m → c < m → (a + c) % m ≡ (b + c) % m → a ≡ b
cancelled_mod m a b c h k l e =
    let undo : (x : ℕ) → x < m → ((x + c) % m + (m - c)) % m ≡ x = λ x i.
    mod-add-mod (x + c) m (m - c) ∙ ap (λ z. z % m) (omega arith) ∙ Rattle.std.proofs.Math.Nat.add-mod_right x m ∙ mod-eq_of_lt i in
    sym (undo a h) ∙ ap (λ z. (z + (m - c)) % m) e ∙ undo b k

times_zero : (n x : ℕ) → x ≡ 0 → n * x ≡ 0
times_zero n x e = ap (λ w. n * w) e ∙ omega arith

-- a map that keeps vectors, zero and sums
pub record IsAdditive (m size : ℕ) (g : List ℕ → List ℕ) : Type 0 where
  pub keeps : (x : List ℕ) → IsVector m size x → IsVector m size (g x)
  pub zero : g (zeros size) ≡ zeros size
  pub sum : (x y : List ℕ) → IsVector m size x → IsVector m size y → g (plus m size x y) ≡ plus m size (g x) (g y)

module _ (m size : ℕ) (some : 0 < m) where
  abbrev V : List ℕ → Type 0
  V = IsVector m size

  pub plus_vector : (x y : List ℕ) → V (plus m size x y)
  plus_vector x y = reduced_vector m size some _

  pub product_vector : (a : ℕ → ℕ → ℕ) (x : List ℕ) → V (product m size a x)
  product_vector a x = reduced_vector m size some _

  pub zeros_vector : V (zeros size)
  zeros_vector = record { long = long size _; below = λ i h. subst (λ z. z < m) (sym (at size (λ i. 0) i h)) some }

  pub unit_vector : (k : ℕ) → V (unit m size k)
  unit_vector k = record { long = long size _; below = λ i h. subst (λ z. z < m) (sym (at size (λ i. cond (eqb i k) (1 % m) 0) i h)) (go (eqb i k)) }
    where
      go : (b : Bool) → cond b (1 % m) 0 < m
      go true = mod-lt 1 some
      go false = some

  pub plus_at : (x y : List ℕ) (i : ℕ) → i < size → get_or (plus m size x y) i 0 ≡ (get_or x i 0 + get_or y i 0) % m
  plus_at x y i h = at size _ i h

  pub plus_associative : (x y z : List ℕ) → plus m size (plus m size x y) z ≡ plus m size x (plus m size y z)
  plus_associative x y z =
      vectors_same size _ _ (λ i h.
      ap (λ w. (w + get_or z i 0) % m) (plus_at x y i h) ∙ mod-add-mod (get_or x i 0 + get_or y i 0) m (get_or z i 0)
      ∙ ap (λ w. w % m) (omega arith) ∙ sym (add-mod-mod (get_or x i 0) (get_or y i 0 + get_or z i 0) m)
      ∙ ap (λ w. (get_or x i 0 + w) % m) (sym (plus_at y z i h)))

  pub plus_commutative : (x y : List ℕ) → plus m size x y ≡ plus m size y x
  plus_commutative x y = vectors_same size _ _ (λ i h. ap (λ w. w % m) (omega arith))

  pub plus_neutral : (x : List ℕ) → V x → plus m size x (zeros size) ≡ x
  plus_neutral x v =
      sym (is_vector size _ x v.long (λ i h. sym (ap (λ w. w % m) (omega (arith, at size (λ i. 0) i h)) ∙ mod-eq_of_lt (v.below i h))))

  pub plus_cancelled : (x y z : List ℕ) → V x → V y → V z → plus m size x z ≡ plus m size y z → x ≡ y
  plus_cancelled x y z v w u e =
      ext_get_or 0 x y (v.long ∙ sym w.long) (λ i h.
      let k : i < size = omega (arith, v.long) in
      cancelled_mod m (get_or x i 0) (get_or y i 0) (get_or z i 0) (v.below i k) (w.below i k) (u.below i k)
      (sym (plus_at x z i k) ∙ ap (λ l. get_or l i 0) e ∙ plus_at y z i k))

  pub product_additive : (a : ℕ → ℕ → ℕ) (x y : List ℕ) → product m size a (plus m size x y) ≡ plus m size (product m size a x) (product m size a y)
  product_additive a x y = vectors_same size _ _ (λ i h. each i ∙ sym (ap₂ (λ p q. (p + q) % m) (at size _ i h) (at size _ i h)))
    where
      each : (i : ℕ) → sum_below size (λ j. a i j * get_or (plus m size x y) j 0) % m ≡ (sum_below size (λ j. a i j * get_or x j 0) % m + sum_below size (λ j. a i j * get_or y j 0) % m) % m
      each i =
          sum_alike size m (λ j. a i j * get_or (plus m size x y) j 0) (λ j. a i j * get_or x j 0 + a i j * get_or y j 0)
          (λ j k. ap (λ w. (a i j * w) % m) (plus_at x y j k) ∙ mul-mod_second (a i j) (get_or x j 0 + get_or y j 0) m ∙ ap (λ w. w % m) (omega arith))
          ∙ ap (λ w. w % m) (sum_sums size (λ j. a i j * get_or x j 0) (λ j. a i j * get_or y j 0))
          ∙ sym (mod-add-mod (sum_below size (λ j. a i j * get_or x j 0)) m _ ∙ add-mod-mod _ (sum_below size (λ j. a i j * get_or y j 0)) m)

  pub product_zeros : (a : ℕ → ℕ → ℕ) → product m size a (zeros size) ≡ zeros size
  product_zeros a = vectors_same size _ _ (λ i h. ap (λ w. w % m) (sum_zero size _ (λ j k. times_zero (a i j) _ (at size (λ i. 0) j k))) ∙ zero-mod m)

  -- a matrix times a unit vector is its column
  pub product_unit : (a : ℕ → ℕ → ℕ) (k : ℕ) → k < size → product m size a (unit m size k) ≡ vector size (λ i. a i k % m)
  product_unit a k h = vectors_same size _ _ (λ i l. ap (λ w. w % m) (sum_one size k _ h (λ j d n. none i j d n)) ∙ here i)
    where
      none : (i j : ℕ) → j < size → j ≢ k → a i j * get_or (unit m size k) j 0 ≡ 0
      none i j d n = times_zero (a i j) _ (at size (λ i. cond (eqb i k) (1 % m) 0) j d ∙ ap (λ b. cond b (1 % m) 0) (ne_eqb j k n))

      here : (i : ℕ) → (a i k * get_or (unit m size k) k 0) % m ≡ a i k % m
      here i = ap (λ w. (a i k * w) % m) (at size (λ i. cond (eqb i k) (1 % m) 0) k h ∙ ap (λ b. cond b (1 % m) 0) (eq-eqb k k refl)) ∙ mul-mod_second (a i k) 1 m ∙ ap (λ w. w % m) (omega arith)

  abbrev pub units : List (List ℕ)
  units = map (unit m size) (range_with_len 0 size)

  pub among_units : (k : ℕ) → k < size → Contains units (unit m size k)
  among_units k h = (k, omega (arith, length-map-range_with_len (unit m size) 0 size), get_or-map-range_with_len (unit m size) 0 size k k (unit m size k) h (omega arith))

  pub unit_of : (x : List ℕ) → Contains units x → (k : ℕ) × (k < size) × (unit m size k ≡ x)
  unit_of x (k, h, e) =
      let l : k < size = omega (arith, length-map-range_with_len (unit m size) 0 size) in
      (k, l, sym (get_or-map-range_with_len (unit m size) 0 size k k x l (omega arith)) ∙ e)

  pub product_is_additive : (a : ℕ → ℕ → ℕ) → IsAdditive m size (product m size a)
  product_is_additive a = record { keeps = λ x v. product_vector a x; zero = product_zeros a; sum = λ x y v w. product_additive a x y }

  pub composed : (g h : List ℕ → List ℕ) → IsAdditive m size g → IsAdditive m size h → IsAdditive m size (λ x. g (h x))
  composed g h p q = record {
    keeps = λ x v. p.keeps (h x) (q.keeps x v);
    zero = ap g q.zero ∙ p.zero;
    sum = λ x y v w. ap g (q.sum x y v w) ∙ p.sum (h x) (h y) (q.keeps x v) (q.keeps y w);
  }

  -- the sum of two additive maps
  pub summed : (g h : List ℕ → List ℕ) → IsAdditive m size g → IsAdditive m size h → IsAdditive m size (λ x. plus m size (g x) (h x))
  summed g h p q = record {
    keeps = λ x v. plus_vector (g x) (h x);
    zero = ap₂ (plus m size) p.zero q.zero ∙ plus_neutral (zeros size) zeros_vector;
    sum = λ x y v w. ap₂ (plus m size) (p.sum x y v w) (q.sum x y v w) ∙ shuffled (g x) (g y) (h x) (h y);
  }
    where
      shuffled : (a b c d : List ℕ) → plus m size (plus m size a b) (plus m size c d) ≡ plus m size (plus m size a c) (plus m size b d)
      shuffled a b c d =
          plus_associative a b (plus m size c d)
          ∙ ap (plus m size a) (sym (plus_associative b c d) ∙ ap (λ x. plus m size x d) (plus_commutative b c) ∙ plus_associative c b d)
          ∙ sym (plus_associative a c (plus m size b d))

  pub coefficient_is_additive : (a b : ℕ → ℕ → ℕ) (c : List ℕ) (t : Tree) (v : ℕ) → IsAdditive m size (coefficient (affine_by m size a b c) t v)
  coefficient_is_additive a b c (var x) v = go (eqb x v)
    where
      go : (d : Bool) → IsAdditive m size (λ z. cond d z (zeros size))
      go true = record { keeps = λ x h. h; zero = refl; sum = λ x y h k. refl }
      go false = record { keeps = λ x h. zeros_vector; zero = refl; sum = λ x y h k. sym (plus_neutral (zeros size) zeros_vector) }
  coefficient_is_additive a b c (op s t) v =
      summed _ _ (composed _ _ (product_is_additive a) (coefficient_is_additive a b c s v)) (composed _ _ (product_is_additive b) (coefficient_is_additive a b c t v))

  pub coefficient_vector : (a b : ℕ → ℕ → ℕ) (c : List ℕ) (t : Tree) (v : ℕ) (z : List ℕ) → V z → V (coefficient (affine_by m size a b c) t v z)
  coefficient_vector a b c t v z h = (coefficient_is_additive a b c t v).keeps z h

  pub constant_vector : (a b : ℕ → ℕ → ℕ) (c : List ℕ) (t : Tree) → V (constant (affine_by m size a b c) t)
  constant_vector a b c (var x) = zeros_vector
  constant_vector a b c (op s t) = plus_vector _ _

  -- the variables that a term doesn't have
  pub none_there : (a b : ℕ → ℕ → ℕ) (c : List ℕ) (t : Tree) (v : ℕ) (z : List ℕ) → bound t ≤ v → coefficient (affine_by m size a b c) t v z ≡ zeros size
  none_there a b c (var x) v z h = ap (λ d. cond d z (zeros size)) (ne_eqb x v (λ e. omega arith))
  none_there a b c (op s t) v z h =
      ap₂ (λ x y. plus m size (product m size a x) (product m size b y)) (none_there a b c s v z (omega arith)) (none_there a b c t v z (omega arith))
      ∙ ap₂ (plus m size) (product_zeros a) (product_zeros b) ∙ plus_neutral (zeros size) zeros_vector

  module _ (a b : ℕ → ℕ → ℕ) (c : List ℕ) where
    abbrev f : Affine (List ℕ)
    f = affine_by m size a b c

    pub linear : V c → (times : List ℕ → List ℕ → List ℕ) → ((x y : List ℕ) → V x → V y → times x y ≡ plus m size (plus m size (product m size a x) (product m size b y)) c) → IsLinear (λ x. nat_eq (length x) size && list_all (λ k. nat_lt k m) x) times f
    linear c_inside times operation = record {
      origin_inside = from_vector m size _ zeros_vector;
      added_inside = from_vector m size c c_inside;
      plus_inside = λ x y i j. from_vector m size _ (plus_vector x y);
      left_inside = λ x i. from_vector m size _ (product_vector a x);
      right_inside = λ x i. from_vector m size _ (product_vector b x);
      operation = λ x y i j. operation x y (to_vector m size x i) (to_vector m size y j);
      associative = λ x y z i j k. plus_associative x y z;
      commutative = λ x y i j. plus_commutative x y;
      neutral = λ x i. plus_neutral x (to_vector m size x i);
      cancelled = λ x y z i j k. plus_cancelled x y z (to_vector m size x i) (to_vector m size y j) (to_vector m size z k);
      left_additive = λ x y i j. product_additive a x y;
      right_additive = λ x y i j. product_additive b x y;
    }

    abbrev Made : List ℕ → Type 0
    Made = Spanned (λ x. nat_eq (length x) size && list_all (λ k. nat_lt k m) x) f units

    scaled : ℕ → ℕ → List ℕ
    scaled k n = vector size (λ i. cond (eqb i k) (n % m) 0)

    scaled_made : (k n : ℕ) → k < size → Made (scaled k n)
    unfolding scaled
    scaled_made k zero h = subst Made (vectors_same size (λ i. 0) (λ i. cond (eqb i k) (zero % m) 0) (λ i l. go (eqb i k))) is_origin
      where
        go : (b : Bool) → 0 ≡ cond b (zero % m) 0
        go true = sym (zero-mod m)
        go false = refl
    scaled_made k (suc n) h =
        subst Made
        (vectors_same size _ (λ i. cond (eqb i k) (suc n % m) 0) (λ i l. ap₂ (λ v w. (v + w) % m) (at size (λ i. cond (eqb i k) (n % m) 0) i l) (at size (λ i. cond (eqb i k) (1 % m) 0) i l) ∙ go (eqb i k)))
        (is_sum (scaled k n) (unit m size k) (scaled_made k n h) (is_generator (unit m size k) (among_units k h)))
      where
        go : (b : Bool) → (cond b (n % m) 0 + cond b (1 % m) 0) % m ≡ cond b (suc n % m) 0
        go true = mod-add-mod n m (1 % m) ∙ add-mod-mod n 1 m ∙ ap (λ w. w % m) (omega arith)
        go false = zero-mod m

    -- the first numbers of a vector, and 0 after them
    first : List ℕ → ℕ → List ℕ
    first x n = vector size (λ i. cond (nat_lt i n) (get_or x i 0) 0)

    first_made : (x : List ℕ) → V x → (n : ℕ) → n ≤ size → Made (first x n)
    unfolding first scaled
    first_made x v zero h = subst Made (vectors_same size (λ i. 0) _ (λ i l. ap (λ b. cond b (get_or x i 0) 0) (sym (le-ltb i 0 (omega arith))))) is_origin
    first_made x v (suc n) h =
        subst Made
        (vectors_same size _ (λ i. cond (nat_lt i (suc n)) (get_or x i 0) 0)
        (λ i l. ap₂ (λ v w. (v + w) % m) (at size (λ i. cond (nat_lt i n) (get_or x i 0) 0) i l) (at size (λ i. cond (eqb i n) (get_or x n 0 % m) 0) i l) ∙ each i l (apart i)))
        (is_sum (first x n) (scaled n (get_or x n 0)) (first_made x v n (omega arith)) (scaled_made n (get_or x n 0) (omega arith)))
      where
        apart : (i : ℕ) → (i < n) ⊎ ((i ≡ n) ⊎ (n < i))
        apart i = grind arith

        each : (i : ℕ) → i < size → (i < n) ⊎ ((i ≡ n) ⊎ (n < i)) → (cond (nat_lt i n) (get_or x i 0) 0 + cond (eqb i n) (get_or x n 0 % m) 0) % m ≡ cond (nat_lt i (suc n)) (get_or x i 0) 0
        each i l (inl k) =
            ap₂ (λ b d. (cond b (get_or x i 0) 0 + cond d (get_or x n 0 % m) 0) % m) (lt-ltb i n k) (ne_eqb i n (λ e. omega arith))
            ∙ ap (λ w. w % m) (omega arith) ∙ mod-eq_of_lt (v.below i l) ∙ ap (λ b. cond b (get_or x i 0) 0) (sym (lt-ltb i (suc n) (omega arith)))
        each i l (inr (inl e)) =
            ap₂ (λ b d. (cond b (get_or x i 0) 0 + cond d (get_or x n 0 % m) 0) % m) (le-ltb i n (omega arith)) (eq-eqb i n e)
            ∙ add-mod-mod 0 (get_or x n 0) m ∙ ap (λ w. w % m) (omega (arith, ap (λ j. get_or x j 0) e)) ∙ mod-eq_of_lt (v.below i l) ∙ ap (λ b. cond b (get_or x i 0) 0) (sym (lt-ltb i (suc n) (omega arith)))
        each i l (inr (inr k)) =
            ap₂ (λ b d. (cond b (get_or x i 0) 0 + cond d (get_or x n 0 % m) 0) % m) (le-ltb i n (omega arith)) (ne_eqb i n (λ e. omega arith))
            ∙ zero-mod m ∙ ap (λ b. cond b (get_or x i 0) 0) (sym (le-ltb i (suc n) (omega arith)))

    pub made : (x : List ℕ) → V x → Made x
    unfolding first
    made x v = subst Made (sym (is_vector size _ x v.long (λ i h. ap (λ b. cond b (get_or x i 0) 0) (sym (lt-ltb i size h))))) (first_made x v size (omega arith))

    pub generate : Generate (λ x. nat_eq (length x) size && list_all (λ k. nat_lt k m) x) f units
    generate = record {
      inside_too = λ x d. let u = unit_of x d in subst (λ y. In m size y) u.2 (from_vector m size _ (unit_vector u.0));
      spanned = λ x i. made x (to_vector m size x i);
    }

    vector_of : {x : List ℕ} → Made x → V x
    vector_of is_origin = zeros_vector
    vector_of (is_generator x d) = let u = unit_of x d in subst V u.2 (unit_vector u.0)
    vector_of (is_sum x y s t) = plus_vector x y
    vector_of (is_difference x y i s t) = to_vector m size x i

    -- additive maps that agree on unit vectors agree
    agree_made : (g h : List ℕ → List ℕ) → IsAdditive m size g → IsAdditive m size h → ((k : ℕ) → k < size → g (unit m size k) ≡ h (unit m size k)) → {x : List ℕ} → Made x → g x ≡ h x
    agree_made g h p q e is_origin = p.zero ∙ sym q.zero
    agree_made g h p q e (is_generator x d) = let u = unit_of x d in ap g (sym u.2) ∙ e u.0 u.1 ∙ ap h u.2
    agree_made g h p q e (is_sum x y s t) =
        let v = vector_of s in
        let w = vector_of t in
        p.sum x y v w ∙ ap₂ (plus m size) (agree_made g h p q e s) (agree_made g h p q e t) ∙ sym (q.sum x y v w)
    agree_made g h p q e (is_difference x y i s t) =
        let v = to_vector m size x i in
        let w = vector_of t in
        plus_cancelled (g x) (h x) (g y) (p.keeps x v) (q.keeps x v) (p.keeps y w)
        (sym (p.sum x y v w) ∙ agree_made g h p q e s ∙ q.sum x y v w ∙ ap (plus m size (h x)) (sym (agree_made g h p q e t)))

  pub agree : (g h : List ℕ → List ℕ) → IsAdditive m size g → IsAdditive m size h → ((k : ℕ) → k < size → g (unit m size k) ≡ h (unit m size k)) → (x : List ℕ) → V x → g x ≡ h x
  agree g h p q e x v = agree_made (λ i j. 0) (λ i j. 0) (zeros size) g h p q e (made (λ i j. 0) (λ i j. 0) (zeros size) x v)
