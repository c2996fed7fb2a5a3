-- Lists of values are all assignments.
use Rattle.std.specs.Ordering.{nat_cmp, ordering_then, MatchOrdering}
use Rattle.std.specs.declared.cmp.Ordering.{Ordering}
use Rattle.std.specs.declared.cmp.Ordering.TheVariants.{Less, Equal, Greater}
use Rattle.std.specs.Cmp.Lexicographic.{slice_cmp}
use Rattle.std.specs.Cmp.{ranks}
use Rattle.std.proofs.Math.Nat.{pow-zero, pow-succ', mod-lt, div-lt_iff_lt-mul}
use Rattle.std.proofs.lemmas.Nat.{div-add-mod'}
use Rattle.std.proofs.Common.{◌+◌, ◌*◌, ◌^◌, ◌/◌, ◌%◌, ◌⊎◌, ◌↔◌, inl, inr, mul-le-mul_right, mul-zero, ◌≡◌, ℕ, zero, suc, ◌<◌, ◌≤◌, Bool, true, false, cond, ltb, List, [], ◌∷◌, length, get_or, refl, sym, ap, ap₂, ◌∙◌, subst, arith, lt-ltb, ltb-true}
use Rattle.etp_theory.specs.Trees.{Tree, var, op, bound, Equation}
use Rattle.etp_theory.specs.Magmas.{meaning, Holds}
use Rattle.etp_theory.specs.Tables.{HoldsInLists, IsAssignment, assigned, below, place_of}

-- the value of a term looks at its variables alone
meaning_agree : {A : Type 0} (times : A → A → A) (r s : ℕ → A) (k : ℕ) (t : Tree) → bound t ≤ k → ((v : ℕ) → v < k → r v ≡ s v) → meaning times r t ≡ meaning times s t
meaning_agree times r s k (var v) b h = h v b
meaning_agree times r s k (op l t) b h = ap₂ times (meaning_agree times r s k l (omega arith) h) (meaning_agree times r s k t (omega arith) h)

row : (ℕ → ℕ) → ℕ → List ℕ
row r zero = []
row r (suc k) = r 0 ∷ row (λ v. r (suc v)) k

row_length : (r : ℕ → ℕ) (k : ℕ) → length (row r k) ≡ k
unfolding row
row_length r zero = refl
row_length r (suc k) = ap suc (row_length (λ v. r (suc v)) k)

row_at : (r : ℕ → ℕ) (k v : ℕ) → v < k → get_or (row r k) v 0 ≡ r v
unfolding row
row_at r zero v h = absurd (omega arith)
row_at r (suc k) zero h = refl
row_at r (suc k) (suc v) h = row_at (λ v. r (suc v)) k v (omega arith)

pub holds_of_lists : (k n : ℕ) (times : ℕ → ℕ → ℕ) (e : Equation) → bound e.left ≤ k → bound e.right ≤ k → HoldsInLists k n times e → Holds (below n) times e.left e.right
holds_of_lists k n times e bl br h r inside =
    let xs = row r k in
    let same : (v : ℕ) → v < k → get_or xs v 0 ≡ r v = row_at r k in
    sym (meaning_agree times (assigned xs) r k e.left bl same)
    ∙ h xs (record { count = row_length r k; each = λ i l. subst (λ x. x < n) (sym (same i l)) (ltb-true (r i) n (inside i)) })
    ∙ meaning_agree times (assigned xs) r k e.right br same

pub lists_of_holds : (k n : ℕ) (times : ℕ → ℕ → ℕ) (e : Equation) → 0 < k → bound e.left ≤ k → bound e.right ≤ k → Holds (below n) times e.left e.right → HoldsInLists k n times e
lists_of_holds k n times e pos bl br h xs a =
    meaning_agree times (assigned xs) r k e.left bl same
    ∙ h r (λ v. lt-ltb (r v) n (within v (ltb v k) refl))
    ∙ sym (meaning_agree times (assigned xs) r k e.right br same)
  where
    r : ℕ → ℕ
    r v = cond (ltb v k) (get_or xs v 0) (get_or xs 0 0)

    same : (v : ℕ) → v < k → get_or xs v 0 ≡ r v
    same v l = sym (ap (λ c. cond c (get_or xs v 0) (get_or xs 0 0)) (lt-ltb v k l))

    within : (v : ℕ) (b : Bool) → ltb v k ≡ b → cond b (get_or xs v 0) (get_or xs 0 0) < n
    within v true q = a.each v (ltb-true v k q)
    within v false q = a.each 0 pos

-- the order of assignments

abbrev pub AllBelow : ℕ → List ℕ → Type 0
AllBelow n xs = (i : ℕ) → i < length xs → get_or xs i 0 < n

rest_below : (n x : ℕ) (xs : List ℕ) → AllBelow n (x ∷ xs) → AllBelow n xs
rest_below n x xs h i l = h (suc i) (omega arith)

pub place_lt : (n : ℕ) (xs : List ℕ) → AllBelow n xs → place_of n xs < n ^ length xs
place_lt n [] h = omega (arith, pow-zero n)
place_lt n (x ∷ xs) h =
    let first : x < n = h 0 (omega arith) in
    let up : (x + 1) * n ^ length xs ≤ n * n ^ length xs = mul-le-mul_right (n ^ length xs) (omega arith) in
    omega (arith, up, place_lt n xs (rest_below n x xs h), pow-succ' n (length xs))

-- two lists in order, with the order of their places
abbrev pub Ranked : ℕ → List ℕ → List ℕ → Type 0
Ranked n xs ys =
    ((slice_cmp nat_cmp xs ys ≡ Less) × (place_of n xs < place_of n ys))
    ⊎ (((slice_cmp nat_cmp xs ys ≡ Equal) × (place_of n xs ≡ place_of n ys))
    ⊎ ((slice_cmp nat_cmp xs ys ≡ Greater) × (place_of n ys < place_of n xs)))

smaller_first : (n x y p q m : ℕ) → x < y → p < n ^ m → x * n ^ m + p < y * n ^ m + q
smaller_first n x y p q m h k =
    let up : (x + 1) * n ^ m ≤ y * n ^ m = mul-le-mul_right (n ^ m) (omega arith) in
    omega (arith, up)

lengths : (x y : ℕ) (xs ys : List ℕ) → length (x ∷ xs) ≡ length (y ∷ ys) → length xs ≡ length ys
lengths x y xs ys e = omega (arith, e)

pub ranked : (n : ℕ) (xs ys : List ℕ) → length xs ≡ length ys → AllBelow n xs → AllBelow n ys → Ranked n xs ys
ranked n [] [] e h k = inr (inl (refl, refl))
ranked n [] (y ∷ ys) e h k = absurd (omega (arith, e))
ranked n (x ∷ xs) [] e h k = absurd (omega (arith, e))
ranked n (x ∷ xs) (y ∷ ys) e h k =
    go (nat_cmp x y) refl (ranks x y) (ranked n xs ys (lengths x y xs ys e) (rest_below n x xs h) (rest_below n y ys k))
  where
    same : length xs ≡ length ys
    same = lengths x y xs ys e

    low : place_of n xs < n ^ length xs
    low = place_lt n xs (rest_below n x xs h)

    high : place_of n ys < n ^ length xs
    high = subst (λ z. place_of n ys < n ^ z) (sym same) (place_lt n ys (rest_below n y ys k))

    second : y * n ^ length xs + place_of n ys ≡ place_of n (y ∷ ys)
    second = ap (λ z. y * n ^ z + place_of n ys) same

    level : x ≡ y → x * n ^ length xs ≡ y * n ^ length xs
    level r = ap (λ z. z * n ^ length xs) r

    later : x ≡ y → slice_cmp nat_cmp (x ∷ xs) (y ∷ ys) ≡ slice_cmp nat_cmp xs ys → Ranked n xs ys → Ranked n (x ∷ xs) (y ∷ ys)
    later r c (inl i) = inl (c ∙ i.0, subst (λ z. x * n ^ length xs + place_of n xs < z) second (omega (arith, level r, i.1)))
    later r c (inr (inl i)) = inr (inl (c ∙ i.0, subst (λ z. x * n ^ length xs + place_of n xs ≡ z) second (omega (arith, level r, i.1))))
    later r c (inr (inr i)) = inr (inr (c ∙ i.0, subst (λ z. z < x * n ^ length xs + place_of n xs) second (omega (arith, level r, i.1))))

    go : (o : Ordering) → nat_cmp x y ≡ o → MatchOrdering o (x < y) (x ≡ y) (y < x) → Ranked n xs ys → Ranked n (x ∷ xs) (y ∷ ys)
    go Less q r i = inl (ap (λ o. ordering_then o (slice_cmp nat_cmp xs ys)) q, subst (λ z. place_of n (x ∷ xs) < z) second (smaller_first n x y (place_of n xs) (place_of n ys) (length xs) r low))
    go Greater q r i = inr (inr (ap (λ o. ordering_then o (slice_cmp nat_cmp xs ys)) q, subst (λ z. z < place_of n (x ∷ xs)) second (smaller_first n y x (place_of n ys) (place_of n xs) (length xs) r high)))
    go Equal q r i = later r (ap (λ o. ordering_then o (slice_cmp nat_cmp xs ys)) q) i

pub all_below : (k n : ℕ) (xs : List ℕ) → IsAssignment k n xs → AllBelow n xs
all_below k n xs a i l = a.each i (omega (arith, a.count, l))

pub place_below : (k n : ℕ) (xs : List ℕ) → IsAssignment k n xs → place_of n xs < n ^ k
place_below k n xs a = subst (λ z. place_of n xs < n ^ z) a.count (place_lt n xs (all_below k n xs a))

pub in_order : (k n : ℕ) (xs ys : List ℕ) → IsAssignment k n xs → IsAssignment k n ys → (slice_cmp nat_cmp xs ys ≡ Less) ↔ (place_of n xs < place_of n ys)
in_order k n xs ys a b = (λ h. forth h rank, λ h. back h rank)
  where
    rank : Ranked n xs ys
    rank = ranked n xs ys (a.count ∙ sym b.count) (all_below k n xs a) (all_below k n ys b)

    forth : slice_cmp nat_cmp xs ys ≡ Less → Ranked n xs ys → place_of n xs < place_of n ys
    forth h (inl r) = r.1
    forth h (inr (inl r)) = absurd (let q : Less ≡ Equal = sym h ∙ r.0 in cc)
    forth h (inr (inr r)) = absurd (let q : Less ≡ Greater = sym h ∙ r.0 in cc)

    back : place_of n xs < place_of n ys → Ranked n xs ys → slice_cmp nat_cmp xs ys ≡ Less
    back h (inl r) = r.0
    back h (inr (inl r)) = absurd (omega (arith, h, r.1))
    back h (inr (inr r)) = absurd (omega (arith, h, r.1))

product_of_none : (i n p : ℕ) → i < n * p → 0 < p
product_of_none i n zero h = absurd (omega (arith, h, mul-zero n))
product_of_none i n (suc p) h = omega arith

each_more : (n x : ℕ) (xs : List ℕ) (k : ℕ) → x < n → ((i : ℕ) → i < k → get_or xs i 0 < n) → (i : ℕ) → i < suc k → get_or (x ∷ xs) i 0 < n
each_more n x xs k h f zero l = h
each_more n x xs k h f (suc i) l = f i (omega arith)

pub place_taken : (k n i : ℕ) → i < n ^ k → (xs : List ℕ) × IsAssignment k n xs × (place_of n xs ≡ i)
place_taken zero n i h = ([], record { count = refl; each = λ j l. absurd (omega arith) }, omega (arith, h, pow-zero n))
place_taken (suc k) n i h =
    let whole : i < n * n ^ k = omega (arith, h, pow-succ' n k) in
    let some = product_of_none i n (n ^ k) whole in
    let r = place_taken k n (i % n ^ k) (mod-lt i some) in
    let first : i / n ^ k < n = (div-lt_iff_lt-mul some).1 whole in
    let place : i / n ^ k * n ^ length r.0 + place_of n r.0 ≡ i =
    ap₂ (λ y z. i / n ^ k * n ^ y + z) r.1.count r.2 ∙ div-add-mod' i (n ^ k) in
    (i / n ^ k ∷ r.0, record { count = ap suc r.1.count; each = each_more n (i / n ^ k) r.0 k first r.1.each }, place)
