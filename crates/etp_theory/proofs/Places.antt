-- The order of positions and of places, and the first of them at which something is found.
use Rattle.std.proofs.Common.{◌≡◌, ℕ, zero, suc, ◌<◌, ◌⊎◌, inl, inr, ◌↔◌, List, [], ◌∷◌, ◌++◌, Some, refl, sym, ap, ◌∙◌, subst, arith}
use Rattle.etp_theory.specs.Trees.{Tree, var, op}
use Rattle.etp_theory.specs.Positions.{Side, to_left, to_right, sub_at}
use Rattle.etp_theory.specs.FailingOverlaps.{PositionBefore, Place, PlaceBefore, by_outer, by_position, by_inner}
use Rattle.etp_theory.proofs.Comparing.{equal_or_below}

-- positions

position_irreflexive : (p : List Side) → PositionBefore p p → ⊥
position_irreflexive [] h = h
position_irreflexive (to_left ∷ p) h = position_irreflexive p h
position_irreflexive (to_right ∷ p) h = position_irreflexive p h

position_transitive : (p q r : List Side) → PositionBefore p q → PositionBefore q r → PositionBefore p r
position_transitive [] [] r h k = absurd h
position_transitive [] (d ∷ q) [] h k = k
position_transitive [] (d ∷ q) (e ∷ r) h k = tt
position_transitive (d ∷ p) [] r h k = absurd h
position_transitive (to_left ∷ p) (to_left ∷ q) [] h k = k
position_transitive (to_left ∷ p) (to_left ∷ q) (to_left ∷ r) h k = position_transitive p q r h k
position_transitive (to_left ∷ p) (to_left ∷ q) (to_right ∷ r) h k = tt
position_transitive (to_left ∷ p) (to_right ∷ q) [] h k = k
position_transitive (to_left ∷ p) (to_right ∷ q) (to_left ∷ r) h k = absurd k
position_transitive (to_left ∷ p) (to_right ∷ q) (to_right ∷ r) h k = tt
position_transitive (to_right ∷ p) (to_left ∷ q) r h k = absurd h
position_transitive (to_right ∷ p) (to_right ∷ q) [] h k = k
position_transitive (to_right ∷ p) (to_right ∷ q) (to_left ∷ r) h k = k
position_transitive (to_right ∷ p) (to_right ∷ q) (to_right ∷ r) h k = position_transitive p q r h k

one_deeper : (d : Side) {p q : List Side} {A B : Type 0} → (p ≡ q) ⊎ (A ⊎ B) → (◌≡◌ {A = List Side} (d ∷ p) (d ∷ q)) ⊎ (A ⊎ B)
one_deeper d (inl e) = inl (ap (λ r. d ∷ r) e)
one_deeper d (inr h) = inr h

position_total : (p q : List Side) → (p ≡ q) ⊎ (PositionBefore p q ⊎ PositionBefore q p)
position_total [] [] = inl refl
position_total [] (d ∷ q) = inr (inl tt)
position_total (d ∷ p) [] = inr (inr tt)
position_total (to_left ∷ p) (to_left ∷ q) = one_deeper to_left (position_total p q)
position_total (to_left ∷ p) (to_right ∷ q) = inr (inl tt)
position_total (to_right ∷ p) (to_left ∷ q) = inr (inr tt)
position_total (to_right ∷ p) (to_right ∷ q) = one_deeper to_right (position_total p q)

-- positions inside one part are ordered as the part's own
pub position_inside : (p q r : List Side) → PositionBefore (p ++ q) (p ++ r) ↔ PositionBefore q r
position_inside [] q r = (λ h. h, λ h. h)
position_inside (to_left ∷ p) q r = position_inside p q r
position_inside (to_right ∷ p) q r = position_inside p q r

-- places

pub irreflexive : (x : Place) → PlaceBefore x x → ⊥
irreflexive x (by_outer h) = omega (arith, h)
irreflexive x (by_position e h) = position_irreflexive x.position h
irreflexive x (by_inner e q h) = omega (arith, h)

pub transitive : (x y z : Place) → PlaceBefore x y → PlaceBefore y z → PlaceBefore x z
transitive x y z (by_outer h) (by_outer k) = by_outer (omega (arith, h, k))
transitive x y z (by_outer h) (by_position e k) = by_outer (subst (λ n. x.outer < n) e h)
transitive x y z (by_outer h) (by_inner e q k) = by_outer (subst (λ n. x.outer < n) e h)
transitive x y z (by_position e h) (by_outer k) = by_outer (subst (λ n. n < z.outer) (sym e) k)
transitive x y z (by_position e h) (by_position f k) = by_position (e ∙ f) (position_transitive x.position y.position z.position h k)
transitive x y z (by_position e h) (by_inner f q k) = by_position (e ∙ f) (subst (PositionBefore x.position) q h)
transitive x y z (by_inner e q h) (by_outer k) = by_outer (subst (λ n. n < z.outer) (sym e) k)
transitive x y z (by_inner e q h) (by_position f k) = by_position (e ∙ f) (subst (λ r. PositionBefore r z.position) (sym q) k)
transitive x y z (by_inner e q h) (by_inner f r k) = by_inner (e ∙ f) (q ∙ r) (omega (arith, h, k))

nat_total : (i j : ℕ) → (i ≡ j) ⊎ ((i < j) ⊎ (j < i))
nat_total i j = grind arith

pub place_eq : (x y : Place) → x.outer ≡ y.outer → x.position ≡ y.position → x.inner ≡ y.inner → x ≡ y
place_eq x y a b c = ap (λ i. at i x.position x.inner) a ∙ ap (λ p. at y.outer p x.inner) b ∙ ap (λ j. at y.outer y.position j) c
  where
    at : ℕ → List Side → ℕ → Place
    at i p j = record { outer = i; position = p; inner = j }

pub total : (x y : Place) → (x ≡ y) ⊎ (PlaceBefore x y ⊎ PlaceBefore y x)
total x y = outers (nat_total x.outer y.outer)
  where
    inners : x.outer ≡ y.outer → x.position ≡ y.position → (x.inner ≡ y.inner) ⊎ ((x.inner < y.inner) ⊎ (y.inner < x.inner)) → (x ≡ y) ⊎ (PlaceBefore x y ⊎ PlaceBefore y x)
    inners a b (inl c) = inl (place_eq x y a b c)
    inners a b (inr (inl h)) = inr (inl (by_inner a b h))
    inners a b (inr (inr h)) = inr (inr (by_inner (sym a) (sym b) h))

    positions : x.outer ≡ y.outer → (x.position ≡ y.position) ⊎ (PositionBefore x.position y.position ⊎ PositionBefore y.position x.position) → (x ≡ y) ⊎ (PlaceBefore x y ⊎ PlaceBefore y x)
    positions a (inl b) = inners a b (nat_total x.inner y.inner)
    positions a (inr (inl h)) = inr (inl (by_position a h))
    positions a (inr (inr h)) = inr (inr (by_position (sym a) h))

    outers : (x.outer ≡ y.outer) ⊎ ((x.outer < y.outer) ⊎ (y.outer < x.outer)) → (x ≡ y) ⊎ (PlaceBefore x y ⊎ PlaceBefore y x)
    outers (inl a) = positions a (position_total x.position y.position)
    outers (inr (inl h)) = inr (inl (by_outer h))
    outers (inr (inr h)) = inr (inr (by_outer h))

-- the first at which something is found

-- the first number below `n` at which the second holds, where at each the first or the second does
pub first_below : (n : ℕ) (P Q : ℕ → Type 0) → ((i : ℕ) → P i ⊎ Q i) → ((i : ℕ) → i < n → P i) ⊎ ((i : ℕ) × Q i × ((k : ℕ) → k < i → P k))
first_below zero P Q each = inl (λ i h. absurd (omega (arith, h)))
first_below (suc n) P Q each = go (first_below n P Q each) (each n)
  where
    with_last : ((i : ℕ) → i < n → P i) → P n → (i : ℕ) → (i ≡ n) ⊎ (i < n) → P i
    with_last all last i (inl e) = subst P (sym e) last
    with_last all last i (inr l) = all i l

    go : ((i : ℕ) → i < n → P i) ⊎ ((i : ℕ) × Q i × ((k : ℕ) → k < i → P k)) → P n ⊎ Q n → ((i : ℕ) → i < suc n → P i) ⊎ ((i : ℕ) × Q i × ((k : ℕ) → k < i → P k))
    go (inr found) last = inr found
    go (inl all) (inl last) = inl (λ i h. with_last all last i (equal_or_below i n h))
    go (inl all) (inr found) = inr (n, found, all)

no_part : (p : List Side) (v : ℕ) (x y : Tree) → sub_at p (var v) ≡ Some (op x y) → ⊥
no_part [] v x y h = absurd (cc)
no_part (to_left ∷ p) v x y h = absurd (cc)
no_part (to_right ∷ p) v x y h = absurd (cc)

abbrev pub NoOperation : List Side → Tree → Type 0
NoOperation p t = (x y : Tree) → sub_at p t ≡ Some (op x y) → ⊥

-- the same for the positions of a term, where the first holds at each that isn't an operation's
pub first_position : (t : Tree) (P Q : List Side → Type 0) → ((p : List Side) → NoOperation p t → P p) → ((p : List Side) → P p ⊎ Q p) → ((p : List Side) → P p) ⊎ ((p : List Side) × Q p × ((q : List Side) → PositionBefore q p → P q))
first_position (var v) P Q outside each = inl (λ p. outside p (no_part p v))
first_position (op l r) P Q outside each = go (each [])
    (first_position l (λ p. P (to_left ∷ p)) (λ p. Q (to_left ∷ p)) (λ p. outside (to_left ∷ p)) (λ p. each (to_left ∷ p)))
    (first_position r (λ p. P (to_right ∷ p)) (λ p. Q (to_right ∷ p)) (λ p. outside (to_right ∷ p)) (λ p. each (to_right ∷ p)))
  where
    everywhere : P [] → ((p : List Side) → P (to_left ∷ p)) → ((p : List Side) → P (to_right ∷ p)) → (p : List Side) → P p
    everywhere root lefts rights [] = root
    everywhere root lefts rights (to_left ∷ p) = lefts p
    everywhere root lefts rights (to_right ∷ p) = rights p

    before_root : (q : List Side) → PositionBefore q [] → P q
    before_root [] h = absurd h
    before_root (d ∷ q) h = absurd h

    before_left : P [] → (p : List Side) → ((q : List Side) → PositionBefore q p → P (to_left ∷ q)) → (q : List Side) → PositionBefore q (to_left ∷ p) → P q
    before_left root p lefts [] h = root
    before_left root p lefts (to_left ∷ q) h = lefts q h
    before_left root p lefts (to_right ∷ q) h = absurd h

    before_right : P [] → ((p : List Side) → P (to_left ∷ p)) → (p : List Side) → ((q : List Side) → PositionBefore q p → P (to_right ∷ q)) → (q : List Side) → PositionBefore q (to_right ∷ p) → P q
    before_right root lefts p rights [] h = root
    before_right root lefts p rights (to_left ∷ q) h = lefts q
    before_right root lefts p rights (to_right ∷ q) h = rights q h

    go : P [] ⊎ Q [] →
        ((p : List Side) → P (to_left ∷ p)) ⊎ ((p : List Side) × Q (to_left ∷ p) × ((q : List Side) → PositionBefore q p → P (to_left ∷ q))) →
        ((p : List Side) → P (to_right ∷ p)) ⊎ ((p : List Side) × Q (to_right ∷ p) × ((q : List Side) → PositionBefore q p → P (to_right ∷ q))) →
        ((p : List Side) → P p) ⊎ ((p : List Side) × Q p × ((q : List Side) → PositionBefore q p → P q))
    go (inr found) lefts rights = inr ([], found, before_root)
    go (inl root) (inr f) rights = inr (to_left ∷ f.0, f.1, before_left root f.0 f.2)
    go (inl root) (inl lefts) (inr f) = inr (to_right ∷ f.0, f.1, before_right root lefts f.0 f.2)
    go (inl root) (inl lefts) (inl rights) = inl (everywhere root lefts rights)
