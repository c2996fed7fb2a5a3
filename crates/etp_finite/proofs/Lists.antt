-- What holds of all items of a list, and of one item more.
use Rattle.std.proofs.Common.{◌≡◌, ℕ, zero, suc, ◌+◌, ◌≤◌, List, [], ◌∷◌, ◌++◌, All, Contains, Some, length, map, take, slice_get, get_or, refl, sym, ap, subst, ◌∙◌, arith, add-one}
use Rattle.std.specs.Option.{option_map}
use Rattle.std.proofs.lemmas.Option.{slice_get_within, slice_get-get_or, get_or_from_slice_get, slice_get-map}
use Rattle.std.proofs.lemmas.List.Elements.{All-contains}

module _ {X : Type 0} where
  -- the items before a place, and the one there
  pub take_next : (xs : List X) (k : ℕ) (x : X) → slice_get xs k ≡ Some x → take (k + 1) xs ≡ take k xs ++ x ∷ []
  take_next xs k x h = rw add-one (next xs k h)
    where
      next : (xs : List X) (k : ℕ) → slice_get xs k ≡ Some x → take (suc k) xs ≡ take k xs ++ x ∷ []
      next [] k h = cc
      next (y ∷ ys) zero h = let e : y ≡ x = cc in ap (λ z. z ∷ []) e
      next (y ∷ ys) (suc k) h = ap (λ zs. y ∷ zs) (next ys k h)

  pub get_contains : (xs : List X) (k : ℕ) (x : X) → slice_get xs k ≡ Some x → Contains xs x
  get_contains xs k x h = (k, slice_get_within xs k x h, get_or_from_slice_get xs k x x h)

  pub contains_get : (xs : List X) (x : X) → Contains xs x → (k : ℕ) × (slice_get xs k ≡ Some x)
  contains_get xs x h = (h.0, slice_get-get_or xs h.0 x h.1 ∙ ap Some h.2)

  pub all_at : (P : X → Type 0) (xs : List X) (k : ℕ) (x : X) → All P xs → slice_get xs k ≡ Some x → P x
  all_at P xs k x all h = All-contains P xs x all (get_contains xs k x h)

  pub all_from : (P : X → Type 0) (xs : List X) → ((k : ℕ) (x : X) → slice_get xs k ≡ Some x → P x) → All P xs
  all_from P xs each k d h = each k (get_or xs k d) (slice_get-get_or xs k d h)

  pub all_none : (P : X → Type 0) → All P []
  all_none P k d h = absurd (omega arith)

  pub all_more : (P : X → Type 0) (xs : List X) (x : X) → All P xs → P x → All P (xs ++ x ∷ [])
  all_more P xs x all here = all_from P (xs ++ x ∷ []) (more xs all)
    where
      more : (xs : List X) → All P xs → (k : ℕ) (y : X) → slice_get (xs ++ x ∷ []) k ≡ Some y → P y
      more [] all zero y h = let e : x ≡ y = cc in subst P e here
      more [] all (suc k) y h = cc
      more (z ∷ zs) all zero y h = let e : z ≡ y = cc in subst P e (all 0 z (omega arith))
      more (z ∷ zs) all (suc k) y h = more zs (λ i d q. all (suc i) d (omega arith)) k y h

  pub all_first : (P : X → Type 0) (x : X) (xs : List X) → All P (x ∷ xs) → P x
  all_first P x xs all = all 0 x (omega arith)

  pub all_rest : (P : X → Type 0) (x : X) (xs : List X) → All P (x ∷ xs) → All P xs
  all_rest P x xs all k d h = all (suc k) d (omega arith)

  pub all_next : (P : X → Type 0) (xs : List X) (k : ℕ) (x : X) → slice_get xs k ≡ Some x → All P (take k xs) → P x → All P (take (k + 1) xs)
  all_next P xs k x h all here = subst (All P) (sym (take_next xs k x h)) (all_more P (take k xs) x all here)

  pub take_whole : (xs : List X) (k : ℕ) → length xs ≤ k → take k xs ≡ xs
  take_whole [] zero h = refl
  take_whole [] (suc k) h = refl
  take_whole (x ∷ xs) zero h = absurd (omega arith)
  take_whole (x ∷ xs) (suc k) h = ap (λ ys. x ∷ ys) (take_whole xs k (omega arith))

module _ {X Y : Type 0} (f : X → Y) where
  pub map_more : (xs : List X) (x : X) → map f (xs ++ x ∷ []) ≡ map f xs ++ f x ∷ []
  map_more [] x = refl
  map_more (y ∷ ys) x = ap (λ zs. f y ∷ zs) (map_more ys x)

  pub map_get : (xs : List X) (k : ℕ) (x : X) → slice_get xs k ≡ Some x → slice_get (map f xs) k ≡ Some (f x)
  map_get xs k x h = slice_get-map f xs k ∙ ap (λ o. option_map f o) h

  pub map_long : (xs : List X) → length (map f xs) ≡ length xs
  map_long [] = refl
  map_long (x ∷ xs) = ap suc (map_long xs)

  -- the item of the list that a place of the mapped list comes from
  pub map_origin : (xs : List X) (k : ℕ) (y : Y) → slice_get (map f xs) k ≡ Some y → (x : X) × (slice_get xs k ≡ Some x) × (f x ≡ y)
  map_origin [] k y h = cc
  map_origin (x ∷ xs) zero y h = let e : f x ≡ y = cc in (x, refl, e)
  map_origin (x ∷ xs) (suc k) y h = map_origin xs k y h

-- the mapped items before a place, and the one there
pub map_next : {X Y : Type 0} (f : X → Y) (xs : List X) (k : ℕ) (x : X) (ys next : List Y) (y : Y) → slice_get xs k ≡ Some x → ys ≡ map f (take k xs) → y ≡ f x → next ≡ ys ++ y ∷ [] → next ≡ map f (take (k + 1) xs)
map_next f xs k x ys next y h so_far here is =
    is ∙ ap (λ zs. zs ++ y ∷ []) so_far ∙ ap (λ z. map f (take k xs) ++ z ∷ []) here ∙ sym (map_more f (take k xs) x) ∙ sym (ap (map f) (take_next xs k x h))

pub map_same : {X Y : Type 0} (f g : X → Y) (xs : List X) → ((k : ℕ) (x : X) → slice_get xs k ≡ Some x → f x ≡ g x) → map f xs ≡ map g xs
map_same f g [] same = refl
map_same f g (x ∷ xs) same = let first = same 0 x refl in let rest = map_same f g xs (λ k y h. same (suc k) y h) in cc
