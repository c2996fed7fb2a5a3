-- Where an element stands in a list: what stands before it.
use Rattle.std.proofs.Common.{◌≡◌, ℕ, ◌+◌, ◌<◌, inl, inr, ◌++◌, List, [], ◌∷◌, length, length-append, map, filter, flat_map, take, get_or, Some, refl, sym, ◌∙◌, ap, subst, suc, zero, arith, Bool, true, append_assoc}
use Rattle.std.proofs.lemmas.Bool.{cond-true}
use Rattle.std.proofs.lemmas.List.{map-append}
use Rattle.std.proofs.lemmas.List.Elements.{filter-append}
use Rattle.std.proofs.lemmas.Grind.{flat_map-append}
use Rattle.std.proofs.lemmas.Option.{slice_get-get_or}
use Rattle.std.proofs.Math.Seq.{take-append_seam, get_or-append_seam}
use Rattle.std.specs.List.{range_with_len, slice_get}
use Rattle.std.specs.List.Sorted.{IsStrictlySortedBy}
use Rattle.std.specs.declared.cmp.Ordering.{Ordering}
use Rattle.std.specs.declared.cmp.Ordering.TheVariants.{Less}
use Rattle.etp_laws.proofs.Rising.{In, In-append_left, In-append_right, each}

-- x stands in the list after those of `before`
pub record Split {X : Type 0} (xs before : List X) (x : X) : Type 0 where
  pub after : List X
  pub is : xs ≡ before ++ x ∷ after

pub Split-map : {X Y : Type 0} (f : X → Y) (xs b : List X) (x : X) → Split xs b x → Split (map f xs) (map f b) (f x)
Split-map f xs b x s = record { after = map f s.after; is = ap (map f) s.is ∙ map-append f b (x ∷ s.after) }

pub Split-flat_map : {X Y : Type 0} (f : X → List Y) (xs b : List X) (x : X) (c : List Y) (y : Y) → Split xs b x → Split (f x) c y → Split (flat_map f xs) (flat_map f b ++ c) y
Split-flat_map f xs b x c y s t = record {
  after = t.after ++ flat_map f s.after;
  is = ap (flat_map f) s.is ∙ flat_map-append f b (x ∷ s.after)
      ∙ ap (λ zs. flat_map f b ++ (zs ++ flat_map f s.after)) t.is
      ∙ ap (λ zs. flat_map f b ++ zs) (append_assoc c (y ∷ t.after) (flat_map f s.after))
      ∙ sym (append_assoc (flat_map f b) c (y ∷ (t.after ++ flat_map f s.after)));
}

pub Split-filter : {X : Type 0} (p : X → Bool) (xs b : List X) (x : X) → Split xs b x → p x ≡ true → Split (filter p xs) (filter p b) x
Split-filter p xs b x s h = record {
  after = filter p s.after;
  is = ap (filter p) s.is ∙ filter-append p b (x ∷ s.after) ∙ ap (λ zs. filter p b ++ zs) (cond-true (p x) (x ∷ filter p s.after) (filter p s.after) h);
}

pub Split-range : (a i n j : ℕ) → j ≡ a + i → i < n → Split (range_with_len a n) (range_with_len a i) j
Split-range a i zero j e h = absurd (omega arith)
Split-range a zero (suc n) j e h = let same : a ≡ j = omega arith in record { after = range_with_len (a + 1) n; is = ap (λ x. x ∷ range_with_len (a + 1) n) same }
Split-range a (suc i) (suc n) j e h =
    let s = Split-range (a + 1) i n j (omega arith) (omega arith) in
    record { after = s.after; is = ap (λ xs. a ∷ xs) s.is }

pub Split-length : {X : Type 0} (xs b : List X) (x : X) → Split xs b x → length b < length xs
Split-length xs b x s = let l : length xs ≡ length b + length (x ∷ s.after) = ap length s.is ∙ length-append b (x ∷ s.after) in omega arith

pub Split-get : {X : Type 0} (xs b : List X) (x : X) → Split xs b x → slice_get xs (length b) ≡ Some x
Split-get xs b x s =
    slice_get-get_or xs (length b) x (Split-length xs b x s) ∙ ap Some (ap (λ ys. get_or ys (length b) x) s.is ∙ get_or-append_seam b x s.after x)

pub Split-take : {X : Type 0} (xs b : List X) (x : X) → Split xs b x → b ≡ take (length b) xs
Split-take xs b x s = sym (take-append_seam b (x ∷ s.after)) ∙ ap (take (length b)) (sym s.is)

pub In-before : {X : Type 0} (xs b : List X) (x y : X) → Split xs b x → In y b → In y xs
In-before xs b x y s h =
    let k = In-append_left y b (x ∷ s.after) h in
    subst (In y) (sym s.is) k

-- of two elements of a list, the one with fewer before it stands before the other
earlier : {X : Type 0} (b c d e : List X) (x y : X) → b ++ x ∷ d ≡ c ++ y ∷ e → length b < length c → In x c
earlier [] [] d e x y h l = absurd (omega arith)
earlier [] (z ∷ c) d e x y h l = let same : x ≡ z = cc in inl same
earlier (z ∷ b) [] d e x y h l = absurd (omega arith)
earlier (z ∷ b) (w ∷ c) d e x y h l = let rest : b ++ x ∷ d ≡ c ++ y ∷ e = cc in inr (earlier b c d e x y rest (omega arith))

pub Split-earlier : {X : Type 0} (xs b c : List X) (x y : X) → Split xs b x → Split xs c y → length b < length c → In x c
Split-earlier xs b c x y s t l = earlier b c s.after t.after x y (sym s.is ∙ t.is) l

pub Split-same : {X : Type 0} (xs b c : List X) (x y : X) → Split xs b x → Split xs c y → length b ≡ length c → x ≡ y
Split-same xs b c x y s t e =
    let both : Some x ≡ Some y = sym (Split-get xs b x s) ∙ ap (slice_get xs) e ∙ Split-get xs c y t in
    cc

rising_before : {X : Type 0} (R : X → X → Ordering) (b d : List X) (x y : X) → IsStrictlySortedBy R (b ++ x ∷ d) → In y b → R y x ≡ Less
unfolding IsStrictlySortedBy
rising_before R [] d x y r h = absurd h
rising_before R (z ∷ b) d x y r (inl e) = subst (λ u. R u x ≡ Less) (sym e) (each (λ u. R z u ≡ Less) (b ++ x ∷ d) r.0 x (In-append_right x b (x ∷ d) (inl refl)))
rising_before R (z ∷ b) d x y r (inr h) = rising_before R b d x y r.1 h

-- in a rising list, what stands before an element is less
pub Split-less : {X : Type 0} (R : X → X → Ordering) (xs b : List X) (x y : X) → Split xs b x → IsStrictlySortedBy R xs → In y b → R y x ≡ Less
Split-less R xs b x y s r h = rising_before R b s.after x y (subst (IsStrictlySortedBy R) s.is r) h
