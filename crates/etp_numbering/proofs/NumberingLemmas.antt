-- Variables that are noted one by one.
use Rattle.std.proofs.Common.{◌≡◌, ℕ, ◌+◌, ◌<◌, ◌≤◌, ◌⊎◌, inl, inr, List, [], ◌∷◌, ◌++◌, length, Bool, true, false, not, cond, ◌==◌, ◌||◌, eqb, Option, Some, None, position, refl, sym, ap, ◌∙◌, arith}
use Rattle.std.specs.List.{list_any, AllByRecursion, IsDistinct}
use Rattle.std.proofs.lemmas.Bool.{lt-ltb, eqb-true}
use Rattle.std.proofs.lemmas.List.Folds.{list_any-append}
use Rattle.std.proofs.lemmas.Map.Steps.{length-le_from_distinct_below}
use Rattle.etp_laws.specs.Occurrences.{place, seen_after, seen_all}
use Rattle.etp_laws.proofs.Occurrences.{place_at_most, after_new}
use Rattle.etp_numbering.specs.Numbering.{AreApart}

-- one word behind the other
pub seen_all-append : (s u w : List ℕ) → seen_all s (u ++ w) ≡ seen_all (seen_all s u) w
seen_all-append s [] w = refl
seen_all-append s (v ∷ u) w = seen_all-append (seen_after s v) u w

-- where a variable stands first

found_at : (xs : List ℕ) (v : ℕ) → place xs v < length xs → position (λ x. x == v) xs ≡ Some (place xs v)
found_at xs v h = ap (λ b. cond b (Some (place xs v)) None) (lt-ltb (place xs v) (length xs) h)

new_place : (xs : List ℕ) (v : ℕ) → position (λ x. x == v) xs ≡ None → place xs v ≡ length xs
new_place xs v h = go (place_at_most xs v)
  where
    go : ((place xs v < length xs) ⊎ (place xs v ≡ length xs)) → place xs v ≡ length xs
    go (inl l) = let q : ◌≡◌ {A = Option ℕ} (Some (place xs v)) None = sym (found_at xs v l) ∙ h in absurd (cc)
    go (inr e) = e

pub seen_now : (xs : List ℕ) (v : ℕ) → position (λ x. x == v) xs ≡ None → seen_after xs v ≡ xs ++ v ∷ []
seen_now xs v h = after_new xs v (new_place xs v h)

-- variables stay apart

all_more : (P : ℕ → Type 0) (xs : List ℕ) (v : ℕ) → AllByRecursion P xs → P v → AllByRecursion P (xs ++ v ∷ [])
all_more P [] v all p = (p, tt)
all_more P (x ∷ xs) v all p = (all.0, all_more P xs v all.1 p)

distinct_more : (xs : List ℕ) (v : ℕ) → IsDistinct eqb xs → place xs v ≡ length xs → IsDistinct eqb (xs ++ v ∷ [])
unfolding IsDistinct
distinct_more [] v d n = (tt, tt)
distinct_more (x ∷ xs) v d n = go (x == v) refl n (distinct_more xs v d.1)
  where
    go : (b : Bool) → (x == v) ≡ b → cond (not b) (1 + place xs v) 0 ≡ length (x ∷ xs) → (place xs v ≡ length xs → IsDistinct eqb (xs ++ v ∷ [])) → IsDistinct eqb ((x ∷ xs) ++ v ∷ [])
    go true e m rest = absurd (omega (arith, m))
    go false e m rest = (all_more (λ y. eqb x y ≡ false) xs v d.0 e, rest (omega (arith, m)))

bytes_more : (xs : List ℕ) (v : ℕ) → v < 256 → ((q : ℕ) → list_any (eqb q) xs ≡ true → q < 256) → (q : ℕ) → list_any (eqb q) (xs ++ v ∷ []) ≡ true → q < 256
bytes_more xs v small bytes q h = go (list_any (eqb q) xs) refl (eqb q v) refl (sym (list_any-append (eqb q) xs (v ∷ [])) ∙ h)
  where
    go : (b : Bool) → list_any (eqb q) xs ≡ b → (c : Bool) → eqb q v ≡ c → (list_any (eqb q) xs || (eqb q v || false)) ≡ true → q < 256
    go true e c f k = bytes q e
    go false e true f k = let same = eqb-true q v f in omega (arith, same, small)
    go false e false f k = let bad : false ≡ true = rw f at (rw e at k) in absurd (cc)

none_distinct : IsDistinct eqb []
unfolding IsDistinct
none_distinct = tt

pub none_apart : AreApart []
none_apart = record { distinct = none_distinct; bytes = λ v h. (let bad : false ≡ true = h in absurd (cc)) }

pub apart_more : (xs : List ℕ) (v : ℕ) → v < 256 → AreApart xs → position (λ x. x == v) xs ≡ None → AreApart (xs ++ v ∷ [])
apart_more xs v small apart h = record {
  distinct = distinct_more xs v apart.distinct (new_place xs v h);
  bytes = bytes_more xs v small apart.bytes;
}

pub few_apart : (xs : List ℕ) → AreApart xs → length xs ≤ 256
few_apart xs apart = length-le_from_distinct_below xs 256 apart.distinct apart.bytes
