-- A file that is put in last place, and taken out of it again.
use Rattle.std.proofs.Common.{◌≡◌, ℕ, ◌-◌, ◌<◌, List, [], ◌∷◌, ◌++◌, Option, Some, None, IsSome, true≢false, length, slice_get, refl, sym, ap, ◌∙◌, arith, length-append}
use Rattle.std.specs.Option.{option_to_list}
use Rattle.std.specs.Map.{values_of}
use Rattle.std.specs.declared.vec.Vec.{Vec}
use Rattle.etp_closure.specs.Facts.{fact_of}
use Rattle.etp_finite_check.specs.FiniteChecks.{fact_said}
use Rattle.etp_finite.specs.Files.{facts_of}
use Rattle.etp_finite.specs.Kept.{file_of, files_of}
use Rattle.etp_finite.specs.declared.kept.Kept.{Kept}
use Rattle.etp_finite.proofs.Lists.{map_more, map_long}

module _ {X : Type 0} where
  same_front : (xs ys : List X) (x y : X) → ys ++ x ∷ [] ≡ xs ++ y ∷ [] → xs ≡ ys
  same_front [] [] x y e = refl
  same_front [] (b ∷ []) x y e = cc
  same_front [] (b ∷ (d ∷ ys)) x y e = cc
  same_front (a ∷ []) [] x y e = cc
  same_front (a ∷ (d ∷ xs)) [] x y e = cc
  same_front (a ∷ xs) (b ∷ ys) x y e =
      let head : b ≡ a = cc in
      let tail : ys ++ x ∷ [] ≡ xs ++ y ∷ [] = cc in
      let rest = same_front xs ys x y tail in cc

  -- what stands after the last item is taken out
  pub popped : (xs ys all : List X) (x : X) (o : Option X) → IsSome o → all ≡ ys ++ x ∷ [] → all ≡ xs ++ option_to_list o → xs ≡ ys
  popped xs ys all x None h e f = absurd (true≢false (sym h))
  popped xs ys all x (Some y) h e f = same_front xs ys x y (sym e ∙ f)

  last_of : (xs : List X) (x y : X) → slice_get (xs ++ x ∷ []) (length xs) ≡ Some y → y ≡ x
  last_of [] x y h = cc
  last_of (z ∷ zs) x y h = last_of zs x y h

  pub some_last : (xs all : List X) (x : X) → all ≡ xs ++ x ∷ [] → 0 < length all
  some_last xs all x e = omega (arith, ap length e, length-append xs (x ∷ []))

-- the value in last place is the one put there
pub last_kept : {A : Type 0} (es all : List (Vec ℕ A × Kept)) (key : Vec ℕ A) (kept found : Kept) (count : ℕ) → all ≡ es ++ (key, kept) ∷ [] → count ≡ length all → slice_get (values_of all) (count - 1) ≡ Some found → found ≡ kept
last_kept es all key kept found count e n h =
    let long : count - 1 ≡ length es = omega (arith, n, ap length e, length-append es ((key, kept) ∷ [])) in
    let values : values_of all ≡ values_of es ++ kept ∷ [] = ap values_of e ∙ map_more (λ p. p.1) es (key, kept) in
    let same_long : length es ≡ length (values_of es) = sym (map_long (λ p. p.1) es) in
    last_of (values_of es) kept found (ap (slice_get (values_of es ++ kept ∷ [])) (sym same_long) ∙ ap (λ vs. slice_get vs (length es)) (sym values) ∙ ap (slice_get (values_of all)) (sym long) ∙ h)

-- the facts of the files with one more
pub facts_more : {A : Type 0} (es all : List (Vec ℕ A × Kept)) (key : Vec ℕ A) (kept : Kept) → all ≡ es ++ (key, kept) ∷ [] → facts_of (files_of all) ≡ facts_of (files_of es) ++ fact_of kept.fact ∷ []
facts_more es all key kept e =
    ap (λ xs. facts_of (files_of xs)) e
    ∙ ap facts_of (map_more file_of es (key, kept))
    ∙ map_more (λ file. fact_said file.body) (files_of es) (file_of (key, kept))
    ∙ ap (λ x. facts_of (files_of es) ++ x ∷ []) (sym kept.said)
