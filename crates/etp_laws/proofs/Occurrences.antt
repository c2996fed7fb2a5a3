use Rattle.std.proofs.Common.{◌≡◌, ℕ, ◌+◌, ◌<◌, ◌≤◌, ◌⊎◌, inl, inr, ◌++◌, List, [], ◌∷◌, length, length-append, map, refl, sym, ◌∙◌, ap, subst, suc, not, arith, Bool, true, false, cond, eqb, min, ◌==◌}
use Rattle.std.proofs.lemmas.Bool.{cases_lt, cases_order, cond-true, cond-false, eqb-true, eqb-false, eq-eqb, ne_eqb}
use Rattle.std.proofs.lemmas.Bool.Decides.{nat_tests}
use Rattle.std.proofs.lemmas.List.{length-map, map-append}
use Rattle.std.proofs.lemmas.List.Folds.{position_or_len_push}
use Rattle.std.specs.Cmp.Lexicographic.{slice_cmp}
use Rattle.std.specs.Ordering.{nat_cmp, ordering_then, is_gt}
use Rattle.std.specs.declared.cmp.Ordering.{Ordering}
use Rattle.etp_theory.specs.Sameness.{IsInjective}
use Rattle.etp_theory.proofs.Comparing.{nat_cmp-less, nat_cmp-equal}
use Rattle.etp_laws.specs.Occurrences.{place, seen_after, by_occurrence_after, by_occurrence, Grows}

-- the renaming g gives each variable that was seen its place, and every other one a number from there on
abbrev pub Stage : (ℕ → ℕ) → List ℕ → Type 0
Stage g seen = (y : ℕ) → place seen y ≡ min (g y) (length seen)

-- a and b exchanged
abbrev pub moved : ℕ → ℕ → ℕ → ℕ
moved a b x = cond (eqb x a) b (cond (eqb x b) a x)

moved-moved : (a b x : ℕ) → moved a b (moved a b x) ≡ x
moved-moved a b x = grind (arith, nat_tests)

pub moved-injective : (a b x y : ℕ) → moved a b x ≡ moved a b y → x ≡ y
moved-injective a b x y e = grind (arith, nat_tests)

stage_arith : (k gv gy : ℕ) (t : Bool) → k ≤ gv → (t ≡ true → gy ≡ gv) → (t ≡ false → gy ≡ gv → ⊥) → cond (eqb (min gy k) k) (k + cond t 0 1) (min gy k) ≡ min (moved gv k gy) (k + 1)
stage_arith k gv gy true h same other = let e = same refl in grind (arith, nat_tests)
stage_arith k gv gy false h same other = let e = other refl in grind (arith, nat_tests)

pub length_push : (xs : List ℕ) (v : ℕ) → length (xs ++ v ∷ []) ≡ length xs + 1
length_push xs v = length-append xs (v ∷ [])

pub Stage-push : (g : ℕ → ℕ) → IsInjective g → (seen : List ℕ) (v : ℕ) → Stage g seen → length seen ≤ g v → Stage (λ y. moved (g v) (length seen) (g y)) (seen ++ v ∷ [])
Stage-push g inj seen v stage above y =
    position_or_len_push (λ x. x == y) seen v
    ∙ ap (λ p. cond (eqb p (length seen)) (length seen + cond (v == y) 0 1) p) (stage y)
    ∙ stage_arith (length seen) (g v) (g y) (v == y) above (λ e. ap g (sym (eqb-true v y e))) (λ e h. eqb-false v y e (sym (inj y v h)))
    ∙ ap (λ n. min (moved (g v) (length seen) (g y)) n) (sym (length_push seen v))

-- a variable that was seen, and a new one
place_seen : (g : ℕ → ℕ) (seen : List ℕ) (v : ℕ) → Stage g seen → g v < length seen → place seen v ≡ g v
place_seen g seen v stage h = stage v ∙ grind arith

place_new : (g : ℕ → ℕ) (seen : List ℕ) (v : ℕ) → Stage g seen → length seen ≤ g v → place seen v ≡ length seen
place_new g seen v stage h = stage v ∙ grind arith

pub after_seen : (seen : List ℕ) (v : ℕ) → place seen v < length seen → seen_after seen v ≡ seen
after_seen seen v h = cond-false _ _ _ (ne_eqb (place seen v) (length seen) (λ e. omega arith))

pub after_new : (seen : List ℕ) (v : ℕ) → place seen v ≡ length seen → seen_after seen v ≡ seen ++ v ∷ []
after_new seen v h = cond-true _ _ _ (eq-eqb (place seen v) (length seen) h)

pub zero_min : (y : ℕ) → 0 ≡ min y 0
zero_min y = grind arith

-- the variable that is next in order is new and keeps its name
Stage-next : (seen : List ℕ) (v : ℕ) → Stage (λ x. x) seen → v ≡ length seen → Stage (λ x. x) (seen ++ v ∷ [])
Stage-next seen v stage h y =
    Stage-push (λ x. x) (λ a b e. e) seen v stage (omega arith) y ∙ ap (λ n. min n (length (seen ++ v ∷ []))) (moved_same v (length seen) y h)
  where
    moved_same : (a b y : ℕ) → a ≡ b → moved a b y ≡ y
    moved_same a b y e = grind (arith, nat_tests)

-- some injective renaming takes a word to its numbered form
pub record IsInverse (g h : ℕ → ℕ) : Type 0 where
  pub back : (y : ℕ) → h (g y) ≡ y
  pub to : (y : ℕ) → g (h y) ≡ y

pub record OccurrenceRenaming (g : ℕ → ℕ) (seen w : List ℕ) : Type 0 where
  pub to : ℕ → ℕ
  pub back : ℕ → ℕ
  pub inverse : IsInverse to back
  pub injective : IsInjective to
  pub extends : (y : ℕ) → g y < length seen → to y ≡ g y
  pub is : map to w ≡ by_occurrence_after seen w

pub occurrence_renaming : (w seen : List ℕ) (g h : ℕ → ℕ) → IsInverse g h → IsInjective g → Stage g seen → OccurrenceRenaming g seen w
occurrence_renaming [] seen g h inv inj stage = record { to = g; back = h; inverse = inv; injective = inj; extends = λ y h. refl; is = refl }
occurrence_renaming (v ∷ w) seen g h inv inj stage =
    by_cases (λ _. occurrence_renaming w seen g h inv inj stage) (λ k. occurrence_renaming w (seen ++ v ∷ []) g' h' inverse (λ x y e. inj x y (moved-injective (g v) (length seen) (g x) (g y) e)) (Stage-push g inj seen v stage k)) (cases_lt (g v) (length seen))
  where
    g' : ℕ → ℕ
    g' y = moved (g v) (length seen) (g y)

    h' : ℕ → ℕ
    h' y = h (moved (g v) (length seen) y)

    inverse : IsInverse g' h'
    inverse = record {
      back = λ y. ap h (moved-moved (g v) (length seen) (g y)) ∙ inv.back y;
      to = λ y. ap (moved (g v) (length seen)) (inv.to (moved (g v) (length seen) y)) ∙ moved-moved (g v) (length seen) y;
    }

    by_cases : ((g v < length seen) → OccurrenceRenaming g seen w) → (length seen ≤ g v → OccurrenceRenaming g' (seen ++ v ∷ []) w) → ((g v < length seen) ⊎ (length seen ≤ g v)) → OccurrenceRenaming g seen (v ∷ w)
    by_cases old new (inl k) =
        let n = old k in
        let at = place_seen g seen v stage k in
        let lt : place seen v < length seen = omega arith in
        let same = after_seen seen v lt in
        record {
          to = n.to;
          back = n.back;
          inverse = n.inverse;
          injective = n.injective;
          extends = n.extends;
          is = ap (λ x. x ∷ map n.to w) (n.extends v k ∙ sym at) ∙ ap (λ x. place seen v ∷ x) (n.is ∙ ap (λ s. by_occurrence_after s w) (sym same));
        }
    by_cases old new (inr k) =
        let n = new k in
        let at = place_new g seen v stage k in
        let same = after_new seen v at in
        let long = length_push seen v in
        let here : moved (g v) (length seen) (g v) ≡ length seen = grind (arith, nat_tests) in
        record {
          to = n.to;
          back = n.back;
          inverse = n.inverse;
          injective = n.injective;
          extends = λ y lt. let e : moved (g v) (length seen) (g y) ≡ g y = grind (arith, nat_tests) in n.extends y (omega arith) ∙ e;
          is = ap (λ x. x ∷ map n.to w) (n.extends v (omega arith) ∙ here ∙ sym at) ∙ ap (λ x. place seen v ∷ x) (n.is ∙ ap (λ s. by_occurrence_after s w) (sym same));
        }

-- the numbered form is not greater than the word
pub by_occurrence_after_least : (w seen : List ℕ) → Stage (λ x. x) seen → is_gt (slice_cmp nat_cmp (by_occurrence_after seen w) w) ≡ false
by_occurrence_after_least [] seen stage = refl
by_occurrence_after_least (v ∷ w) seen stage =
    by_cases (by_occurrence_after_least w seen stage) (λ s. by_occurrence_after_least w (seen ++ v ∷ []) s) (cases_order v (length seen))
  where
    same : (a b c : ℕ) (o : Ordering) → a ≡ b → ordering_then (nat_cmp a b) o ≡ o
    same a b c o e = ap (λ x. ordering_then x o) (nat_cmp-equal a b e)

    by_cases : is_gt (slice_cmp nat_cmp (by_occurrence_after seen w) w) ≡ false → (Stage (λ x. x) (seen ++ v ∷ []) → is_gt (slice_cmp nat_cmp (by_occurrence_after (seen ++ v ∷ []) w) w) ≡ false) → ((v ≡ length seen) ⊎ ((v < length seen) ⊎ (length seen < v))) → is_gt (slice_cmp nat_cmp (by_occurrence_after seen (v ∷ w)) (v ∷ w)) ≡ false
    by_cases old new (inl h) =
        let at = place_new (λ x. x) seen v stage (omega arith) in
        let st = Stage-next seen v stage h in
        ap is_gt (same (place seen v) v 0 _ (at ∙ sym h) ∙ ap (λ s. slice_cmp nat_cmp (by_occurrence_after s w) w) (after_new seen v at)) ∙ new st
    by_cases old new (inr (inl h)) =
        let at = place_seen (λ x. x) seen v stage h in
        let lt : place seen v < length seen = omega arith in
        ap is_gt (same (place seen v) v 0 _ at ∙ ap (λ s. slice_cmp nat_cmp (by_occurrence_after s w) w) (after_seen seen v lt)) ∙ old
    by_cases old new (inr (inr h)) =
        let at = place_new (λ x. x) seen v stage (omega arith) in
        ap (λ o. is_gt (ordering_then o (slice_cmp nat_cmp (by_occurrence_after (seen_after seen v) w) w))) (nat_cmp-less (place seen v) v (omega arith))

pub by_occurrence_least : (w : List ℕ) → is_gt (slice_cmp nat_cmp (by_occurrence w) w) ≡ false
by_occurrence_least w = by_occurrence_after_least w [] (λ y. zero_min y)

pub renaming_by_occurrence : (w : List ℕ) → OccurrenceRenaming (λ x. x) [] w
renaming_by_occurrence w = occurrence_renaming w [] (λ x. x) (λ x. x) (record { back = λ y. refl; to = λ y. refl }) (λ x y e. e) (λ y. zero_min y)

-- an injective renaming changes no numbered form
place-map : (f : ℕ → ℕ) → IsInjective f → (seen : List ℕ) (v : ℕ) → place (map f seen) (f v) ≡ place seen v
place-map f inj [] v = refl
place-map f inj (x ∷ seen) v = ap (λ b. cond (not b) (1 + place (map f seen) (f v)) 0) (same_test (f x) (f v) x v (λ e. inj x v e) (λ e. ap f e)) ∙ ap (λ n. cond (not (x == v)) (1 + n) 0) (place-map f inj seen v)
  where
    same_test : (a b c d : ℕ) → (a ≡ b → c ≡ d) → (c ≡ d → a ≡ b) → (a == b) ≡ (c == d)
    same_test a b c d h k = grind (arith, nat_tests)

seen_after-map : (f : ℕ → ℕ) → IsInjective f → (seen : List ℕ) (v : ℕ) → seen_after (map f seen) (f v) ≡ map f (seen_after seen v)
seen_after-map f inj seen v =
    ap (λ b. cond b (map f seen ++ f v ∷ []) (map f seen)) ((λ i. place-map f inj seen v i == length-map seen f i)) ∙ pushed (place seen v == length seen)
  where
    pushed : (b : Bool) → cond b (map f seen ++ f v ∷ []) (map f seen) ≡ map f (cond b (seen ++ v ∷ []) seen)
    pushed true = sym (map-append f seen (v ∷ []))
    pushed false = refl

pub by_occurrence_after-map : (f : ℕ → ℕ) → IsInjective f → (w seen : List ℕ) → by_occurrence_after (map f seen) (map f w) ≡ by_occurrence_after seen w
by_occurrence_after-map f inj [] seen = refl
by_occurrence_after-map f inj (v ∷ w) seen =
    (λ i. place-map f inj seen v i ∷ by_occurrence_after (seen_after-map f inj seen v i) (map f w)) ∙ ap (λ x. place seen v ∷ x) (by_occurrence_after-map f inj w (seen_after seen v))

pub by_occurrence-map : (f : ℕ → ℕ) → IsInjective f → (w : List ℕ) → by_occurrence (map f w) ≡ by_occurrence w
by_occurrence-map f inj w = by_occurrence_after-map f inj w []

pub by_occurrence-by_occurrence : (w : List ℕ) → by_occurrence (by_occurrence w) ≡ by_occurrence w
by_occurrence-by_occurrence w = let n = renaming_by_occurrence w in ap by_occurrence (sym n.is) ∙ by_occurrence-map n.to n.injective w

pub place_at_most : (seen : List ℕ) (v : ℕ) → (place seen v < length seen) ⊎ (place seen v ≡ length seen)
place_at_most [] v = inr refl
place_at_most (x ∷ seen) v = one (x == v) (place_at_most seen v)
  where
    one : (b : Bool) → ((place seen v < length seen) ⊎ (place seen v ≡ length seen)) → (cond (not b) (1 + place seen v) 0 < suc (length seen)) ⊎ (cond (not b) (1 + place seen v) 0 ≡ suc (length seen))
    one true h = inl (omega arith)
    one false (inl h) = inl (omega arith)
    one false (inr h) = inr (omega arith)

pub Grows-by_occurrence_after : (w seen : List ℕ) → Grows (length seen) (by_occurrence_after seen w)
Grows-by_occurrence_after [] seen = tt
Grows-by_occurrence_after (v ∷ w) seen = one (place_at_most seen v) (Grows-by_occurrence_after w (seen_after seen v))
  where
    one : ((place seen v < length seen) ⊎ (place seen v ≡ length seen)) → Grows (length (seen_after seen v)) (by_occurrence_after (seen_after seen v) w) → Grows (length seen) (by_occurrence_after seen (v ∷ w))
    one (inl h) g = inl (h, subst (λ n. Grows n (by_occurrence_after (seen_after seen v) w)) (ap length (after_seen seen v h)) g)
    one (inr h) g = inr (h, subst (λ n. Grows n (by_occurrence_after (seen_after seen v) w)) (ap length (after_new seen v h) ∙ length_push seen v) g)

pub by_occurrence_after-Grows : (w seen : List ℕ) → Stage (λ x. x) seen → Grows (length seen) w → by_occurrence_after seen w ≡ w
by_occurrence_after-Grows [] seen stage g = refl
by_occurrence_after-Grows (v ∷ w) seen stage (inl g) =
    let at = place_seen (λ x. x) seen v stage g.0 in
    let lt : place seen v < length seen = omega arith in
    (λ i. at i ∷ by_occurrence_after (after_seen seen v lt i) w) ∙ ap (λ x. v ∷ x) (by_occurrence_after-Grows w seen stage g.1)
by_occurrence_after-Grows (v ∷ w) seen stage (inr g) =
    let at = place_new (λ x. x) seen v stage (omega arith) in
    let h = subst (λ n. Grows n w) (sym (length_push seen v)) g.1 in
    (λ i. (at ∙ sym g.0) i ∷ by_occurrence_after (after_new seen v at i) w) ∙ ap (λ x. v ∷ x) (by_occurrence_after-Grows w (seen ++ v ∷ []) (Stage-next seen v stage g.0) h)
