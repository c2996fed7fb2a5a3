-- Terms that are kept under their Polish notation.
use Rattle.std.proofs.Common.{◌≡◌, ◌≢◌, ◌⊎◌, ℕ, suc, Bool, true, false, true≢false, cond, is_some, List, [], ◌∷◌, ◌++◌, length, get_or, Option, Some, None, refl, inl, inr, arith, sym, ap, ◌∙◌, subst, append_assoc, Contains}
use Rattle.std.specs.List.{AllPairs}
use Rattle.std.proofs.lemmas.List.{map-append}
use Rattle.std.proofs.lemmas.List.Elements.{Contains-append_cases, Contains-push_cases, Contains-append_right, Contains-append_left, Contains-get_or, Contains-push}
use Rattle.std.proofs.lemmas.List.Quantifiers.{all_pairs_push}
use Rattle.std.specs.Map.{lookup}
use Rattle.std.specs.Cmp.Lexicographic.{bytes_decides}
use Rattle.std.specs.Str.{bytes_eq}
use Rattle.std.specs.declared.vec.Vec.{Vec}
use Rattle.etp_theory.specs.Trees.{Tree, var, op}
use Rattle.etp_term.specs.Terms.{tree_of}
use Rattle.etp_term.specs.declared.term.Term.{Term}
use Rattle.etp_search.specs.Sets.{polish, terms_of, AreKept}

-- the Polish notation says all of a term

tail_eq : {x y : ℕ} {xs ys : List ℕ} → x ∷ xs ≡ y ∷ ys → (x ≡ y) × (xs ≡ ys)
tail_eq {x} {y} {xs} {ys} e = (ap (λ l. get_or l 0 0) e, ap rest e)
  where
    rest : List ℕ → List ℕ
    rest [] = []
    rest (z ∷ zs) = zs

pub polish_first : (s t : Tree) (xs ys : List ℕ) → polish s ++ xs ≡ polish t ++ ys → (s ≡ t) × (xs ≡ ys)
polish_first (var v) (var w) xs ys e = let r = tail_eq (tail_eq e).1 in (ap var r.0, r.1)
polish_first (var v) (op c d) xs ys e = let h = (tail_eq e).0 in absurd (omega (arith, h))
polish_first (op a b) (var w) xs ys e = let h = (tail_eq e).0 in absurd (omega (arith, h))
polish_first (op a b) (op c d) xs ys e =
    let l = polish_first a c (polish b ++ xs) (polish d ++ ys) (sym (append_assoc (polish a) (polish b) xs) ∙ (tail_eq e).1 ∙ append_assoc (polish c) (polish d) ys) in
    let r = polish_first b d xs ys l.1 in
    ((λ i. op (l.0 i) (r.0 i)), r.1)

pub nil : {X : Type 0} (xs : List X) → xs ≡ xs ++ []
nil [] = refl
nil (x ∷ xs) = ap (λ ys. x ∷ ys) (nil xs)

pub polish_one : (s t : Tree) → polish s ≡ polish t → s ≡ t
polish_one s t e = (polish_first s t [] [] (sym (nil (polish s)) ∙ e ∙ nil (polish t))).0

-- an element of a list with one more at the front

pub contains_front : {X : Type 0} (x : X) (xs : List X) → Contains (x ∷ xs) x
contains_front x xs = Contains-append_left (x ∷ []) xs x (Contains-push [] x)

pub contains_behind : {X : Type 0} (x y : X) (xs : List X) → Contains xs y → Contains (x ∷ xs) y
contains_behind x y xs h = Contains-append_right (x ∷ []) xs y h

pub contains_nothing : {X : Type 0} (y : X) → Contains [] y → ⊥
contains_nothing y h = let lt = h.1 in omega (arith, lt)

pub contains_cases : {X : Type 0} (x y : X) (xs : List X) → Contains (x ∷ xs) y → (x ≡ y) ⊎ Contains xs y
contains_cases x y xs h = go (Contains-append_cases (x ∷ []) xs y h)
  where
    one : Contains [] y ⊎ (x ≡ y) → (x ≡ y) ⊎ Contains xs y
    one (inl k) = absurd (contains_nothing y k)
    one (inr e) = inl e

    go : Contains (x ∷ []) y ⊎ Contains xs y → (x ≡ y) ⊎ Contains xs y
    go (inl k) = one (Contains-push_cases [] x y k)
    go (inr k) = inr k

-- what the map finds of a term

module _ {A : Type 0} (t : Tree) where
  first_kept : (e : Vec ℕ A × Term) (es : List (Vec ℕ A × Term)) → AreKept (e ∷ es) → e.0.items ≡ polish (tree_of e.1)
  first_kept e es h = h 0 e (omega arith)

  rest_kept : (e : Vec ℕ A × Term) (es : List (Vec ℕ A × Term)) → AreKept (e ∷ es) → AreKept es
  rest_kept e es h k d lt = h (suc k) d (omega (arith, lt))

  abbrev test_first : Bool → Vec ℕ A × Term → List (Vec ℕ A × Term) → Bool
  test_first b e es = is_some (cond b (Some e.1) (lookup (λ k. bytes_eq (polish t) k.items) es))

  pub found : (es : List (Vec ℕ A × Term)) → AreKept es → is_some (lookup (λ k. bytes_eq (polish t) k.items) es) ≡ true → Contains (terms_of es) t
  found [] kept h = absurd (true≢false (sym h))
  found (e ∷ es) kept h = by (bytes_eq (polish t) e.0.items) refl (λ k. found es (rest_kept e es kept) k)
    where
      by : (b : Bool) → bytes_eq (polish t) e.0.items ≡ b → (is_some (lookup (λ k. bytes_eq (polish t) k.items) es) ≡ true → Contains (terms_of es) t) → Contains (terms_of (e ∷ es)) t
      by true q later =
          let same : t ≡ tree_of e.1 = polish_one t (tree_of e.1) ((bytes_decides (polish t) e.0.items).0 q ∙ first_kept e es kept) in
          subst (λ u. Contains (terms_of (e ∷ es)) u) (sym same) (contains_front (tree_of e.1) (terms_of es))
      by false q later = contains_behind (tree_of e.1) t (terms_of es) (later (ap (λ b. test_first b e es) (sym q) ∙ h))

  pub unfound : (es : List (Vec ℕ A × Term)) → AreKept es → is_some (lookup (λ k. bytes_eq (polish t) k.items) es) ≡ false → Contains (terms_of es) t → ⊥
  unfound [] kept h there = contains_nothing t there
  unfound (e ∷ es) kept h there = by (bytes_eq (polish t) e.0.items) refl (contains_cases (tree_of e.1) t (terms_of es) there) (λ k. unfound es (rest_kept e es kept) k)
    where
      by : (b : Bool) → bytes_eq (polish t) e.0.items ≡ b → (tree_of e.1 ≡ t) ⊎ Contains (terms_of es) t → (is_some (lookup (λ k. bytes_eq (polish t) k.items) es) ≡ false → Contains (terms_of es) t → ⊥) → ⊥
      by true q k later = true≢false (sym (ap (λ b. test_first b e es) q) ∙ h)
      by false q (inl same) later = true≢false (sym ((bytes_decides (polish t) e.0.items).1 (ap polish (sym same) ∙ sym (first_kept e es kept))) ∙ q)
      by false q (inr k) later = later (ap (λ b. test_first b e es) (sym q) ∙ h) k

-- one more entry

pub none_of : {X : Type 0} (o : Option X) → is_some o ≡ false → o ≡ None
none_of None h = refl
none_of (Some x) h = absurd (true≢false h)

pub terms_more : {A : Type 0} (es : List (Vec ℕ A × Term)) (e : Vec ℕ A × Term) → terms_of (es ++ e ∷ []) ≡ terms_of es ++ tree_of e.1 ∷ []
terms_more es e = map-append (λ entry. tree_of entry.1) es (e ∷ [])

pub different_more : (ts : List Tree) (t : Tree) → AllPairs (λ s u. s ≢ u) ts → (Contains ts t → ⊥) → AllPairs (λ s u. s ≢ u) (ts ++ t ∷ [])
different_more ts t all new = all_pairs_push (λ s u. s ≢ u) ts t all (λ k d lt e. new (subst (Contains ts) e (Contains-get_or ts k d lt)))

pub terms_long : {A : Type 0} (es : List (Vec ℕ A × Term)) → length (terms_of es) ≡ length es
terms_long [] = refl
terms_long (e ∷ es) = ap suc (terms_long es)
