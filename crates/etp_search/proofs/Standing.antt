-- Where terms stand in a list, and how many different ones there are.
use Rattle.std.proofs.Common.{◌≡◌, ◌≢◌, ◌<◌, ◌≤◌, ◌+◌, ◌⊎◌, ℕ, zero, suc, List, [], ◌∷◌, ◌++◌, Some, None, length, length-append, get_or, refl, inl, inr, arith, sym, ap, ◌∙◌, subst, Contains}
use Rattle.std.specs.List.{slice_get, AllPairs, All}
use Rattle.std.proofs.lemmas.Bool.{cases_eq}
use Rattle.std.proofs.lemmas.Option.{slice_get-get_or, slice_get_within, get_or_from_slice_get, same_Some}
use Rattle.std.proofs.lemmas.List.Elements.{Contains-append_cases, Contains-append_left, Contains-append_right, Contains-get_or}
use Rattle.etp_theory.specs.Trees.{Tree}
use Rattle.etp_search.specs.Levels.{StandsIn, IsGrown}
use Rattle.etp_search.proofs.Kept.{contains_nothing, contains_cases, contains_front, contains_behind}

pub get_front : {X : Type 0} (xs ys : List X) (i : ℕ) → i < length xs → slice_get (xs ++ ys) i ≡ slice_get xs i
get_front [] ys i h = absurd (omega (arith, h))
get_front (x ∷ xs) ys zero h = refl
get_front (x ∷ xs) ys (suc i) h = get_front xs ys i (omega (arith, h))

pub stands_contains : (xs : List Tree) (start stop : ℕ) (t : Tree) → StandsIn xs start stop t → Contains xs t
stands_contains xs start stop t h = (h.place, slice_get_within xs h.place t h.stands, get_or_from_slice_get xs h.place t t h.stands)

pub contains_stands : (xs : List Tree) (t : Tree) → Contains xs t → StandsIn xs 0 (length xs) t
contains_stands xs t h = record { place = h.0; from = omega arith; before = h.1; stands = slice_get-get_or xs h.0 t h.1 ∙ ap Some h.2 }

pub stands_wider : (xs : List Tree) (a b c d : ℕ) (t : Tree) → c ≤ a → b ≤ d → StandsIn xs a b t → StandsIn xs c d t
stands_wider xs a b c d t low high h =
    record { place = h.place; from = (let k = h.from in omega (arith, k, low)); before = (let k = h.before in omega (arith, k, high)); stands = h.stands }

-- in a list that has grown
pub stands_on : (old new : List Tree) (start stop : ℕ) (t : Tree) → IsGrown old new → StandsIn old start stop t → StandsIn new start stop t
stands_on old new start stop t grown h = record {
  place = h.place;
  from = h.from;
  before = h.before;
  stands = ap (λ (ts : List Tree). slice_get ts h.place) grown.1 ∙ get_front old grown.0 h.place (slice_get_within old h.place t h.stands) ∙ h.stands;
}

pub stands_back : (old new : List Tree) (start stop : ℕ) (t : Tree) → IsGrown old new → stop ≤ length old → StandsIn new start stop t → StandsIn old start stop t
stands_back old new start stop t grown within h = record {
  place = h.place;
  from = h.from;
  before = h.before;
  stands = sym (get_front old grown.0 h.place (let k = h.before in omega (arith, k, within))) ∙ ap (λ (ts : List Tree). slice_get ts h.place) (sym grown.1) ∙ h.stands;
}

pub get_back : (old new : List Tree) (at : ℕ) (t : Tree) → IsGrown old new → at < length old → slice_get new at ≡ Some t → slice_get old at ≡ Some t
get_back old new at t grown within h = sym (get_front old grown.0 at within) ∙ ap (λ (ts : List Tree). slice_get ts at) (sym grown.1) ∙ h

pub not_past : (xs : List Tree) (at : ℕ) → at < length xs → slice_get xs at ≡ None → ⊥
not_past [] at h e = omega (arith, h)
not_past (x ∷ xs) zero h e = let k : Some x ≡ None = e in cc
not_past (x ∷ xs) (suc at) h e = not_past xs at (omega (arith, h)) e

pub grown_twice : (a b c : List Tree) → IsGrown a b → IsGrown b c → IsGrown a c
grown_twice a b c g h = (g.0 ++ h.0, h.1 ∙ ap (λ (ts : List Tree). ts ++ h.0) g.1 ∙ together a g.0 h.0)
  where
    together : (xs ys zs : List Tree) → (xs ++ ys) ++ zs ≡ xs ++ (ys ++ zs)
    together [] ys zs = refl
    together (x ∷ xs) ys zs = ap (λ (ts : List Tree). x ∷ ts) (together xs ys zs)

pub grown_longer : (a b : List Tree) → IsGrown a b → length a ≤ length b
grown_longer a b g = let e = ap length g.1 ∙ length-append a g.0 in omega (arith, e)

-- one place more
pub stands_more : (xs : List Tree) (start stop : ℕ) (t u : Tree) → slice_get xs stop ≡ Some t → StandsIn xs start (stop + 1) u → StandsIn xs start stop u ⊎ (t ≡ u)
stands_more xs start stop t u here h = go (cases_eq h.place stop)
  where
    go : (h.place ≡ stop) ⊎ (h.place ≢ stop) → StandsIn xs start stop u ⊎ (t ≡ u)
    go (inl e) = inr (same_Some _ _ (sym here ∙ ap (slice_get xs) (sym e) ∙ h.stands))
    go (inr e) = inl (record { place = h.place; from = h.from; before = (let k = h.before in omega (arith, k, e)); stands = h.stands })

pub stands_at : (xs : List Tree) (start stop : ℕ) (t : Tree) → start ≤ stop → slice_get xs stop ≡ Some t → StandsIn xs start (stop + 1) t
stands_at xs start stop t order here = record { place = stop; from = order; before = omega arith; stands = here }

-- different terms that all stand in a list are no more than its length

record Split (ys : List Tree) (x : Tree) : Type 0 where
  before : List Tree
  after : List Tree
  whole : ys ≡ before ++ x ∷ after

split : (ys : List Tree) (x : Tree) → Contains ys x → Split ys x
split [] x h = absurd (contains_nothing x h)
split (y ∷ ys) x h = go (contains_cases y x ys h) (split ys x)
  where
    go : (y ≡ x) ⊎ Contains ys x → (Contains ys x → Split ys x) → Split (y ∷ ys) x
    go (inl e) later = record { before = []; after = ys; whole = ap (λ z. z ∷ ys) e }
    go (inr k) later = let s = later k in record { before = y ∷ s.before; after = s.after; whole = ap (λ (zs : List Tree). y ∷ zs) s.whole }

without : (ys : List Tree) (x : Tree) (s : Split ys x) (t : Tree) → x ≢ t → Contains ys t → Contains (s.before ++ s.after) t
without ys x s t apart h = go (Contains-append_cases s.before (x ∷ s.after) t (subst (λ (zs : List Tree). Contains zs t) s.whole h))
  where
    behind : (x ≡ t) ⊎ Contains s.after t → Contains (s.before ++ s.after) t
    behind (inl e) = absurd (apart e)
    behind (inr k) = Contains-append_right s.before s.after t k

    go : Contains s.before t ⊎ Contains (x ∷ s.after) t → Contains (s.before ++ s.after) t
    go (inl k) = Contains-append_left s.before s.after t k
    go (inr k) = behind (contains_cases x t s.after k)

first_apart : (x : Tree) (xs : List Tree) → AllPairs (λ s t. s ≢ t) (x ∷ xs) → (t : Tree) → Contains xs t → x ≢ t
first_apart x xs h t k = λ e. h 0 (suc k.0) t (omega arith) (let l = k.1 in omega (arith, l)) (e ∙ sym k.2)

rest_apart : (x : Tree) (xs : List Tree) → AllPairs (λ s t. s ≢ t) (x ∷ xs) → AllPairs (λ s t. s ≢ t) xs
rest_apart x xs h i j d less long = h (suc i) (suc j) d (omega (arith, less)) (omega (arith, long))

pub no_more : (xs ys : List Tree) → AllPairs (λ s t. s ≢ t) xs → ((t : Tree) → Contains xs t → Contains ys t) → length xs ≤ length ys
no_more [] ys apart h = omega arith
no_more (x ∷ xs) ys apart h =
    let s = split ys x (h x (contains_front x xs)) in
    let fewer = no_more xs (s.before ++ s.after) (rest_apart x xs apart) (λ t k. without ys x s t (first_apart x xs apart t k) (h t (contains_behind x t xs k))) in
    let shorter = length-append s.before s.after in
    let longer = ap length s.whole ∙ length-append s.before (x ∷ s.after) in
    omega (arith, fewer, shorter, longer)

pub all_contained : (P : Tree → Type 0) (xs : List Tree) → ((t : Tree) → Contains xs t → P t) → All P xs
all_contained P xs h k d lt = h (get_or xs k d) (Contains-get_or xs k d lt)

pub contained_all : (P : Tree → Type 0) (xs : List Tree) → All P xs → (t : Tree) → Contains xs t → P t
contained_all P xs h t k = subst P k.2 (h k.0 t k.1)
