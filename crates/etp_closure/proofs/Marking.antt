-- Marks for the laws of a list.
use Rattle.std.proofs.Common.{◌≡◌, ◌≢◌, ℕ, zero, suc, ◌+◌, ◌<◌, Bool, true, false, ◌&&◌, ◌||◌, nat_eq, List, [], ◌∷◌, length, get_or, take, Option, Some, None, refl, sym, ap, ◌∙◌, ◌⊎◌, inl, inr, arith}
use Rattle.std.specs.List.{list_any}
use Rattle.std.proofs.lemmas.Bool.{or_cases, or_left, or_right, eq-eqb, ne_eqb}
use Rattle.std.proofs.Math.Bool.{or-false}
use Rattle.std.proofs.lemmas.Option.{same_Some}
use Rattle.etp_closure.specs.Tables.{IsClosed, MarksUncovered, MarksLaw, was_marked, was_reached, is_found, is_added, reached_from}

-- one law more of the list
pub any_more : (p : ℕ → Bool) (xs : List ℕ) (n : ℕ) → n < length xs → list_any p (take (n + 1) xs) ≡ (list_any p (take n xs) || p (get_or xs n 0))
any_more p [] n h = absurd (omega arith)
any_more p (x ∷ xs) zero h = or-false (p x)
any_more p (x ∷ xs) (suc n) h =
    let whole : suc n + 1 ≡ suc (n + 1) = omega arith in
    rw whole (ap (λ b. p x || b) (any_more p xs n (omega arith)) ∙ both (p x) _ _)
  where
    both : (a b c : Bool) → (a || (b || c)) ≡ ((a || b) || c)
    both true b c = refl
    both false b c = refl

-- a row of a law of the list has the column of a further row, and so all its columns
pub any_onward : (r : ℕ → ℕ → Bool) (row : ℕ → ℕ) (xs : List ℕ) (s c : ℕ) → ((x y z : ℕ) → r x y ≡ true → r y z ≡ true → r x z ≡ true)
    → list_any (λ law. r (row law) s) xs ≡ true → r s c ≡ true → list_any (λ law. r (row law) c) xs ≡ true
any_onward r row [] s c onward h k = (cc (h))
any_onward r row (x ∷ xs) s c onward h k =
    elim (or_cases (r (row x) s) (list_any (λ law. r (row law) s) xs) h) [
      | inl here ↦ or_left (r (row x) c) _ (onward (row x) s c here k)
      | inr later ↦ or_right (r (row x) c) _ (any_onward r row xs s c onward later k)
    ]

-- and backwards, by the columns
pub any_back : (r : ℕ → ℕ → Bool) (row : ℕ → ℕ) (xs : List ℕ) (s c : ℕ) → ((x y z : ℕ) → r x y ≡ true → r y z ≡ true → r x z ≡ true)
    → list_any (λ law. r s (row law)) xs ≡ true → r c s ≡ true → list_any (λ law. r c (row law)) xs ≡ true
any_back r row [] s c onward h k = (cc (h))
any_back r row (x ∷ xs) s c onward h k =
    elim (or_cases (r s (row x)) (list_any (λ law. r s (row law)) xs) h) [
      | inl here ↦ or_left (r c (row x)) _ (onward c s (row x) k here)
      | inr later ↦ or_right (r c (row x)) _ (any_back r row xs s c onward later k)
    ]

-- what each law that passes has, if some law passes
pub any_inside : (p : ℕ → Bool) (P : Type 0) (xs : List ℕ) → ((law : ℕ) → p law ≡ true → P) → list_any p xs ≡ true → P
any_inside p P [] gives h = absurd (cc (h))
any_inside p P (x ∷ xs) gives h =
    elim (or_cases (p x) (list_any p xs) h) [ inl here ↦ gives x here | inr later ↦ any_inside p P xs gives later ]

absorbed : (p q : Bool) → (q ≡ true → p ≡ true) → p ≡ (p || q)
absorbed true q h = refl
absorbed false true h = h refl
absorbed false false h = refl

-- a law that is marked already adds nothing
pub joined_marked : (r : ℕ → ℕ → Bool) (row : ℕ → ℕ) (xs : List ℕ) (n s : ℕ) (marks : ℕ → Bool) → ((x y z : ℕ) → r x y ≡ true → r y z ≡ true → r x z ≡ true)
    → n < length xs → row (get_or xs n 0) ≡ s
    → ((c : ℕ) → marks c ≡ list_any (λ law. r (row law) c) (take n xs)) → marks s ≡ true
    → (c : ℕ) → marks c ≡ list_any (λ law. r (row law) c) (take (n + 1) xs)
joined_marked r row xs n s marks onward h at before on c =
    before c
    ∙ absorbed (list_any (λ law. r (row law) c) (take n xs)) (r (row (get_or xs n 0)) c)
    (λ k. any_onward r row (take n xs) s c onward (sym (before s) ∙ on) (ap (λ m. r m c) (sym at) ∙ k))
    ∙ sym (any_more (λ law. r (row law) c) xs n h)

-- a law that isn't marked adds its row
pub joined_more : (r : ℕ → ℕ → Bool) (row : ℕ → ℕ) (xs : List ℕ) (n s : ℕ) (marks new : ℕ → Bool)
    → n < length xs → row (get_or xs n 0) ≡ s
    → ((c : ℕ) → marks c ≡ list_any (λ law. r (row law) c) (take n xs)) → ((c : ℕ) → new c ≡ (marks c || r s c))
    → (c : ℕ) → new c ≡ list_any (λ law. r (row law) c) (take (n + 1) xs)
joined_more r row xs n s marks new h at before joined c =
    joined c ∙ ap (λ b. b || r s c) (before c) ∙ ap (λ m. list_any (λ law. r (row law) c) (take n xs) || r m c) (sym at)
    ∙ sym (any_more (λ law. r (row law) c) xs n h)

-- the marks of the first laws of a list
abbrev pub Uncovered : (ℕ → Bool) → (ℕ → Bool) → (ℕ → ℕ → Bool) → (ℕ → ℕ → Bool) → (ℕ → ℕ) → List ℕ → Type 0
Uncovered marks line c r row xs = MarksUncovered marks line c (λ k. list_any (λ law. r (row law) k) xs)

pub uncovered_none : (marks line : ℕ → Bool) (c r : ℕ → ℕ → Bool) (row : ℕ → ℕ) → ((k : ℕ) → marks k ≡ false) → Uncovered marks line c r row []
uncovered_none marks line c r row off = record {
  sound = λ k on. (cc (off k, on));
  complete = λ k on. (cc (on));
}

-- one law more that is marked, or covered
pub uncovered_same : (marks line : ℕ → Bool) (c r : ℕ → ℕ → Bool) (row : ℕ → ℕ) (xs : List ℕ) (n s : ℕ) → n < length xs → row (get_or xs n 0) ≡ s
    → ((k : ℕ) → r s k ≡ true → (marks k ≡ true) ⊎ ((other : ℕ) → line other ≡ true → c k other ≡ true))
    → Uncovered marks line c r row (take n xs) → Uncovered marks line c r row (take (n + 1) xs)
uncovered_same marks line c r row xs n s h at law before = record {
  sound = λ k on. any_more (λ l. r (row l) k) xs n h ∙ or_left (list_any (λ l. r (row l) k) (take n xs)) _ (before.sound k on);
  complete = λ k on.
      elim (or_cases (list_any (λ l. r (row l) k) (take n xs)) (r (row (get_or xs n 0)) k) (sym (any_more (λ l. r (row l) k) xs n h) ∙ on)) [
        | inl old ↦ before.complete k old
        | inr new ↦ law k (ap (λ m. r m k) (sym at) ∙ new)
      ];
}

uncovered_marked : (marks line : ℕ → Bool) (c r : ℕ → ℕ → Bool) (row : ℕ → ℕ) (xs : List ℕ) (n s : ℕ) → n < length xs → row (get_or xs n 0) ≡ s
    → IsClosed r c → marks s ≡ true
    → Uncovered marks line c r row (take n xs) → Uncovered marks line c r row (take (n + 1) xs)
uncovered_marked marks line c r row xs n s h at closed on before =
    uncovered_same marks line c r row xs n s h at
    (λ k step. before.complete k (any_onward r row (take n xs) s k closed.onward (before.sound s on) step)) before

pub uncovered_covered : (marks line : ℕ → Bool) (c r : ℕ → ℕ → Bool) (row : ℕ → ℕ) (xs : List ℕ) (n s : ℕ) → n < length xs → row (get_or xs n 0) ≡ s
    → IsClosed r c → ((k : ℕ) → line k ≡ true → c s k ≡ true)
    → Uncovered marks line c r row (take n xs) → Uncovered marks line c r row (take (n + 1) xs)
uncovered_covered marks line c r row xs n s h at closed all before =
    uncovered_same marks line c r row xs n s h at
    (λ k step. inr (λ other on. closed.moves_on s other k (all other on) step)) before

pub uncovered_more : (marks new line : ℕ → Bool) (c r : ℕ → ℕ → Bool) (row : ℕ → ℕ) (xs : List ℕ) (n s : ℕ) → n < length xs → row (get_or xs n 0) ≡ s
    → ((k : ℕ) → new k ≡ (marks k || r s k))
    → Uncovered marks line c r row (take n xs) → Uncovered new line c r row (take (n + 1) xs)
uncovered_more marks new line c r row xs n s h at joined before = record {
  sound = λ k on.
      any_more (λ l. r (row l) k) xs n h
      ∙ elim (or_cases (marks k) (r s k) (sym (joined k) ∙ on)) [
        | inl old ↦ or_left (list_any (λ l. r (row l) k) (take n xs)) _ (before.sound k old)
        | inr added ↦ or_right (list_any (λ l. r (row l) k) (take n xs)) _ (ap (λ m. r m k) at ∙ added)
      ];
  complete = λ k on.
      elim (or_cases (list_any (λ l. r (row l) k) (take n xs)) (r (row (get_or xs n 0)) k) (sym (any_more (λ l. r (row l) k) xs n h) ∙ on)) [
        | inr added ↦ inl (joined k ∙ or_right (marks k) (r s k) (ap (λ m. r m k) (sym at) ∙ added))
        | inl old ↦
            elim (before.complete k old) [
              | inl there ↦ inl (joined k ∙ or_left (marks k) (r s k) there)
              | inr covered ↦ inr covered
            ]
      ];
}

-- the law that was found to be covered is so
abbrev pub FoundCovered : (ℕ → Bool) → (ℕ → ℕ → Bool) → Option ℕ → Type 0
FoundCovered line c last = (s : ℕ) → last ≡ Some s → (k : ℕ) → line k ≡ true → c s k ≡ true

pub found_none : (line : ℕ → Bool) (c : ℕ → ℕ → Bool) → FoundCovered line c None
found_none line c s at = (cc (at))

pub found_more : (marks new line : ℕ → Bool) (r c : ℕ → ℕ → Bool) (s : ℕ) (last next : Option ℕ) → MarksLaw marks new line r c s last next
    → FoundCovered line c last → FoundCovered line c next
found_more marks new line r c s last next (was_marked on same stays) known = λ t at. known t (sym stays ∙ at)
found_more marks new line r c s last next (was_reached on same stays) known = λ t at. known t (sym stays ∙ at)
found_more marks new line r c s last next (is_found all same (inr stays)) known = λ t at. known t (sym stays ∙ at)
found_more marks new line r c s last next (is_found all same (inl is)) known =
    λ t at k on. (let equal : s ≡ t = same_Some s t (sym is ∙ at) in ap (λ n. c n k) (sym equal) ∙ all k on)
found_more marks new line r c s last next (is_added joined stays) known = λ t at. known t (sym stays ∙ at)

same_marks : (marks new line : ℕ → Bool) (c : ℕ → ℕ → Bool) (named : ℕ → Bool) → ((k : ℕ) → new k ≡ marks k)
    → MarksUncovered marks line c named → MarksUncovered new line c named
same_marks marks new line c named same before = record {
  sound = λ k on. before.sound k (sym (same k) ∙ on);
  complete = λ k on. elim (before.complete k on) [ inl there ↦ inl (same k ∙ there) | inr covered ↦ inr covered ];
}

from_found : (line : ℕ → Bool) (r c : ℕ → ℕ → Bool) (s : ℕ) (last : Option ℕ) → IsClosed r c → reached_from r last s ≡ true
    → FoundCovered line c last → (k : ℕ) → line k ≡ true → c s k ≡ true
from_found line r c s None closed on known = (cc (on))
from_found line r c s (Some t) closed on known = λ k marked. closed.moves_on t k s (known t refl k marked) on

-- one law more
pub uncovered_law : (marks new line : ℕ → Bool) (c r : ℕ → ℕ → Bool) (row : ℕ → ℕ) (xs : List ℕ) (n s : ℕ) (last next : Option ℕ)
    → n < length xs → row (get_or xs n 0) ≡ s → IsClosed r c → FoundCovered line c last → MarksLaw marks new line r c s last next
    → Uncovered marks line c r row (take n xs) → Uncovered new line c r row (take (n + 1) xs)
uncovered_law marks new line c r row xs n s last next h at closed known (was_marked on same stays) before =
    same_marks marks new line c _ same (uncovered_marked marks line c r row xs n s h at closed on before)
uncovered_law marks new line c r row xs n s last next h at closed known (was_reached on same stays) before =
    same_marks marks new line c _ same (uncovered_covered marks line c r row xs n s h at closed (from_found line r c s last closed on known) before)
uncovered_law marks new line c r row xs n s last next h at closed known (is_found all same is) before =
    same_marks marks new line c _ same (uncovered_covered marks line c r row xs n s h at closed all before)
uncovered_law marks new line c r row xs n s last next h at closed known (is_added joined stays) before =
    uncovered_more marks new line c r row xs n s h at joined before

pub law_by_line : (marks new line other : ℕ → Bool) (r c : ℕ → ℕ → Bool) (s : ℕ) (last next : Option ℕ) → ((k : ℕ) → line k ≡ other k)
    → MarksLaw marks new line r c s last next → MarksLaw marks new other r c s last next
law_by_line marks new line other r c s last next same (was_marked on stays is) = was_marked on stays is
law_by_line marks new line other r c s last next same (was_reached on stays is) = was_reached on stays is
law_by_line marks new line other r c s last next same (is_found all stays is) = is_found (λ k on. all k (same k ∙ on)) stays is
law_by_line marks new line other r c s last next same (is_added joined is) = is_added joined is

-- a row joined to one row of marks, as that row and the others see it
pub row_into : (old new : ℕ → ℕ → Bool) (into : ℕ) (line : ℕ → Bool) → ((r c : ℕ) → new r c ≡ (old r c || (nat_eq r into && line c)))
    → (c : ℕ) → new into c ≡ (old into c || line c)
row_into old new into line joined c = joined into c ∙ rw (eq-eqb into into refl) refl

pub row_beside : (old new : ℕ → ℕ → Bool) (into : ℕ) (line : ℕ → Bool) → ((r c : ℕ) → new r c ≡ (old r c || (nat_eq r into && line c)))
    → (r c : ℕ) → r ≢ into → new r c ≡ old r c
row_beside old new into line joined r c other = joined r c ∙ rw (ne_eqb r into other) (or-false (old r c))
