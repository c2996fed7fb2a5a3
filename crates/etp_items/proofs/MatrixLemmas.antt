-- A matrix-linear magma with one line more.
use Rattle.std.proofs.Common.{◌≡◌, ℕ, ◌+◌, ◌<◌, ◌≤◌, ◌⊎◌, inl, inr, arith, Bool, true, false, List, [], ◌∷◌, ◌++◌, length, map, nat_eq, nat_le, nat_lt, refl, sym, ap, ◌∙◌, Some, IfOk, Result, Ok, Err, append-nil, length-append, eqb-true}
use Rattle.std.specs.Option.{option_map}
use Rattle.std.specs.List.{concat}
use Rattle.std.proofs.lemmas.Bool.{le-leb, lt-ltb, eq-eqb, leb-true, ltb-true, cases_lt}
use Rattle.std.proofs.lemmas.List.Folds.{concat-append}
use Rattle.etp_matrix.specs.declared.parts.Part.{Part}
use Rattle.etp_matrix.specs.declared.parts.Part.TheVariants.{A, B, C}
use Rattle.etp_lines.specs.MatrixLines.{MatrixLine, matrix, row, awaits, after_in_matrix, has_all, rows_of, SaysRows}
use Rattle.etp_lines.specs.BodyLines as Lines
use Rattle.etp_lines.specs.BodyLines.{Line, of_proofs, of_tables, of_linear, of_matrices, of_rules, of_claims, Head, opened_head, next_head, matrix_line}
use Rattle.etp_items.specs.Work.{HasMatrixRows, matrix_place, matrix_said, matrix_told, with_entries, OpensMatrix, TakesMatrixRow, TakesInMatrix, OpensHead, TakesInHead}
use Rattle.etp_items.specs.declared.matrix.work.MatrixWork.{MatrixWork}
use Rattle.etp_items.specs.declared.magma.MagmaWork.TheVariants.{Matrix}
use Rattle.etp_items.proofs.ReadBack.{both}

map_end : {A B : Type 0} (f : A → B) (xs : List A) (x : A) → map f (xs ++ x ∷ []) ≡ map f xs ++ f x ∷ []
map_end f [] x = refl
map_end f (y ∷ ys) x = ap (λ zs. f y ∷ zs) (map_end f ys x)

concat_end : (xss : List (List ℕ)) (xs : List ℕ) → concat (xss ++ xs ∷ []) ≡ concat xss ++ xs
concat_end xss xs = concat-append xss (xs ∷ []) ∙ ap (λ z. concat xss ++ z) (append-nil xs)

-- a row more of one part, behind those before it
ends : (p : Part) (rs : List (List ℕ)) (e : List ℕ) → map (row p) (rs ++ e ∷ []) ++ [] ≡ (map (row p) rs ++ []) ++ row p e ∷ []
ends p [] e = refl
ends p (r ∷ rs) e = ap (λ z. row p r ∷ z) (ends p rs e)

more_a : (a : List (List ℕ)) (e : List ℕ) → rows_of (a ++ e ∷ []) [] [] ≡ rows_of a [] [] ++ row A e ∷ []
more_a a e = ends A a e

more_b : (a b : List (List ℕ)) (e : List ℕ) → rows_of a (b ++ e ∷ []) [] ≡ rows_of a b [] ++ row B e ∷ []
more_b [] b e = ends B b e
more_b (x ∷ a) b e = ap (λ z. row A x ∷ z) (more_b a b e)

more_c : (a b : List (List ℕ)) (e : List ℕ) → rows_of a b (e ∷ []) ≡ rows_of a b [] ++ row C e ∷ []
more_c [] [] e = refl
more_c [] (y ∷ b) e = ap (λ z. row B y ∷ z) (more_c [] b e)
more_c (x ∷ a) b e = ap (λ z. row A x ∷ z) (more_c a b e)

empty_of : (xs : List (List ℕ)) → length xs ≡ 0 → xs ≡ []
empty_of [] e = refl
empty_of (x ∷ xs) e = absurd (omega (arith, e))

one_of : (xs : List (List ℕ)) → length xs ≡ 1 → xs ≡ concat xs ∷ []
one_of [] e = absurd (omega (arith, e))
one_of (x ∷ []) e = ap (λ z. z ∷ []) (sym (append-nil x))
one_of (x ∷ y ∷ xs) e = absurd (omega (arith, e))

-- so many rows of each part stand
module _ (w : MatrixWork) (a b c : List (List ℕ)) (h : HasMatrixRows w a b c) where
  -- where fewer rows of A than the size stand, no others do
  only_a : length a < w.size → (b ≡ []) × (c ≡ []) × (w.rows ≡ length a)
  only_a few =
      let nb : b ≡ [] = h.a_first few in
      let zero_b : length b ≡ 0 = ap length nb in
      let nc : c ≡ [] = h.b_before_c (omega (arith, zero_b, h.some)) in
      let zero_c : length c ≡ 0 = ap length nc in
      (nb, nc, omega (arith, h.count_is, zero_b, zero_c))

  only_b : length b < w.size → (c ≡ []) × (w.rows ≡ length a + length b)
  only_b few =
      let nc : c ≡ [] = h.b_before_c few in
      let zero_c : length c ≡ 0 = ap length nc in
      (nc, omega (arith, h.count_is, zero_c))

  all_a : w.size ≤ w.rows → length a ≡ w.size
  all_a past = by (cases_lt (length a) w.size)
    where
      by : (length a < w.size) ⊎ (w.size ≤ length a) → length a ≡ w.size
      by (inl few) = let e = (only_a few).2 in absurd (omega (arith, past, few, e))
      by (inr all) = omega (arith, all, h.few_a)

  all_b : w.size + w.size ≤ w.rows → length b ≡ w.size
  all_b past = by (cases_lt (length b) w.size)
    where
      by : (length b < w.size) ⊎ (w.size ≤ length b) → length b ≡ w.size
      by (inl few) = let e = (only_b few).1 in absurd (omega (arith, past, few, e, h.few_a))
      by (inr all) = omega (arith, all, h.few_b)

  -- where all rows stand, c is one
  one_c : w.rows ≡ w.size + w.size + 1 → c ≡ w.c ∷ []
  one_c all =
      let la = all_a (omega (arith, all)) in
      let lb = all_b (omega (arith, all)) in
      let lc : length c ≡ 1 = omega (arith, h.count_is, la, lb, all) in
      one_of c lc ∙ ap (λ z. z ∷ []) (sym h.c_is)

-- what one more row leaves as it was
pub record GoesOn (old new : MatrixWork) : Type 0 where
  pub modulus_is : new.modulus ≡ old.modulus
  pub size_is : new.size ≡ old.size
  pub count_is : new.rows ≡ old.rows + 1

module _ (old new : MatrixWork) (said : MatrixLine) (e : List ℕ) (a b c : List (List ℕ)) (h : HasMatrixRows old a b c) (on : GoesOn old new) (long : length e ≡ old.size) where
  one_more : (xs : List (List ℕ)) → length (xs ++ e ∷ []) ≡ length xs + 1
  one_more xs = length-append xs (e ∷ [])

  long_eq : nat_eq (length e) old.size ≡ true
  long_eq = eq-eqb (length e) old.size long

  -- a row more of A
  pub a_taken : said ≡ row A e → old.rows < old.size → new.a ≡ old.a ++ e → new.b ≡ old.b → new.c ≡ old.c → TakesMatrixRow old new said a b c
  a_taken s few ga gb gc =
      let la : length a < old.size = omega (arith, h.count_is, few) in
      let only = only_a old a b c h la in
      let nb : b ≡ [] = only.0 in
      let nc : c ≡ [] = only.1 in
      let lt : nat_lt old.rows old.size ≡ true = lt-ltb old.rows old.size few in
      record {
        next_a = a ++ e ∷ [];
        next_b = [];
        next_c = [];
        stands = ap (after_in_matrix (matrix_place old)) s ∙ rw (lt, long_eq, on.modulus_is, on.size_is, on.count_is) refl;
        now = record {
          some = rw on.size_is h.some;
          small = rw on.size_is h.small;
          count_is = omega (arith, on.count_is, only.2, one_more a);
          few_a = omega (arith, on.size_is, la, one_more a);
          few_b = omega arith;
          few_c = omega arith;
          a_first = λ l. refl;
          b_before_c = λ l. refl;
          a_is = ga ∙ ap (λ z. z ++ e) h.a_is ∙ sym (concat_end a e);
          b_is = gb ∙ h.b_is ∙ ap concat nb;
          c_is = gc ∙ h.c_is ∙ ap concat nc;
        };
        said_is = rw (on.modulus_is, on.size_is, nb, nc, s) (ap (λ (z : List MatrixLine). matrix old.modulus old.size ∷ z) (more_a a e));
      }

  -- of B
  pub b_taken : said ≡ row B e → old.size ≤ old.rows → old.rows < old.size + old.size → new.a ≡ old.a → new.b ≡ old.b ++ e → new.c ≡ old.c → TakesMatrixRow old new said a b c
  b_taken s past few ga gb gc =
      let la : length a ≡ old.size = all_a old a b c h past in
      let lb : length b < old.size = omega (arith, h.count_is, few, la) in
      let only = only_b old a b c h lb in
      let nc : c ≡ [] = only.0 in
      let ge : nat_le old.size old.rows ≡ true = le-leb old.size old.rows past in
      let lt : nat_lt old.rows (old.size + old.size) ≡ true = lt-ltb old.rows (old.size + old.size) few in
      record {
        next_a = a;
        next_b = b ++ e ∷ [];
        next_c = [];
        stands = ap (after_in_matrix (matrix_place old)) s ∙ rw (ge, lt, long_eq, on.modulus_is, on.size_is, on.count_is) refl;
        now = record {
          some = rw on.size_is h.some;
          small = rw on.size_is h.small;
          count_is = omega (arith, on.count_is, only.1, one_more b);
          few_a = omega (arith, on.size_is, la);
          few_b = omega (arith, on.size_is, lb, one_more b);
          few_c = omega arith;
          a_first = λ l. absurd (omega (arith, l, la, on.size_is));
          b_before_c = λ l. refl;
          a_is = ga ∙ h.a_is;
          b_is = gb ∙ ap (λ z. z ++ e) h.b_is ∙ sym (concat_end b e);
          c_is = gc ∙ h.c_is ∙ ap concat nc;
        };
        said_is = rw (on.modulus_is, on.size_is, nc, s) (ap (λ (z : List MatrixLine). matrix old.modulus old.size ∷ z) (more_b a b e));
      }

  -- and c
  pub c_taken : said ≡ row C e → old.rows ≡ old.size + old.size → new.a ≡ old.a → new.b ≡ old.b → new.c ≡ old.c ++ e → TakesMatrixRow old new said a b c
  c_taken s all ga gb gc =
      let la : length a ≡ old.size = all_a old a b c h (omega (arith, all)) in
      let lb : length b ≡ old.size = all_b old a b c h (omega (arith, all)) in
      let nc : c ≡ [] = empty_of c (omega (arith, h.count_is, la, lb, all)) in
      let is : nat_eq old.rows (old.size + old.size) ≡ true = eq-eqb old.rows (old.size + old.size) all in
      record {
        next_a = a;
        next_b = b;
        next_c = e ∷ [];
        stands = ap (after_in_matrix (matrix_place old)) s ∙ rw (is, long_eq, on.modulus_is, on.size_is, on.count_is) refl;
        now = record {
          some = rw on.size_is h.some;
          small = rw on.size_is h.small;
          count_is = omega (arith, on.count_is, la, lb, all);
          few_a = omega (arith, on.size_is, la);
          few_b = omega (arith, on.size_is, lb);
          few_c = omega arith;
          a_first = λ l. absurd (omega (arith, l, la, on.size_is));
          b_before_c = λ l. absurd (omega (arith, l, lb, on.size_is));
          a_is = ga ∙ h.a_is;
          b_is = gb ∙ h.b_is;
          c_is = gc ∙ ap (λ z. z ++ e) (h.c_is ∙ ap concat nc) ∙ sym (append-nil e);
        };
        said_is = rw (on.modulus_is, on.size_is, nc, s) (ap (λ (z : List MatrixLine). matrix old.modulus old.size ∷ z) (more_c a b e));
      }

-- with a row more
abbrev pub with_row : MatrixWork → Part → List ℕ → MatrixWork
with_row w p e = record (with_entries w p e) { rows = (with_entries w p e).rows + 1 }

pub same_rows : (w : MatrixWork) (p : Part) (e : List ℕ) → (with_entries w p e).rows ≡ w.rows
same_rows w A e = refl
same_rows w B e = refl
same_rows w C e = refl

-- such a row is among the first few hundred
pub rows_few : (size count : ℕ) (p : Part) → size ≤ 255 → awaits size count p ≡ true → count ≤ 510
rows_few size count A small next = omega (arith, small, ltb-true count size next)
rows_few size count B small next = omega (arith, small, ltb-true count (size + size) (both (nat_le size count) (nat_lt count (size + size)) next).1)
rows_few size count C small next = omega (arith, small, eqb-true count (size + size) next)

-- a row that is next, with as many entries as the size
pub row_taken : (old : MatrixWork) (said : MatrixLine) (p : Part) (e : List ℕ) → said ≡ row p e → awaits old.size old.rows p ≡ true → length e ≡ old.size
    → TakesInMatrix old said (with_row old p e) true
row_taken old said A e s next long a b c h =
    a_taken old (with_row old A e) said e a b c h (record { modulus_is = refl; size_is = refl; count_is = refl }) long s (ltb-true old.rows old.size next) refl refl refl
row_taken old said B e s next long a b c h =
    let k = both (nat_le old.size old.rows) (nat_lt old.rows (old.size + old.size)) next in
    b_taken old (with_row old B e) said e a b c h (record { modulus_is = refl; size_is = refl; count_is = refl }) long s (leb-true old.size old.rows k.0) (ltb-true old.rows (old.size + old.size) k.1) refl refl refl
row_taken old said C e s next long a b c h =
    c_taken old (with_row old C e) said e a b c h (record { modulus_is = refl; size_is = refl; count_is = refl }) long s (eqb-true old.rows (old.size + old.size) next) refl refl refl

-- a matrix-linear magma opens a magma
pub matrix_opens : (said : MatrixLine) (w : MatrixWork) → OpensMatrix said (Some w) → OpensHead (matrix_line said) (Some (Matrix w))
matrix_opens said w t =
    let none : w.rows ≡ 0 = t.1.count_is in
    let low : nat_le 1 w.size ≡ true = le-leb 1 w.size t.1.some in
    let high : nat_le w.size 4 ≡ true = le-leb w.size 4 t.1.small in (
      Lines.matrix (matrix_place w),
      ap (λ (z : MatrixLine). opened_head (matrix_line z)) t.0 ∙ rw (low, high, none) refl,
      ([], [], [], t.1, refl, ap (λ (z : MatrixLine). matrix_line z ∷ []) t.0),
    )

-- a magma goes on as its rows do
pub matrix_takes : (old new : MatrixWork) (said : MatrixLine) (taken : Bool) → TakesInMatrix old said new taken → TakesInHead (Matrix old) (matrix_line said) (Matrix new) taken
matrix_takes old new said true t = λ head saids (a, b, c, h, p, s).
    let on = t a b c h in
    record {
      next = Lines.matrix (matrix_place new);
      stands = ap (λ (z : Head). next_head z (matrix_line said)) p ∙ ap (option_map Lines.matrix) on.stands;
      has = (
        on.next_a,
        on.next_b,
        on.next_c,
        on.now,
        refl,
        ap (λ z. z ++ matrix_line said ∷ []) s ∙ sym (map_end matrix_line (matrix_said old a b c) said) ∙ ap (map matrix_line) (sym on.said_is),
      );
    }
matrix_takes old new said false t = λ head saids (a, b, c, h, p, s). ap (λ (z : Head). next_head z (matrix_line said)) p ∙ ap (option_map Lines.matrix) t

pub matrix_takes_ok : {E : Type 0} (old new : MatrixWork) (said : MatrixLine) (r : Result Bool E) → IfOk r (TakesInMatrix old said new) → IfOk r (TakesInHead (Matrix old) (matrix_line said) (Matrix new))
matrix_takes_ok old new said (Ok taken) t = matrix_takes old new said taken t
matrix_takes_ok old new said (Err e) t = tt

-- a line that is none of matrices tells no more of them
abbrev pub IsNoMatrixLine : Line → Type 0
IsNoMatrixLine (of_matrices, said) = ⊥
IsNoMatrixLine _ = Unit {0}

pub matrix_keeps : (w : MatrixWork) (said : Line) → IsNoMatrixLine said → TakesInHead (Matrix w) said (Matrix w) false
matrix_keeps w (of_proofs, said) none head saids h = ap (λ (z : Head). next_head z (of_proofs, said)) h.4
matrix_keeps w (of_tables, said) none head saids h = ap (λ (z : Head). next_head z (of_tables, said)) h.4
matrix_keeps w (of_linear, said) none head saids h = ap (λ (z : Head). next_head z (of_linear, said)) h.4
matrix_keeps w (of_matrices, said) none head saids h = absurd none
matrix_keeps w (of_rules, said) none head saids h = ap (λ (z : Head). next_head z (of_rules, said)) h.4
matrix_keeps w (of_claims, said) none head saids h = ap (λ (z : Head). next_head z (of_claims, said)) h.4

-- the lines of all rows tell the magma
pub matrix_says : (w : MatrixWork) (a b c : List (List ℕ)) → HasMatrixRows w a b c → has_all (matrix_place w) ≡ true → SaysRows (matrix_said w a b c) (matrix_told w)
matrix_says w a b c h all = record {
  a = a;
  b = b;
  whole = ap (λ z. matrix w.modulus w.size ∷ rows_of a b z) (one_c w a b c h (eqb-true w.rows (w.size + w.size + 1) all));
  a_is = h.a_is;
  b_is = h.b_is;
}
