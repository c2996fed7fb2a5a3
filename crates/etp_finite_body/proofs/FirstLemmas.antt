-- The first line that isn't blank.
use Rattle.std.proofs.Common.{◌≡◌, ℕ, inl, inr, arith, List, [], ◌∷◌, ◌++◌, codes, length, sym, ap, ◌∙◌}
use Rattle.std.specs.List.{AllByRecursion}
use Rattle.etp_io.specs.Texts.{LineText, whole, too_long}
use Rattle.etp_words.specs.Words.{words_of, IsBlankLine}
use Rattle.etp_finite_body.specs.Reading.{IsBlankText, FirstIs, IsInfinite, IsModel}
use Rattle.etp_finite_body.specs.Work.{BeginsAs}
use Rattle.etp_finite_body.specs.declared.first.First.TheVariants.{Infinite, Model, Proof}

pub first_more : (is : LineText → Type 0) (xs ys : List LineText) → FirstIs is xs → FirstIs is (xs ++ ys)
first_more is [] ys h = absurd h
first_more is (x ∷ xs) ys (inl h) = inl h
first_more is (x ∷ xs) ys (inr h) = inr (h.0, first_more is xs ys h.1)

pub first_at : (is : LineText → Type 0) (xs : List LineText) (x : LineText) → AllByRecursion IsBlankText xs → is x → (IsBlankText x → ⊥) → FirstIs is (xs ++ x ∷ [])
first_at is [] x a h n = inl (h, n)
first_at is (y ∷ ys) x a h n = inr (a.0, first_at is ys x a.1 h n)

pub blank_more : (xs : List LineText) (x : LineText) → AllByRecursion IsBlankText xs → IsBlankText x → AllByRecursion IsBlankText (xs ++ x ∷ [])
blank_more [] x a h = (h, tt)
blank_more (y ∷ ys) x a h = (a.0, blank_more ys x a.1 h)

pub none_first : (is : LineText → Type 0) (xs : List LineText) → AllByRecursion IsBlankText xs → FirstIs is xs → ⊥
none_first is [] a h = h
none_first is (x ∷ xs) a (inl h) = h.1 a.0
none_first is (x ∷ xs) a (inr h) = none_first is xs a.1 h.1

pub first_apart : (is other : LineText → Type 0) (xs : List LineText) → ((x : LineText) → is x → other x → ⊥) → FirstIs is xs → FirstIs other xs → ⊥
first_apart is other [] none h k = h
first_apart is other (x ∷ xs) none (inl h) (inl k) = none x h.0 k.0
first_apart is other (x ∷ xs) none (inl h) (inr k) = h.1 k.0
first_apart is other (x ∷ xs) none (inr h) (inl k) = k.1 h.0
first_apart is other (x ∷ xs) none (inr h) (inr k) = first_apart is other xs none h.1 k.1

pub first_weaker : (is other : LineText → Type 0) (xs : List LineText) → ((x : LineText) → is x → other x) → FirstIs is xs → FirstIs other xs
first_weaker is other [] w h = h
first_weaker is other (x ∷ xs) w (inl h) = inl (w x h.0, h.1)
first_weaker is other (x ∷ xs) w (inr h) = inr (h.0, first_weaker is other xs w h.1)

-- what one line begins

head_same : (u v : List ℕ) (m n : List (List ℕ)) → Path (List (List ℕ)) (u ∷ m) (v ∷ n) → u ≡ v
head_same u v m n e = cc

tail_same : (u v : List ℕ) (m n : List (List ℕ)) → Path (List (List ℕ)) (u ∷ m) (v ∷ n) → m ≡ n
tail_same u v m n e = cc

pub nothing_given : BeginsAs Proof too_long
nothing_given = ((λ h. h, λ h. h), λ h. h)

pub rules_begun : (line : List ℕ) (more : List (List ℕ)) → (IsBlankLine line → ⊥) → words_of line ≡ codes "rules" ∷ more → BeginsAs Infinite (whole line)
rules_begun line more n w = ((more, inl w), n)

pub integers_begun : (line rest : List ℕ) (more : List (List ℕ)) → (IsBlankLine line → ⊥) → words_of line ≡ codes "linear" ∷ words_of rest → words_of rest ≡ codes "int" ∷ more → BeginsAs Infinite (whole line)
integers_begun line rest more n w v = ((more, inr (w ∙ ap (λ z. codes "linear" ∷ z) v)), n)

pub table_begun : (line : List ℕ) (more : List (List ℕ)) → (IsBlankLine line → ⊥) → ((m : List (List ℕ)) → words_of line ≡ codes "rules" ∷ m → ⊥) → words_of line ≡ codes "table" ∷ more → BeginsAs Model (whole line)
table_begun line more n rules w = (((more, inl w), apart), n)
  where
    apart : IsInfinite (whole line) → ⊥
    apart (m, inl v) = rules m v
    apart (m, inr v) = omega (arith, ap length (head_same (codes "table") (codes "linear") more (codes "int" ∷ m) (sym w ∙ v)))

pub linear_begun : (line rest : List ℕ) → (IsBlankLine line → ⊥) → words_of line ≡ codes "linear" ∷ words_of rest → ((more : List (List ℕ)) → words_of rest ≡ codes "int" ∷ more → ⊥) → BeginsAs Model (whole line)
linear_begun line rest n w none = (((words_of rest, inr w), apart), n)
  where
    apart : IsInfinite (whole line) → ⊥
    apart (m, inl v) = omega (arith, ap length (head_same (codes "linear") (codes "rules") (words_of rest) m (sym w ∙ v)))
    apart (m, inr v) = none m (tail_same (codes "linear") (codes "linear") (words_of rest) (codes "int" ∷ m) (sym w ∙ v))

pub nothing_begun : (line : List ℕ) → (IsBlankLine line → ⊥) → ((more : List (List ℕ)) → words_of line ≡ codes "rules" ∷ more → ⊥) → ((more : List (List ℕ)) → words_of line ≡ codes "table" ∷ more → ⊥)
    → ((more : List (List ℕ)) → words_of line ≡ codes "linear" ∷ more → ⊥) → BeginsAs Proof (whole line)
nothing_begun line n rules table linear = ((no_model, no_infinite), n)
  where
    no_model : IsModel (whole line) → ⊥
    no_model (m, inl w) = table m w
    no_model (m, inr w) = linear m w

    no_infinite : IsInfinite (whole line) → ⊥
    no_infinite (m, inl w) = rules m w
    no_infinite (m, inr w) = linear (codes "int" ∷ m) w
