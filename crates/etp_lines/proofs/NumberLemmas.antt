-- Numbers in lines, one more word at a time.
use Rattle.std.proofs.Common.{◌≡◌, ℕ, ◌+◌, ◌≤◌, arith, Bool, true, false, List, [], ◌∷◌, ◌++◌, length, refl, sym, ap, ◌∙◌, Option, Some, None, append_assoc, append-nil}
use Rattle.std.specs.Option.{option_map}
use Rattle.etp_io.specs.Texts.{begin_first}
use Rattle.etp_words.specs.Words.{is_blank, goes_on, words_of}
use Rattle.etp_words.specs.Numbers.{number_said}
use Rattle.etp_lines.specs.Claims.{number_then, numbers_said}

-- the numbers before these
abbrev pub numbers_behind : List ℕ → Option (List ℕ) → Option (List ℕ)
numbers_behind p o = option_map (λ t. p ++ t) o

one_then : (p : List ℕ) (n : ℕ) (o : Option (List ℕ)) → numbers_behind p (number_then (Some n) o) ≡ numbers_behind (p ++ n ∷ []) o
one_then p n None = refl
one_then p n (Some t) = ap Some (sym (append_assoc p (n ∷ []) t))

none_then : (o : Option (List ℕ)) → number_then None o ≡ None
none_then None = refl
none_then (Some t) = refl

-- one word more is a number
pub numbers_next : (all rest word : List ℕ) (more : List (List ℕ)) (p : List ℕ) (n : ℕ) → words_of rest ≡ word ∷ more → Some n ≡ number_said word
    → numbers_said (words_of all) ≡ numbers_behind p (numbers_said (words_of rest)) → numbers_said (words_of all) ≡ numbers_behind (p ++ n ∷ []) (numbers_said more)
numbers_next all rest word more p n e f h =
    h ∙ ap (λ ws. numbers_behind p (numbers_said ws)) e ∙ ap (λ o. numbers_behind p (number_then o (numbers_said more))) (sym f) ∙ one_then p n (numbers_said more)

-- one word more is none
pub numbers_stop : (all rest word : List ℕ) (more : List (List ℕ)) (p : List ℕ) → words_of rest ≡ word ∷ more → None ≡ number_said word
    → numbers_said (words_of all) ≡ numbers_behind p (numbers_said (words_of rest)) → None ≡ numbers_said (words_of all)
numbers_stop all rest word more p e f h =
    sym (h ∙ ap (λ ws. numbers_behind p (numbers_said ws)) e ∙ ap (λ o. numbers_behind p (number_then o (numbers_said more))) (sym f) ∙ ap (numbers_behind p) (none_then (numbers_said more)))

pub numbers_end : (all rest : List ℕ) (p : List ℕ) → words_of rest ≡ [] → numbers_said (words_of all) ≡ numbers_behind p (numbers_said (words_of rest)) → Some p ≡ numbers_said (words_of all)
numbers_end all rest p e h = sym (h ∙ ap (λ ws. numbers_behind p (numbers_said ws)) e ∙ ap Some (append-nil p))

first_longer : (b : ℕ) (ws : List (List ℕ)) → length (begin_first b ws) ≤ length ws + 1
first_longer b [] = omega arith
first_longer b (w ∷ ws) = omega arith

-- a line has no more words than bytes
pub words_few : (line : List ℕ) → length (words_of line) ≤ length line
words_few [] = omega arith
words_few (b ∷ bytes) = go (is_blank b) (goes_on bytes) refl refl (words_few bytes)
  where
    go : (s t : Bool) → is_blank b ≡ s → goes_on bytes ≡ t → length (words_of bytes) ≤ length bytes → length (words_of (b ∷ bytes)) ≤ length (b ∷ bytes)
    go true t e f h = rw e (omega arith)
    go false true e f h = rw (e, f) (omega (arith, first_longer b (words_of bytes)))
    go false false e f h = rw (e, f) (omega arith)
