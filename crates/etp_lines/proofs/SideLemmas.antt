-- Positions by their letters, read from the front.
use Rattle.std.proofs.Common.{◌≡◌, ℕ, ◌+◌, ◌<◌, add-one, List, [], ◌∷◌, ◌++◌, length, drop, get_or, map, refl, sym, ap, ◌∙◌, Option, Some, None, append_assoc, append-nil}
use Rattle.std.specs.Option.{option_map}
use Rattle.std.proofs.Math.Seq.{drop-cons, drop-length}
use Rattle.etp_theory.specs.Positions.{Side}
use Rattle.etp_term.specs.Positions as Program
use Rattle.etp_term.specs.declared.position.Side as Declared
use Rattle.etp_lines.specs.ProofLines.{side_of, side_then, sides_of}

pub map_end : {A B : Type 0} (f : A → B) (xs : List A) (x : A) → map f (xs ++ x ∷ []) ≡ map f xs ++ f x ∷ []
map_end f [] x = refl
map_end f (y ∷ ys) x = ap (λ zs. f y ∷ zs) (map_end f ys x)

-- the sides before these
abbrev pub sides_behind : List Side → Option (List Side) → Option (List Side)
sides_behind p o = option_map (λ t. p ++ t) o

one_then : (p : List Side) (s : Side) (o : Option (List Side)) → sides_behind p (side_then (Some s) o) ≡ sides_behind (p ++ s ∷ []) o
one_then p s None = refl
one_then p s (Some t) = ap Some (sym (append_assoc p (s ∷ []) t))

pub sides_next : (letters : List ℕ) (i : ℕ) (p : List Declared.Side) (s : Declared.Side) → i < length letters → option_map Program.side_of (Some s) ≡ side_of (get_or letters i 0)
    → sides_of letters ≡ sides_behind (Program.position_of p) (sides_of (drop i letters))
    → sides_of letters ≡ sides_behind (Program.position_of (p ++ s ∷ [])) (sides_of (drop (i + 1) letters))
sides_next letters i p s h e f =
    let q : sides_of (drop i letters) ≡ side_then (side_of (get_or letters i 0)) (sides_of (drop (i + 1) letters)) = rw (drop-cons letters i 0 h, add-one) refl in
    f ∙ ap (sides_behind (Program.position_of p)) (q ∙ ap (λ o. side_then o (sides_of (drop (i + 1) letters))) (sym e))
    ∙ one_then (Program.position_of p) (Program.side_of s) (sides_of (drop (i + 1) letters))
    ∙ ap (λ r. sides_behind r (sides_of (drop (i + 1) letters))) (sym (map_end Program.side_of p s))

none_then : (o : Option (List Side)) → side_then None o ≡ None
none_then None = refl
none_then (Some t) = refl

pub sides_stop : (letters : List ℕ) (i : ℕ) (p : List Side) → i < length letters → None ≡ side_of (get_or letters i 0)
    → sides_of letters ≡ sides_behind p (sides_of (drop i letters)) → None ≡ sides_of letters
sides_stop letters i p h e f =
    let q : sides_of (drop i letters) ≡ side_then (side_of (get_or letters i 0)) (sides_of (drop (i + 1) letters)) = rw (drop-cons letters i 0 h, add-one) refl in
    sym (f ∙ ap (sides_behind p) (q ∙ ap (λ o. side_then o (sides_of (drop (i + 1) letters))) (sym e) ∙ none_then (sides_of (drop (i + 1) letters))))

pub sides_end : (letters : List ℕ) (p : List Side) → sides_of letters ≡ sides_behind p (sides_of (drop (length letters) letters)) → Some p ≡ sides_of letters
sides_end letters p f = sym (f ∙ ap (λ l. sides_behind p (sides_of l)) (drop-length letters) ∙ ap Some (append-nil p))
