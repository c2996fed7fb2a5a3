-- Numbers behind commas, one more at a time.
use Rattle.std.proofs.Common.{◌≡◌, ℕ, ◌+◌, ◌<◌, add-one, List, [], ◌∷◌, ◌++◌, length, take, get_or, refl, sym, ap, ◌∙◌, append_assoc, append-nil, decimal}
use Rattle.std.proofs.Math.Seq.{take-suc}
use Rattle.etp_print.specs.RefusalTexts.{comma_behind}

commas_append : (xs ys : List ℕ) → comma_behind (xs ++ ys) ≡ comma_behind xs ++ comma_behind ys
commas_append [] ys = refl
commas_append (x ∷ xs) ys =
    ap (λ z. 44 ∷ (decimal x ++ z)) (commas_append xs ys) ∙ ap (λ z. 44 ∷ z) (sym (append_assoc (decimal x) (comma_behind xs) (comma_behind ys)))

pub one_more : (xs : List ℕ) (i x : ℕ) (s t u v : List ℕ) → i < length xs → x ≡ get_or xs i 0 → t ≡ s ++ comma_behind (take i xs) → u ≡ t ++ 44 ∷ [] → v ≡ u ++ decimal x
    → v ≡ s ++ comma_behind (take (i + 1) xs)
one_more xs i x s t u v h e k f g =
    let taken : take (i + 1) xs ≡ take i xs ++ x ∷ [] = ap (λ n. take n xs) (add-one i) ∙ take-suc xs i 0 h ∙ ap (λ y. take i xs ++ y ∷ []) (sym e) in
    let one : comma_behind (take (i + 1) xs) ≡ comma_behind (take i xs) ++ (44 ∷ (decimal x ++ [])) = ap comma_behind taken ∙ commas_append (take i xs) (x ∷ []) in
    g ∙ ap (λ z. z ++ decimal x) (f ∙ ap (λ z. z ++ 44 ∷ []) k) ∙ append_assoc (s ++ comma_behind (take i xs)) (44 ∷ []) (decimal x)
    ∙ append_assoc s (comma_behind (take i xs)) (44 ∷ decimal x)
    ∙ ap (λ z. s ++ (comma_behind (take i xs) ++ 44 ∷ z)) (sym (append-nil (decimal x))) ∙ ap (λ z. s ++ z) (sym one)
