-- The text of the values of a point, value by value.
use Rattle.std.proofs.Common.{◌≡◌, ◌+◌, ◌<◌, ◌≤◌, ℕ, zero, suc, List, [], ◌∷◌, ◌++◌, length, take, get_or, sym, ap, subst, ◌∙◌, append_assoc, arith}
use Rattle.std.proofs.Math.Nat.{min-le_left}
use Rattle.std.proofs.lemmas.List.{take_all, get_or-take, length-take, append-nil}
use Rattle.etp_print.specs.RefusalTexts.{value_text, values_text}

-- one value more
pub values_text-more : (xs : List ℕ) (n k : ℕ) → k < length xs → values_text n (take (k + 1) xs) ≡ values_text n (take k xs) ++ value_text (n + k) (get_or xs k 0)
values_text-more [] n k h = absurd (omega (arith, h))
values_text-more (x ∷ xs) n zero h =
    let here : n + 0 ≡ n = omega arith in
    append-nil (value_text n x) ∙ ap (λ (m : ℕ). value_text m x) (sym here)
values_text-more (x ∷ xs) n (suc k) h =
    let rest = values_text-more xs (n + 1) k (omega (arith, h)) in
    let place : (n + 1) + k ≡ n + suc k = omega arith in
    let grown : suc k + 1 ≡ suc (k + 1) = omega arith in
    ap (λ (m : ℕ). values_text n (take m (x ∷ xs))) grown
    ∙ ap (λ (t : List ℕ). value_text n x ++ t) (rest ∙ ap (λ (m : ℕ). values_text (n + 1) (take k xs) ++ value_text m (get_or xs k 0)) place)
    ∙ sym (append_assoc (value_text n x) (values_text (n + 1) (take k xs)) (value_text (n + suc k) (get_or xs k 0)))

below_take : (xs : List ℕ) (n k : ℕ) → k < n → k < length xs → k < length (take n xs)
below_take [] n k below inside = absurd (omega (arith, inside))
below_take (x ∷ xs) zero k below inside = absurd (omega (arith, below))
below_take (x ∷ xs) (suc n) zero below inside = omega arith
below_take (x ∷ xs) (suc n) (suc k) below inside = let more = below_take xs n k (omega (arith, below)) (omega (arith, inside)) in omega (arith, more)

-- and so for those among the first n values: what is past them adds nothing
pub values_text-step : (xs old old-text text : List ℕ) (n k : ℕ) → k < length xs → k < n → text ≡ old ++ value_text k (get_or xs k 0) → old ≡ old-text ++ values_text 0 (take k (take n xs)) → text ≡ old-text ++ values_text 0 (take (k + 1) (take n xs))
values_text-step xs old old-text text n k inside below e f =
    let more = values_text-more (take n xs) 0 k (below_take xs n k below inside) in
    let zero_more : k ≡ 0 + k = omega arith in
    let value : get_or (take n xs) k 0 ≡ get_or xs k 0 = get_or-take n xs k 0 below in
    e ∙ ap (λ (t : List ℕ). t ++ value_text k (get_or xs k 0)) f
    ∙ append_assoc old-text (values_text 0 (take k (take n xs))) (value_text k (get_or xs k 0))
    ∙ ap (λ (t : List ℕ). old-text ++ t) (ap (λ (v : ℕ). values_text 0 (take k (take n xs)) ++ value_text k v) (sym value) ∙ ap (λ (m : ℕ). values_text 0 (take k (take n xs)) ++ value_text m (get_or (take n xs) k 0)) zero_more ∙ sym more)

pub values_text-rest : (xs : List ℕ) (n k : ℕ) → n ≤ k → take (k + 1) (take n xs) ≡ take k (take n xs)
values_text-rest xs n k h =
    let short : length (take n xs) ≤ n = subst (λ (m : ℕ). m ≤ n) (sym (length-take n xs)) (min-le_left n (length xs)) in
    take_all (k + 1) (take n xs) (omega (arith, short, h)) ∙ sym (take_all k (take n xs) (omega (arith, short, h)))
