-- Numbers in lines, one more at a time.
use Rattle.std.proofs.Common.{◌≡◌, ℕ, ◌+◌, ◌<◌, ◌≤◌, suc, add-one, arith, Bool, true, false, nat_eq, nat_le, List, [], ◌∷◌, ◌++◌, length, take, drop, get_or, zero, min, map, refl, sym, ap, ◌∙◌, append_assoc, append-nil, decimal, codes, OnOk, Result, Ok, Err}
use Rattle.std.specs.List.{concat}
use Rattle.std.proofs.Math.Seq.{take-suc}
use Rattle.std.proofs.lemmas.List.{take-append-drop, length-drop, take_all}
use Rattle.std.proofs.lemmas.Bool.{leb-true, leb-false}
use Rattle.etp_lines.specs.TableLines.{row}
use Rattle.etp_lines.specs.Claims.{holds, fails}
use Rattle.etp_items.specs.Bodies as Bodies
use Rattle.etp_items.specs.Written.{spaced_behind, written_by, written_numbers, written_table_line, written_claim_line, model_text, pieces, cut}

spaced_append : (xs ys : List ℕ) → spaced_behind (xs ++ ys) ≡ spaced_behind xs ++ spaced_behind ys
spaced_append [] ys = refl
spaced_append (x ∷ xs) ys =
    ap (λ z. 32 ∷ (decimal x ++ z)) (spaced_append xs ys) ∙ ap (λ z. 32 ∷ z) (sym (append_assoc (decimal x) (spaced_behind xs) (spaced_behind ys)))

pub more_spaced : (xs : List ℕ) (i x : ℕ) (s t u v : List ℕ) → i < length xs → x ≡ get_or xs i 0 → t ≡ s ++ spaced_behind (take i xs) → u ≡ t ++ 32 ∷ [] → v ≡ u ++ decimal x
    → v ≡ s ++ spaced_behind (take (i + 1) xs)
more_spaced xs i x s t u v h e k f g =
    let taken : take (i + 1) xs ≡ take i xs ++ x ∷ [] = ap (λ n. take n xs) (add-one i) ∙ take-suc xs i 0 h ∙ ap (λ y. take i xs ++ y ∷ []) (sym e) in
    let one : spaced_behind (take (i + 1) xs) ≡ spaced_behind (take i xs) ++ (32 ∷ (decimal x ++ [])) = ap spaced_behind taken ∙ spaced_append (take i xs) (x ∷ []) in
    g ∙ ap (λ z. z ++ decimal x) (f ∙ ap (λ z. z ++ 32 ∷ []) k) ∙ append_assoc (s ++ spaced_behind (take i xs)) (32 ∷ []) (decimal x)
    ∙ append_assoc s (spaced_behind (take i xs)) (32 ∷ decimal x)
    ∙ ap (λ z. s ++ (spaced_behind (take i xs) ++ 32 ∷ z)) (sym (append-nil (decimal x))) ∙ ap (λ z. s ++ z) (sym one)

-- pieces, with ever so many to spare
pieces_spare : (n k m : ℕ) (xs : List ℕ) → 1 ≤ n → length xs ≤ k → length xs ≤ m → pieces n k xs ≡ pieces n m xs
pieces_spare n k m [] some h g = refl
pieces_spare n zero m (x ∷ xs) some h g = absurd (omega (arith, h))
pieces_spare n (suc k) zero (x ∷ xs) some h g = absurd (omega (arith, g))
pieces_spare n (suc k) (suc m) (x ∷ xs) some h g =
    ap (λ z. take n (x ∷ xs) ∷ z) (pieces_spare n k m (drop n (x ∷ xs)) some (omega (arith, length-drop n (x ∷ xs), h)) (omega (arith, length-drop n (x ∷ xs), g)))

-- the first piece and the others
pub cut_first : (n : ℕ) (xs : List ℕ) → 1 ≤ n → 0 < length xs → cut n xs ≡ take n xs ∷ cut n (drop n xs)
cut_first n [] some h = absurd (omega (arith, h))
cut_first n (x ∷ xs) some h =
    ap (λ z. take n (x ∷ xs) ∷ z) (pieces_spare n (length xs) (length (drop n (x ∷ xs))) (drop n (x ∷ xs)) some (omega (arith, length-drop n (x ∷ xs))) (omega arith))

-- pieces joined
pub cut_joined : (n : ℕ) (xs : List ℕ) → 1 ≤ n → concat (cut n xs) ≡ xs
cut_joined n xs some = go (length xs) xs (omega arith)
  where
    go : (k : ℕ) (ys : List ℕ) → length ys ≤ k → concat (pieces n k ys) ≡ ys
    go k [] h = refl
    go zero (y ∷ ys) h = absurd (omega (arith, h))
    go (suc k) (y ∷ ys) h = ap (λ z. take n (y ∷ ys) ++ z) (go k (drop n (y ∷ ys)) (omega (arith, length-drop n (y ∷ ys), some))) ∙ take-append-drop n (y ∷ ys)

pub one_piece : (f : List ℕ → List ℕ) (n : ℕ) (rest piece behind s t u v : List ℕ) → 1 ≤ n → 0 < length rest → piece ≡ take n rest → behind ≡ drop n rest
    → s ++ written_by f (cut n rest) ≡ t → u ≡ s ++ (f piece ++ 10 ∷ []) → u ++ written_by f (cut n behind) ≡ t
one_piece f n rest piece behind s t u v some long e d h g =
    let first : written_by f (cut n rest) ≡ f (take n rest) ++ 10 ∷ written_by f (cut n (drop n rest)) = ap (written_by f) (cut_first n rest some long) in
    ap (λ z. z ++ written_by f (cut n behind)) g
    ∙ append_assoc s (f piece ++ 10 ∷ []) (written_by f (cut n behind))
    ∙ ap (λ z. s ++ z) (append_assoc (f piece) (10 ∷ []) (written_by f (cut n behind)))
    ∙ ap (λ z. s ++ (f z ++ 10 ∷ written_by f (cut n behind))) e
    ∙ ap (λ z. s ++ (f (take n rest) ++ 10 ∷ written_by f (cut n z))) d
    ∙ ap (λ z. s ++ z) (sym first) ∙ h

pub written_map : {A B : Type 0} (f : B → List ℕ) (g : A → B) (xs : List A) → written_by f (map g xs) ≡ written_by (λ x. f (g x)) xs
written_map f g [] = refl
written_map f g (x ∷ xs) = ap (λ z. f (g x) ++ 10 ∷ z) (written_map f g xs)

pub written_join : {A : Type 0} (f : A → List ℕ) (xs ys : List A) → written_by f (xs ++ ys) ≡ written_by f xs ++ written_by f ys
written_join f [] ys = refl
written_join f (x ∷ xs) ys = ap (λ z. f x ++ 10 ∷ z) (written_join f xs ys) ∙ sym (append_assoc (f x) (10 ∷ written_by f xs) (written_by f ys))

-- as many of the first as there are
pub take_min : (n : ℕ) (xs : List ℕ) → take (min (length xs) n) xs ≡ take n xs
take_min n xs = go (nat_le (length xs) n) refl
  where
    go : (b : Bool) → nat_le (length xs) n ≡ b → take (min (length xs) n) xs ≡ take n xs
    go true e =
        let h : length xs ≤ n = leb-true (length xs) n e in
        let m : min (length xs) n ≡ length xs = omega arith in
        ap (λ k. take k xs) m ∙ take_all (length xs) xs (omega arith) ∙ sym (take_all n xs h)
    go false e =
        let h : n < length xs = leb-false (length xs) n e in
        let m : min (length xs) n ≡ n = omega arith in
        ap (λ k. take k xs) m

drop_past : (n : ℕ) (xs : List ℕ) → length xs ≤ n → drop n xs ≡ []
drop_past zero [] h = refl
drop_past (suc n) [] h = refl
drop_past zero (x ∷ xs) h = absurd (omega (arith, h))
drop_past (suc n) (x ∷ xs) h = drop_past n xs (omega (arith, h))

pub drop_min : (n : ℕ) (xs : List ℕ) → drop (min (length xs) n) xs ≡ drop n xs
drop_min n xs = go (nat_le (length xs) n) refl
  where
    go : (b : Bool) → nat_le (length xs) n ≡ b → drop (min (length xs) n) xs ≡ drop n xs
    go true e =
        let h : length xs ≤ n = leb-true (length xs) n e in
        let m : min (length xs) n ≡ length xs = omega arith in
        ap (λ k. drop k xs) m ∙ drop_past (length xs) xs (omega arith) ∙ sym (drop_past n xs h)
    go false e =
        let h : n < length xs = leb-false (length xs) n e in
        let m : min (length xs) n ≡ n = omega arith in
        ap (λ k. drop k xs) m

not_zero : (n : ℕ) → nat_eq n 0 ≡ false → 0 < n
not_zero zero e = absurd (true_false e)
  where
    true_false : true ≡ false → ⊥
    true_false e = cc
not_zero (suc n) e = omega arith

pub some_left : (xs : List ℕ) (empty : Bool) → empty ≡ nat_eq (length xs) 0 → empty ≡ false → 0 < length xs
some_left xs empty e h = not_zero (length xs) (sym e ∙ h)

-- the lines of claims are those of the laws that hold and then of those that fail
pub claims_written : {T E : Type 0} (r : Result T E) (hs fs : List ℕ) (s t u : List ℕ) → t ≡ s ++ written_by (written_numbers (codes "holds")) (cut 100 hs)
    → OnOk r (u ≡ t ++ written_by (written_numbers (codes "fails")) (cut 100 fs))
    → OnOk r (u ≡ s ++ written_by written_claim_line (map holds (cut 100 hs) ++ map fails (cut 100 fs)))
claims_written (Err e) hs fs s t u h k = tt
claims_written (Ok x) hs fs s t u h k =
    k ∙ ap (λ z. z ++ written_by (written_numbers (codes "fails")) (cut 100 fs)) h
    ∙ append_assoc s (written_by (written_numbers (codes "holds")) (cut 100 hs)) (written_by (written_numbers (codes "fails")) (cut 100 fs))
    ∙ ap (λ z. s ++ (z ++ written_by (written_numbers (codes "fails")) (cut 100 fs))) (sym (written_map written_claim_line holds (cut 100 hs)))
    ∙ ap (λ z. s ++ (written_by written_claim_line (map holds (cut 100 hs)) ++ z)) (sym (written_map written_claim_line fails (cut 100 fs)))
    ∙ ap (λ z. s ++ z) (sym (written_join written_claim_line (map holds (cut 100 hs)) (map fails (cut 100 fs))))

-- the lines of a table are that of its size and its rows
pub table_written : {T E : Type 0} (r : Result T E) (size : ℕ) (entries s t u : List ℕ) → t ≡ s ++ written_numbers (codes "table") (size ∷ []) ++ 10 ∷ []
    → OnOk r (u ≡ t ++ written_by (written_numbers (codes "row")) (cut size entries)) → OnOk r (u ≡ s ++ model_text (Bodies.table size entries))
table_written (Err e) size entries s t u h k = tt
table_written (Ok x) size entries s t u h k =
    k ∙ ap (λ z. z ++ written_by (written_numbers (codes "row")) (cut size entries)) (h ∙ append_assoc s (written_numbers (codes "table") (size ∷ [])) (10 ∷ []))
    ∙ append_assoc s (written_numbers (codes "table") (size ∷ []) ++ 10 ∷ []) (written_by (written_numbers (codes "row")) (cut size entries))
    ∙ ap (λ z. s ++ z) (append_assoc (written_numbers (codes "table") (size ∷ [])) (10 ∷ []) (written_by (written_numbers (codes "row")) (cut size entries)))
    ∙ ap (λ z. s ++ (written_numbers (codes "table") (size ∷ []) ++ 10 ∷ z)) (sym (written_map written_table_line row (cut size entries)))
