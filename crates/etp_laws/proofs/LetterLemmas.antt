-- Numbering a word letter by letter.
use Rattle.std.proofs.Common.{position, ◌==◌, Some, None, cond, ◌≡◌, ℕ, ◌+◌, ◌<◌, ◌≤◌, ◌⊎◌, inl, inr, ◌++◌, List, [], ◌∷◌, length, drop, get_or, refl, sym, ◌∙◌, ap, arith, add-one, append_assoc, drop-cons}
use Rattle.std.proofs.lemmas.Bool.{lt-ltb, le-ltb}
use Rattle.std.specs.Option.{unwrap_or}
use Rattle.etp_laws.specs.Occurrences.{place, seen_after, by_occurrence_after, seen_all, by_occurrence}
use Rattle.etp_laws.proofs.Occurrences.{place_at_most, after_seen, after_new, length_push}

pub length-seen_after : (s : List ℕ) (v : ℕ) → length (seen_after s v) ≤ length s + 1
length-seen_after s v = one (place_at_most s v)
  where
    one : ((place s v < length s) ⊎ (place s v ≡ length s)) → length (seen_after s v) ≤ length s + 1
    one (inl h) = let e = ap length (after_seen s v h) in omega arith
    one (inr h) = let e = ap length (after_new s v h) in let l = length_push s v in omega arith

-- one more variable of the word is numbered
pub by_occurrence_more : (done seen w : List ℕ) (i v : ℕ) → i < length w → v ≡ get_or w i 0 → (done ++ place seen v ∷ []) ++ by_occurrence_after (seen_after seen v) (drop (i + 1) w) ≡ done ++ by_occurrence_after seen (drop i w)
by_occurrence_more done seen w i v h e =
    append_assoc done (place seen v ∷ []) _
    ∙ ap (λ u. done ++ by_occurrence_after seen u) (ap (λ x. x ∷ drop (i + 1) w) e ∙ rw add-one (sym (drop-cons w i 0 h)))

pub seen_more : (seen w : List ℕ) (i v : ℕ) → i < length w → v ≡ get_or w i 0 → seen_all (seen_after seen v) (drop (i + 1) w) ≡ seen_all seen (drop i w)
seen_more seen w i v h e =
    let more : v ∷ drop (i + 1) w ≡ drop i w = ap (λ x. x ∷ drop (i + 1) w) e ∙ rw add-one (sym (drop-cons w i 0 h)) in
    ap (seen_all seen) more

pub by_occurrence_after-append : (s u w : List ℕ) → by_occurrence_after s (u ++ w) ≡ by_occurrence_after s u ++ by_occurrence_after (seen_all s u) w
by_occurrence_after-append s [] w = refl
by_occurrence_after-append s (v ∷ u) w = ap (λ x. place s v ∷ x) (by_occurrence_after-append (seen_after s v) u w)

-- two words that are numbered one after the other
pub by_occurrence_both : (u w seen seen' numbers numbers' both : List ℕ) → seen ≡ [] → numbers ≡ [] → numbers' ≡ numbers ++ by_occurrence_after seen u → seen' ≡ seen_all seen u → both ≡ numbers' ++ by_occurrence_after seen' w → both ≡ by_occurrence (u ++ w)
by_occurrence_both u w seen seen' numbers numbers' both s n n' s' b =
    b ∙ (λ i. n' i ++ by_occurrence_after (s' i) w) ∙ (λ i. (n i ++ by_occurrence_after (s i) u) ++ by_occurrence_after (seen_all (s i) u) w) ∙ sym (by_occurrence_after-append [] u w)

pub place-position : (seen : List ℕ) (v : ℕ) → unwrap_or (position (λ x. x == v) seen) (length seen) ≡ place seen v
place-position seen v = one (place_at_most seen v)
  where
    one : ((place seen v < length seen) ⊎ (place seen v ≡ length seen)) → unwrap_or (position (λ x. x == v) seen) (length seen) ≡ place seen v
    one (inl h) = ap (λ b. unwrap_or (cond b (Some (place seen v)) None) (length seen)) (lt-ltb (place seen v) (length seen) h)
    one (inr e) = ap (λ b. unwrap_or (cond b (Some (place seen v)) None) (length seen)) (le-ltb (place seen v) (length seen) (omega arith)) ∙ sym e

pub place-le : (seen : List ℕ) (v : ℕ) → place seen v ≤ length seen
place-le seen v = one (place_at_most seen v)
  where
    one : ((place seen v < length seen) ⊎ (place seen v ≡ length seen)) → place seen v ≤ length seen
    one (inl h) = omega arith
    one (inr e) = omega arith
