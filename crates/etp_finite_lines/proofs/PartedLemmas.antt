-- The first semicolon of a text.
use Rattle.std.proofs.Common.{◌≡◌, ℕ, ◌+◌, ◌<◌, ◌≤◌, ◌⊎◌, inl, inr, arith, List, [], ◌∷◌, ◌++◌, codes, length, take, drop, refl, sym, ap, ◌∙◌, Some, None, length-append, length-take}
use Rattle.std.proofs.lemmas.Bool.{cases_lt}
use Rattle.std.proofs.lemmas.List.{take-append-drop}
use Rattle.std.proofs.Math.Seq.{drop-append_seam}
use Rattle.memchr.specs.Find.{OccursAt, NoneBefore, FindsNeedle}
use Rattle.memchr.proofs.lemmas.MatchLemmas.{OccursAt-split, OccursAt-from_part}
use Rattle.etp_theory.specs.Trees.{Tree}
use Rattle.etp_cancel.specs.Cancelling.{Cancel}
use Rattle.etp_words.specs.Words.{behind_word}
use Rattle.etp_lines.specs.Sides.{SpellsSide}
use Rattle.etp_finite_lines.specs.CancelLines.{IsParted, SaysCancel}

-- a semicolon stands behind these bytes
occurs_behind : (text before behind : List ℕ) → text ≡ before ++ (codes ";" ++ behind) → OccursAt text (codes ";") (length before)
occurs_behind text before behind e =
    OccursAt-from_part text (codes ";") (length before) (omega (arith, ap length e, length-append before (codes ";" ++ behind)))
    (ap (λ z. take 1 (drop (length before) z)) e ∙ ap (take 1) (drop-append_seam before (codes ";" ++ behind)))

taken_length : (k : ℕ) (text : List ℕ) → k + 1 ≤ length text → length (take k text) ≡ k
taken_length k text h = omega (arith, length-take k text, h)

not_later : (text before behind : List ℕ) (k : ℕ) → NoneBefore (OccursAt text (codes ";")) 0 (length text + 1) k → text ≡ before ++ (codes ";" ++ behind) → k ≤ length before
not_later text before behind k none e = by (cases_lt (length before) k)
  where
    by : (length before < k) ⊎ (k ≤ length before) → k ≤ length before
    by (inl l) = absurd (none.before (length before) (omega arith) l (occurs_behind text before behind e))
    by (inr l) = l

-- the place that was found divides the text
pub found_parts : (text : List ℕ) (k : ℕ) → FindsNeedle text (codes ";") 0 (Some k) → IsParted text (take k text) (drop (k + 1) text)
found_parts text k h =
    let n : length (take k text) ≡ k = taken_length k text h.1.fits in
    record {
      whole = sym (take-append-drop k text) ∙ ap (λ z. take k text ++ z) (OccursAt-split text (codes ";") k h.1);
      first = λ before behind e. let l = not_later text before behind k h.0 e in omega (arith, n, l);
    }

pub none_found : (text left right : List ℕ) → FindsNeedle text (codes ";") 0 None → IsParted text left right → ⊥
none_found text left right h d =
    let o = occurs_behind text left right d.whole in
    h (length left) (omega arith) (omega (arith, o.fits)) o

same_parts : (k l x y : List ℕ) → length k ≡ length l → k ++ x ≡ l ++ y → (k ≡ l) × (x ≡ y)
same_parts [] [] x y n e = (refl, e)
same_parts [] (b ∷ l) x y n e = absurd (omega (arith, n))
same_parts (a ∷ k) [] x y n e = absurd (omega (arith, n))
same_parts (a ∷ k) (b ∷ l) x y n e =
    let first : a ≡ b = head_same a b (k ++ x) (l ++ y) e in
    let on = same_parts k l x y (omega (arith, n)) (tail_same a b (k ++ x) (l ++ y) e) in
    (ap (λ z. z ∷ k) first ∙ ap (λ z. b ∷ z) on.0, on.1)
  where
    head_same : (a b : ℕ) (xs ys : List ℕ) → Path (List ℕ) (a ∷ xs) (b ∷ ys) → a ≡ b
    head_same a b xs ys e = cc

    tail_same : (a b : ℕ) (xs ys : List ℕ) → Path (List ℕ) (a ∷ xs) (b ∷ ys) → xs ≡ ys
    tail_same a b xs ys e = cc

-- a text has one first semicolon
pub one_parting : (text k l m n : List ℕ) → IsParted text k l → IsParted text m n → (k ≡ m) × (l ≡ n)
one_parting text k l m n p q =
    let a = p.first m n q.whole in
    let b = q.first k l p.whole in
    let parts = same_parts k m (codes ";" ++ l) (codes ";" ++ n) (omega (arith, a, b)) (sym p.whole ∙ q.whole) in
    (parts.0, ap (drop 1) parts.1)

-- where the text before the semicolon, or the one behind it, is no side, the line doesn't cancel
pub no_outer : (line outer inner : List ℕ) → IsParted (behind_word (behind_word (behind_word line))) outer inner → ((t : Tree) → SpellsSide outer t → ⊥) → (c : Cancel) → SaysCancel line c → ⊥
no_outer line outer inner d none c s =
    let same = one_parting (behind_word (behind_word (behind_word line))) s.outer s.inner outer inner s.parted d in
    none c.outer (rw same.0 at s.outer_spelled)

pub no_inner : (line outer inner : List ℕ) → IsParted (behind_word (behind_word (behind_word line))) outer inner → ((t : Tree) → SpellsSide inner t → ⊥) → (c : Cancel) → SaysCancel line c → ⊥
no_inner line outer inner d none c s =
    let same = one_parting (behind_word (behind_word (behind_word line))) s.outer s.inner outer inner s.parted d in
    none c.inner (rw same.1 at s.inner_spelled)
