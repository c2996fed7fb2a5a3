-- The first arrow of a text.
use Rattle.std.proofs.Common.{◌≡◌, ℕ, ◌+◌, ◌<◌, ◌≤◌, ◌⊎◌, inl, inr, arith, List, [], ◌∷◌, ◌++◌, codes, length, take, drop, refl, sym, ap, ◌∙◌, Some, None, length-append, length-take}
use Rattle.std.proofs.lemmas.Bool.{cases_lt}
use Rattle.std.proofs.lemmas.List.{take-append-drop}
use Rattle.std.proofs.Math.Seq.{drop-append_seam}
use Rattle.memchr.specs.Find.{OccursAt, NoneBefore, FindsNeedle}
use Rattle.memchr.proofs.lemmas.MatchLemmas.{OccursAt-split, OccursAt-from_part}
use Rattle.etp_theory.specs.Trees.{Tree, Equation}
use Rattle.etp_words.specs.Words.{behind_word}
use Rattle.etp_lines.specs.Sides.{SpellsSide}
use Rattle.etp_lines.specs.RulesLines.{IsDivided, SaysRule}

-- an arrow stands behind these bytes
occurs_behind : (text before behind : List ℕ) → text ≡ before ++ (codes "->" ++ behind) → OccursAt text (codes "->") (length before)
occurs_behind text before behind e =
    OccursAt-from_part text (codes "->") (length before) (omega (arith, ap length e, length-append before (codes "->" ++ behind)))
    (ap (λ z. take 2 (drop (length before) z)) e ∙ ap (take 2) (drop-append_seam before (codes "->" ++ behind)))

taken_length : (k : ℕ) (text : List ℕ) → k + 2 ≤ length text → length (take k text) ≡ k
taken_length k text h = omega (arith, length-take k text, h)

not_later : (text before behind : List ℕ) (k : ℕ) → NoneBefore (OccursAt text (codes "->")) 0 (length text + 1) k → text ≡ before ++ (codes "->" ++ behind) → k ≤ length before
not_later text before behind k none e = by (cases_lt (length before) k)
  where
    by : (length before < k) ⊎ (k ≤ length before) → k ≤ length before
    by (inl l) = absurd (none.before (length before) (omega arith) l (occurs_behind text before behind e))
    by (inr l) = l

-- the place that was found divides the text
pub found_divides : (text : List ℕ) (k : ℕ) → FindsNeedle text (codes "->") 0 (Some k) → IsDivided text (take k text) (drop (k + 2) text)
found_divides text k h =
    let n : length (take k text) ≡ k = taken_length k text h.1.fits in
    record {
      whole = sym (take-append-drop k text) ∙ ap (λ z. take k text ++ z) (OccursAt-split text (codes "->") k h.1);
      first = λ before behind e. let l = not_later text before behind k h.0 e in omega (arith, n, l);
    }

pub none_found : (text left right : List ℕ) → FindsNeedle text (codes "->") 0 None → IsDivided text left right → ⊥
none_found text left right h d =
    let o = occurs_behind text left right d.whole in
    h (length left) (omega arith) (omega (arith, o.fits)) o

same_parts : (k l x y : List ℕ) → length k ≡ length l → k ++ x ≡ l ++ y → (k ≡ l) × (x ≡ y)
same_parts [] [] x y n e = (refl, e)
same_parts [] (b ∷ l) x y n e = absurd (omega (arith, n))
same_parts (a ∷ k) [] x y n e = absurd (omega (arith, n))
same_parts (a ∷ k) (b ∷ l) x y n e =
    let first : a ≡ b = head_same a b (k ++ x) (l ++ y) e in
    let on = same_parts k l x y (omega (arith, n)) (tail_same a b (k ++ x) (l ++ y) e) in
    (ap (λ z. z ∷ k) first ∙ ap (λ z. b ∷ z) on.0, on.1)
  where
    head_same : (a b : ℕ) (xs ys : List ℕ) → Path (List ℕ) (a ∷ xs) (b ∷ ys) → a ≡ b
    head_same a b xs ys e = cc

    tail_same : (a b : ℕ) (xs ys : List ℕ) → Path (List ℕ) (a ∷ xs) (b ∷ ys) → xs ≡ ys
    tail_same a b xs ys e = cc

-- a text has one first arrow
pub one_division : (text k l m n : List ℕ) → IsDivided text k l → IsDivided text m n → (k ≡ m) × (l ≡ n)
one_division text k l m n p q =
    let a = p.first m n q.whole in
    let b = q.first k l p.whole in
    let parts = same_parts k m (codes "->" ++ l) (codes "->" ++ n) (omega (arith, a, b)) (sym p.whole ∙ q.whole) in
    (parts.0, ap (drop 2) parts.1)

-- where the text before the arrow, or the one behind it, is no side, there is no rule
pub no_left : (line left right : List ℕ) → IsDivided (behind_word line) left right → ((t : Tree) → SpellsSide left t → ⊥) → (r : Equation) → SaysRule line r → ⊥
no_left line left right d none r s =
    let same = one_division (behind_word line) s.left s.right left right s.divided d in
    none r.left (rw same.0 at s.left_spelled)

pub no_right : (line left right : List ℕ) → IsDivided (behind_word line) left right → ((t : Tree) → SpellsSide right t → ⊥) → (r : Equation) → SaysRule line r → ⊥
no_right line left right d none r s =
    let same = one_division (behind_word line) s.left s.right left right s.divided d in
    none r.right (rw same.1 at s.right_spelled)
