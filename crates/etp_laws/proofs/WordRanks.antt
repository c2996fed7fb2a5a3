-- The rank of a word letter by letter, and the word of a rank.
use Rattle.std.proofs.Common.{◌≡◌, ℕ, ◌+◌, ◌-◌, ◌*◌, ◌/◌, ◌<◌, ◌≤◌, ◌⊎◌, inl, inr, ◌++◌, List, [], ◌∷◌, length, get_or, min, refl, sym, ◌∙◌, ap, subst, suc, zero, arith, append_assoc}
use Rattle.std.proofs.lemmas.Bool.{cases_lt}
use Rattle.std.proofs.lemmas.List.{append-nil}
use Rattle.std.proofs.Math.Nat.{div-mul-le_self, lt-div-mul-add}
use Rattle.etp_laws.specs.Occurrences.{Grows}
use Rattle.etp_laws.specs.Enumeration.{used_after, words}
use Rattle.etp_laws.specs.Places.{words_count, rank, unrank}
use Rattle.etp_laws.proofs.WordLemmas.{used_after-old, used_after-new}
use Rattle.etp_laws.proofs.Counting.{times_le, words-rank}
use Rattle.etp_laws.proofs.CountLemmas.{words_count-some, small_words}

-- what is known of a letter of the word of a rank
record Letter (c d used rest v : ℕ) : Type 0 where
  small : v ≤ used
  before : v * c ≤ rest
  old : v < used → rest - v * c < c
  new : v ≡ used → rest - v * c < d

letter : (c d used rest : ℕ) → 0 < c → rest < used * c + d → Letter c d used rest (min (rest / c) used)
letter c d used rest some h = one (min (rest / c) used) least least_used is
  where
    least : min (rest / c) used ≤ rest / c
    least = omega arith

    least_used : min (rest / c) used ≤ used
    least_used = omega arith

    is : min (rest / c) used < used → min (rest / c) used ≡ rest / c
    is l = omega arith

    one : (v : ℕ) → v ≤ rest / c → v ≤ used → (v < used → v ≡ rest / c) → Letter c d used rest v
    one v a b e =
        let below : v * c ≤ rest / c * c = times_le v (rest / c) c a in
        let whole = div-mul-le_self rest c in
        let within : v * c ≤ rest = omega arith in
        record {
          small = b;
          before = within;
          old = λ l. let next = lt-div-mul-add {a = rest} {b = c} some in let same : v * c ≡ rest / c * c = ap (λ x. x * c) (e l) in omega arith;
          new = λ k. let same : v * c ≡ used * c = ap (λ x. x * c) k in omega arith;
        }

-- the letter and what is left after it
pub record Unranked (n used rest : ℕ) : Type 0 where
  pub small : min (rest / words_count n used) used ≤ used
  pub before : min (rest / words_count n used) used * words_count n used ≤ rest
  pub within : rest - min (rest / words_count n used) used * words_count n used < words_count n (used_after used (min (rest / words_count n used) used))

pub unranked : (n used rest : ℕ) → rest < used * words_count n used + words_count n (used + 1) → Unranked n used rest
unranked n used rest h =
    let l = letter (words_count n used) (words_count n (used + 1)) used rest (words_count-some n used) h in
    record { small = l.small; before = l.before; within = by_cases l (cases_lt (min (rest / words_count n used) used) used) }
  where
    by_cases : Letter (words_count n used) (words_count n (used + 1)) used rest (min (rest / words_count n used) used) → ((min (rest / words_count n used) used < used) ⊎ (used ≤ min (rest / words_count n used) used)) → rest - min (rest / words_count n used) used * words_count n used < words_count n (used_after used (min (rest / words_count n used) used))
    by_cases l (inl k) = subst (λ u. rest - min (rest / words_count n used) used * words_count n used < words_count n u) (sym (used_after-old used (min (rest / words_count n used) used) k)) (l.old k)
    by_cases l (inr k) =
        let s = l.small in
        let e : min (rest / words_count n used) used ≡ used = omega arith in
        subst (λ u. rest - min (rest / words_count n used) used * words_count n used < words_count n u) (sym (used_after-new used (min (rest / words_count n used) used) e)) (l.new e)

-- the word of a rank grows, and has the rank
record HasRank (n used i : ℕ) : Type 0 where
  grows : Grows used (unrank n used i)
  long : length (unrank n used i) ≡ n
  at : rank used (unrank n used i) ≡ i

has_rank : (n used i : ℕ) → i < words_count n used → HasRank n used i
has_rank zero used i h = record { grows = tt; long = refl; at = omega arith }
has_rank (suc n) used i h = one (unranked n used i h) (has_rank n (used_after used (min (i / words_count n used) used)) (i - min (i / words_count n used) used * words_count n used) (unranked n used i h).within)
  where
    v : ℕ
    v = min (i / words_count n used) used

    w : List ℕ
    w = unrank n (used_after used v) (i - v * words_count n used)

    grown : v ≤ used → Grows (used_after used v) w → ((v < used) ⊎ (used ≤ v)) → Grows used (v ∷ w)
    grown s g (inl k) = inl (k, subst (λ u. Grows u w) (used_after-old used v k) g)
    grown s g (inr k) = let e : v ≡ used = omega arith in inr (e, subst (λ u. Grows u w) (used_after-new used v e) g)

    one : Unranked n used i → HasRank n (used_after used v) (i - v * words_count n used) → HasRank (suc n) used i
    one u r = record {
      grows = grown u.small r.grows (cases_lt v used);
      long = ap suc r.long;
      at = (λ d. v * words_count (r.long d) used + r.at d) ∙ (let b = u.before in omega arith);
    }

-- the word of a rank stands at it
pub unrank-is : (n i : ℕ) → i < words_count n 0 → unrank n 0 i ≡ get_or (words n 0) i []
unrank-is n i h =
    let r = has_rank n 0 i h in
    sym (words-rank (unrank n 0 i) 0 r.grows).is ∙ (λ d. get_or (words (r.long d) 0) (r.at d) [])

pub unrank_more : (m n used rest : ℕ) → m ≡ n + 1 → unrank m used rest ≡ min (rest / words_count n used) used ∷ unrank n (used_after used (min (rest / words_count n used) used)) (rest - min (rest / words_count n used) used * words_count n used)
unrank_more m n used rest e = let next : m ≡ suc n = omega arith in ap (λ k. unrank k used rest) next

pub within_more : (m n used rest : ℕ) → m ≡ n + 1 → rest < words_count m used → rest < used * words_count n used + words_count n (used + 1)
within_more m n used rest e h = let next : m ≡ suc n = omega arith in subst (λ k. rest < words_count k used) next h

pub rank-below : (w : List ℕ) → Grows 0 w → rank 0 w < words_count (length w) 0
rank-below w g = (words-rank w 0 g).below

-- what one letter more leaves
pub record NextLetter (done : List ℕ) (leaves i rest place count v used used' : ℕ) : Type 0 where
  pub word : (done ++ v ∷ []) ++ unrank (leaves - (i + 1)) used' (rest - v * count) ≡ unrank leaves 0 place
  pub within : rest - v * count < words_count (leaves - (i + 1)) used'

pub next_letter : (done : List ℕ) (leaves i rest place count v used used' : ℕ) → i < leaves → done ++ unrank (leaves - i) used rest ≡ unrank leaves 0 place → rest < words_count (leaves - i) used → count ≡ words_count (leaves - 1 - i) used → v ≡ min (rest / count) used → used' ≡ used_after used v → NextLetter done leaves i rest place count v used used'
next_letter done leaves i rest place count v used used' lt so_far h ec ev eu =
    let n : ℕ = leaves - (i + 1) in
    let m : leaves - i ≡ n + 1 = omega arith in
    let fewer : leaves - 1 - i ≡ n = omega arith in
    let ec' : count ≡ words_count n used = ec ∙ ap (λ k. words_count k used) fewer in
    let ev' : v ≡ min (rest / words_count n used) used = ev ∙ ap (λ k. min (rest / k) used) ec' in
    let eu' : used' ≡ used_after used (min (rest / words_count n used) used) = eu ∙ ap (used_after used) ev' in
    let u = unranked n used rest (within_more (leaves - i) n used rest m h) in
    let w = u.within in
    let left : rest - v * count ≡ rest - min (rest / words_count n used) used * words_count n used = λ d. rest - ev' d * ec' d in
    let right : words_count n used' ≡ words_count n (used_after used (min (rest / words_count n used) used)) = ap (words_count n) eu' in
    record {
      word =
          append_assoc done (v ∷ []) (unrank n used' (rest - v * count))
          ∙ (λ d. done ++ (ev' d ∷ unrank n (eu' d) (left d)))
          ∙ ap (λ k. done ++ k) (sym (unrank_more (leaves - i) n used rest m)) ∙ so_far;
      within = omega arith;
    }

pub last_letter : (done : List ℕ) (leaves i used rest place : ℕ) → leaves ≤ i → done ++ unrank (leaves - i) used rest ≡ unrank leaves 0 place → place < words_count leaves 0 → done ≡ get_or (words leaves 0) place []
last_letter done leaves i used rest place past so_far h =
    let none : leaves - i ≡ 0 = omega arith in
    sym (append-nil done) ∙ ap (λ k. done ++ unrank k used rest) (sym none) ∙ so_far ∙ unrank-is leaves place h

pub rank-small : (w : List ℕ) → Grows 0 w → length w ≤ 7 → rank 0 w ≤ 877
rank-small w g h = let a = rank-below w g in let b = small_words (length w) h in omega arith

pub rank-within : (w : List ℕ) (n : ℕ) → Grows 0 w → length w ≡ n → rank 0 w < words_count n 0
rank-within w n g e = subst (λ k. rank 0 w < words_count k 0) e (rank-below w g)
