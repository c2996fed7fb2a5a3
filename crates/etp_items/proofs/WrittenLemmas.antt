-- Written lines, one more at a time.
use Rattle.std.proofs.Common.{◌≡◌, ℕ, ◌+◌, ◌<◌, add-one, arith, Bool, true, false, not, ◌||◌, List, [], ◌∷◌, ◌++◌, length, take, get_or, map, refl, sym, ap, ◌∙◌, append_assoc, append-nil}
use Rattle.std.proofs.Math.Seq.{take-suc}
use Rattle.std.specs.List.{list_any}
use Rattle.etp_term.specs.Positions.{side_of, position_of}
use Rattle.etp_term.specs.declared.position.Side.{Side}
use Rattle.etp_proof.specs.Lemmas.{step_of, lemma_of}
use Rattle.etp_proof.specs.declared.proof.Step.{Step}
use Rattle.etp_proof.specs.declared.proof.Lemma as Program
use Rattle.etp_lines.specs.ProofLines.{ProofLine, lemma, step}
use Rattle.etp_items.specs.Reading.{lemma_lines}
use Rattle.etp_items.specs.Written.{written_proof_line, written_proof_lines, side_letter, position_word, is_cited, has_cited, is_empty}
use Rattle.etp_lines.proofs.SideLemmas.{map_end}
use Rattle.etp_items.proofs.WorkLemmas.{lines_end}

pub written_append : (xs ys : List ProofLine) → written_proof_lines (xs ++ ys) ≡ written_proof_lines xs ++ written_proof_lines ys
written_append [] ys = refl
written_append (x ∷ xs) ys =
    ap (λ z. written_proof_line x ++ 10 ∷ z) (written_append xs ys) ∙ sym (append_assoc (written_proof_line x) (10 ∷ written_proof_lines xs) (written_proof_lines ys))

taken : {A B : Type 0} (f : A → B) (xs : List A) (i : ℕ) (x : A) → i < length xs → x ≡ get_or xs i x → map f (take (i + 1) xs) ≡ map f (take i xs) ++ f x ∷ []
taken f xs i x h e =
    ap (λ (n : ℕ). map f (take n xs)) (add-one i) ∙ ap (map f) (take-suc xs i x h) ∙ map_end f (take i xs) (get_or xs i x) ∙ ap (λ y. map f (take i xs) ++ f y ∷ []) (sym e)

grown : (s t u v w : List ℕ) → t ≡ s ++ u → w ≡ u ++ v → t ++ v ≡ s ++ w
grown s t u v w e f = ap (λ z. z ++ v) e ∙ append_assoc s u v ∙ ap (λ z. s ++ z) (sym f)

pub more_lines : {A : Type 0} (f : A → ProofLine) (xs : List A) (i : ℕ) (x : A) (s t : List ℕ) → i < length xs → x ≡ get_or xs i x → t ≡ s ++ written_proof_lines (map f (take i xs))
    → t ++ written_proof_lines (f x ∷ []) ≡ s ++ written_proof_lines (map f (take (i + 1) xs))
more_lines f xs i x s t h e k =
    grown s t (written_proof_lines (map f (take i xs))) (written_proof_lines (f x ∷ [])) (written_proof_lines (map f (take (i + 1) xs))) k
    (ap written_proof_lines (taken f xs i x h e) ∙ written_append (map f (take i xs)) (f x ∷ []))

pub more_steps : (xs : List Step) (i : ℕ) (x : Step) (s t : List ℕ) → i < length xs → x ≡ get_or xs i x → t ≡ s ++ written_proof_lines (map step (map step_of (take i xs)))
    → t ++ written_proof_lines (step (step_of x) ∷ []) ≡ s ++ written_proof_lines (map step (map step_of (take (i + 1) xs)))
more_steps xs i x s t h e k =
    grown s t (written_proof_lines (map step (map step_of (take i xs)))) (written_proof_lines (step (step_of x) ∷ [])) (written_proof_lines (map step (map step_of (take (i + 1) xs)))) k
    (ap (λ ys. written_proof_lines (map step ys)) (taken step_of xs i x h e) ∙ ap written_proof_lines (map_end step (map step_of (take i xs)) (step_of x))
    ∙ written_append (map step (map step_of (take i xs))) (step (step_of x) ∷ []))

pub more_lemmas : (xs : List Program.Lemma) (i : ℕ) (x : Program.Lemma) (s t : List ℕ) → i < length xs → x ≡ get_or xs i x → t ≡ s ++ written_proof_lines (lemma_lines (map lemma_of (take i xs)))
    → t ++ written_proof_lines (lemma_lines (lemma_of x ∷ [])) ≡ s ++ written_proof_lines (lemma_lines (map lemma_of (take (i + 1) xs)))
more_lemmas xs i x s t h e k =
    grown s t (written_proof_lines (lemma_lines (map lemma_of (take i xs)))) (written_proof_lines (lemma_lines (lemma_of x ∷ []))) (written_proof_lines (lemma_lines (map lemma_of (take (i + 1) xs)))) k
    (ap (λ ls. written_proof_lines (lemma_lines ls)) (taken lemma_of xs i x h e) ∙ ap written_proof_lines (lines_end (map lemma_of (take i xs)) (lemma_of x))
    ∙ written_append (lemma_lines (map lemma_of (take i xs))) (lemma_lines (lemma_of x ∷ [])))

-- a lemma is its start and its steps
pub one_lemma : (x : Program.Lemma) (s t u : List ℕ) → t ≡ s ++ written_proof_lines (lemma (lemma_of x).start ∷ []) → u ≡ t ++ written_proof_lines (map step (map step_of x.steps)) → u ≡ s ++ written_proof_lines (lemma_lines (lemma_of x ∷ []))
one_lemma x s t u e f =
    f ∙ ap (λ z. z ++ written_proof_lines (map step (map step_of x.steps))) e
    ∙ append_assoc s (written_proof_lines (lemma (lemma_of x).start ∷ [])) (written_proof_lines (map step (map step_of x.steps)))
    ∙ ap (λ z. s ++ z) (sym (written_append (lemma (lemma_of x).start ∷ []) (map step (map step_of x.steps))) ∙ ap (λ z. written_proof_lines (lemma (lemma_of x).start ∷ z)) (sym (append-nil (map step (map step_of x.steps)))))

pub more_sides : (xs : List Side) (i : ℕ) (x : Side) (s t : List ℕ) → i < length xs → x ≡ get_or xs i x → t ≡ s ++ map side_letter (position_of (take i xs))
    → t ++ side_letter (side_of x) ∷ [] ≡ s ++ map side_letter (position_of (take (i + 1) xs))
more_sides xs i x s t h e k =
    grown s t (map side_letter (position_of (take i xs))) (side_letter (side_of x) ∷ []) (map side_letter (position_of (take (i + 1) xs))) k
    (ap (map side_letter) (taken side_of xs i x h e) ∙ map_end side_letter (position_of (take i xs)) (side_of x))

pub some_sides : (xs : List Side) → (xs ≡ [] → ⊥) → map side_letter (position_of xs) ≡ position_word (position_of xs)
some_sides [] h = absurd (h refl)
some_sides (x ∷ xs) h = refl

any_steps : (xs : List Step) → list_any is_cited (map step_of xs) ≡ list_any (λ (x : Step). x.cited) xs
any_steps [] = refl
any_steps (x ∷ xs) = ap (λ b. x.cited || b) (any_steps xs)

pub any_lemmas : (xs : List Program.Lemma) → list_any has_cited (map lemma_of xs) ≡ list_any (λ (l : Program.Lemma). list_any (λ (x : Step). x.cited) l.steps) xs
any_lemmas [] = refl
any_lemmas (l ∷ xs) = ap (λ b. b || list_any has_cited (map lemma_of xs)) (any_steps l.steps) ∙ ap (λ b. list_any (λ (x : Step). x.cited) l.steps || b) (any_lemmas xs)

pub some_cites : (names : List (List ℕ)) → 0 < length names → is_empty names ≡ false
some_cites [] h = absurd (omega (arith, h))
some_cites (n ∷ names) h = refl

pub no_cites : (names : List (List ℕ)) → length names ≡ 0 → is_empty names ≡ true
no_cites [] h = refl
no_cites (n ∷ names) h = absurd (omega (arith, h))

pub whole_text : (h : ProofLine) (cs ls : List ProofLine) (t u v w : List ℕ) → t ≡ [] → u ≡ t ++ written_proof_lines (h ∷ []) → v ≡ u ++ written_proof_lines cs → w ≡ v ++ written_proof_lines ls → w ≡ written_proof_lines (h ∷ (cs ++ ls))
whole_text h cs ls t u v w none e f g =
    g ∙ ap (λ z. z ++ written_proof_lines ls) (f ∙ ap (λ z. z ++ written_proof_lines cs) (e ∙ ap (λ z. z ++ written_proof_lines (h ∷ [])) none) ∙ sym (written_append (h ∷ []) cs)) ∙ sym (written_append (h ∷ cs) ls)

pub citing_is : (names : List (List ℕ)) (ls xs : List Program.Lemma) (b : Bool) → length names ≡ 0 → ls ≡ xs → b ≡ list_any (λ (l : Program.Lemma). list_any (λ (x : Step). x.cited) l.steps) ls
    → b ≡ (not (is_empty names) || list_any has_cited (map lemma_of xs))
citing_is names ls xs b none same e =
    e ∙ ap (list_any (λ (l : Program.Lemma). list_any (λ (x : Step). x.cited) l.steps)) same ∙ sym (any_lemmas xs) ∙ ap (λ z. not z || list_any has_cited (map lemma_of xs)) (sym (no_cites names none))
