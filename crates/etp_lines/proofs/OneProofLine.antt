-- A line of a proof says one thing, and its first word tells its kind.
use Rattle.std.proofs.Common.{◌≡◌, ℕ, Bool, true, false, List, [], ◌∷◌, refl, sym, ap, ◌∙◌, arith, length, get_or, Option, Some, codes}
use Rattle.etp_theory.specs.Trees.{Tree}
use Rattle.etp_theory.specs.Positions.{Side}
use Rattle.etp_theory.specs.Proofs.{ProofStep}
use Rattle.etp_text.proofs.Answering.{same_term}
use Rattle.etp_words.specs.Words.{words_of, behind_word}
use Rattle.etp_words.specs.Numbers.{number_said}
use Rattle.etp_lines.specs.Sides.{SpellsSide}
use Rattle.etp_lines.specs.ProofLines.{Version, plain, citing, version_word, ProofLine, heading, cite, lemma, step, SaysHeading, SaysCite, SaysLemma, SaysStep, SaysProofLine, reference_of, reversed_of, position_named}
use Rattle.etp_lines.specs.BodyLines.{kind_named, of_proofs}

some_same : {A : Type 0} (a b : A) → Some a ≡ Some b → a ≡ b
some_same a b e = cc

two_named : {A : Type 0} (f : List ℕ → Option A) (u v : List ℕ) (a b : A) → u ≡ v → f u ≡ Some a → f v ≡ Some b → a ≡ b
two_named f u v a b e p q = some_same a b (sym p ∙ ap f e ∙ q)

pub one_side : (text : List ℕ) (s t : Tree) → SpellsSide text s → SpellsSide text t → s ≡ t
one_side text s t p q = same_term text s t p.spelled q.spelled

same_step : (s t : Tree) (m n : ℕ) (c d : Bool) (r q : Bool) (p o : List Side) → s ≡ t → m ≡ n → c ≡ d → r ≡ q → p ≡ o
    → Path ProofStep (record { to = s; line = m; cited = c; reversed = r; position = p }) (record { to = t; line = n; cited = d; reversed = q; position = o })
same_step s t m n c d r q p o e f g h i = cc

one_version : (v w : Version) → version_word v ≡ version_word w → v ≡ w
one_version plain plain e = refl
one_version plain citing e = absurd (omega (arith, ap length e))
one_version citing plain e = absurd (omega (arith, ap length e))
one_version citing citing e = refl

pub one_step : (line : List ℕ) (x y : ProofStep) → SaysStep line x → SaysStep line y → x ≡ y
one_step line x y s t =
    let words : (codes "step" ∷ s.reference ∷ s.direction ∷ s.position ∷ s.more) ≡ (codes "step" ∷ t.reference ∷ t.direction ∷ t.position ∷ t.more) = sym s.words ∙ t.words in
    let r : s.reference ≡ t.reference = cc in
    let d : s.direction ≡ t.direction = cc in
    let p : s.position ≡ t.position = cc in
    let by : Path (ℕ × Bool) (x.line, x.cited) (y.line, y.cited) = two_named reference_of s.reference t.reference (x.line, x.cited) (y.line, y.cited) r s.by t.by in
    same_step x.to y.to x.line y.line x.cited y.cited x.reversed y.reversed x.position y.position
    (one_side (behind_word (behind_word (behind_word (behind_word line)))) x.to y.to s.term t.term)
    (ap (λ q. q.0) by) (ap (λ q. q.1) by)
    (two_named reversed_of s.direction t.direction x.reversed y.reversed d s.read t.read)
    (two_named position_named s.position t.position x.position y.position p s.at t.at)

one_lemma : (line : List ℕ) (s t : Tree) → SaysLemma line s → SaysLemma line t → s ≡ t
one_lemma line s t p q = one_side (behind_word line) s t p.term q.term

one_cite : (line m n : List ℕ) → SaysCite line m → SaysCite line n → m ≡ n
one_cite line m n p q =
    let words : (codes "cite" ∷ m ∷ []) ≡ (codes "cite" ∷ n ∷ []) = sym p.words ∙ q.words in cc

one_heading : (line : List ℕ) (v w : Version) (e f g h : ℕ) → SaysHeading line v e f → SaysHeading line w g h → heading v e f ≡ heading w g h
one_heading line v w e f g h p q =
    let words : (version_word v ∷ p.first ∷ p.second ∷ []) ≡ (version_word w ∷ q.first ∷ q.second ∷ []) = sym p.words ∙ q.words in
    let a : version_word v ≡ version_word w = cc in
    let b : p.first ≡ q.first = cc in
    let c : p.second ≡ q.second = cc in
    let i : v ≡ w = one_version v w a in
    let j : e ≡ g = two_named number_said p.first q.first e g b p.from q.from in
    let k : f ≡ h = two_named number_said p.second q.second f h c p.to q.to in
    cc

-- the first word of a line that says this
abbrev pub first_word : ProofLine → List ℕ
first_word (heading v e f) = version_word v
first_word (cite name) = codes "cite"
first_word (lemma t) = codes "lemma"
first_word (step x) = codes "step"

pub begins : (line : List ℕ) (l : ProofLine) → SaysProofLine line l → (more : List (List ℕ)) × (words_of line ≡ first_word l ∷ more)
begins line (heading v e f) s = (s.first ∷ s.second ∷ [], s.words)
begins line (cite name) s = (name ∷ [], s.words)
begins line (lemma t) s = (s.more, s.words)
begins line (step x) s = (s.reference ∷ s.direction ∷ s.position ∷ s.more, s.words)

one_word : (line u v : List ℕ) (m n : List (List ℕ)) → words_of line ≡ u ∷ m → words_of line ≡ v ∷ n → u ≡ v
one_word line u v m n p q = let e : (u ∷ m) ≡ (v ∷ n) = sym p ∙ q in cc

one_first : (line : List ℕ) (l m : ProofLine) → SaysProofLine line l → SaysProofLine line m → first_word l ≡ first_word m
one_first line l m s t = let p = begins line l s in let q = begins line m t in one_word line (first_word l) (first_word m) p.0 q.0 p.1 q.1

-- the first letter of that word
abbrev pub letter : ProofLine → ℕ
letter (heading v e f) = 112
letter (cite name) = 99
letter (lemma t) = 108
letter (step x) = 115

letter_is : (l : ProofLine) → get_or (first_word l) 0 0 ≡ letter l
letter_is (heading plain e f) = refl
letter_is (heading citing e f) = refl
letter_is (cite name) = refl
letter_is (lemma t) = refl
letter_is (step x) = refl

one_letter : (line : List ℕ) (l m : ProofLine) → SaysProofLine line l → SaysProofLine line m → letter l ≡ letter m
one_letter line l m s t = sym (letter_is l) ∙ ap (λ w. get_or w 0 0) (one_first line l m s t) ∙ letter_is m

-- a line says one thing
pub one_proof_line : (line : List ℕ) (l m : ProofLine) → SaysProofLine line l → SaysProofLine line m → l ≡ m
one_proof_line line (heading v e f) (heading w g h) p q = one_heading line v w e f g h p q
one_proof_line line (heading v e f) (cite m) p q = absurd (omega (arith, one_letter line (heading v e f) (cite m) p q))
one_proof_line line (heading v e f) (lemma t) p q = absurd (omega (arith, one_letter line (heading v e f) (lemma t) p q))
one_proof_line line (heading v e f) (step y) p q = absurd (omega (arith, one_letter line (heading v e f) (step y) p q))
one_proof_line line (cite n) (heading w g h) p q = absurd (omega (arith, one_letter line (cite n) (heading w g h) p q))
one_proof_line line (cite n) (cite m) p q = ap cite (one_cite line n m p q)
one_proof_line line (cite n) (lemma t) p q = absurd (omega (arith, one_letter line (cite n) (lemma t) p q))
one_proof_line line (cite n) (step y) p q = absurd (omega (arith, one_letter line (cite n) (step y) p q))
one_proof_line line (lemma u) (heading w g h) p q = absurd (omega (arith, one_letter line (lemma u) (heading w g h) p q))
one_proof_line line (lemma u) (cite m) p q = absurd (omega (arith, one_letter line (lemma u) (cite m) p q))
one_proof_line line (lemma u) (lemma t) p q = ap lemma (one_lemma line u t p q)
one_proof_line line (lemma u) (step y) p q = absurd (omega (arith, one_letter line (lemma u) (step y) p q))
one_proof_line line (step x) (heading w g h) p q = absurd (omega (arith, one_letter line (step x) (heading w g h) p q))
one_proof_line line (step x) (cite m) p q = absurd (omega (arith, one_letter line (step x) (cite m) p q))
one_proof_line line (step x) (lemma t) p q = absurd (omega (arith, one_letter line (step x) (lemma t) p q))
one_proof_line line (step x) (step y) p q = ap step (one_step line x y p q)

-- the first word tells that it is the line of a proof
pub first_word_kind : (l : ProofLine) → kind_named (first_word l) ≡ Some of_proofs
first_word_kind (heading plain e f) = refl
first_word_kind (heading citing e f) = refl
first_word_kind (cite name) = refl
first_word_kind (lemma t) = refl
first_word_kind (step x) = refl

-- no step but the one by a cite
pub cited_only : (line : List ℕ) (x : ProofStep) → SaysStep line x → x.cited ≡ true → (y : ProofStep) → SaysStep line y → y.cited ≡ false → ⊥
cited_only line x s c y t d = let e = one_step line x y s t in cc
