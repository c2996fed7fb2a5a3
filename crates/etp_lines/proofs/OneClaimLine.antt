-- A line of claims says one thing, and its first word tells its kind.
use Rattle.std.proofs.Common.{◌≡◌, ℕ, List, ◌∷◌, refl, sym, ap, ◌∙◌, arith, get_or, Some, codes}
use Rattle.etp_words.specs.Words.{words_of}
use Rattle.etp_lines.specs.Claims.{numbers_said, SaysNumbers, ClaimLine, holds, fails, SaysClaimLine}
use Rattle.etp_lines.specs.BodyLines.{kind_named, of_claims}

some_same : {A : Type 0} (a b : A) → Some a ≡ Some b → a ≡ b
some_same a b e = cc

pub same_numbers : (line u v m n : List ℕ) → SaysNumbers line u m → SaysNumbers line v n → m ≡ n
same_numbers line u v m n p q =
    let e : (u ∷ p.more) ≡ (v ∷ q.more) = sym p.words ∙ q.words in
    let f : p.more ≡ q.more = cc in
    some_same m n (sym p.said ∙ ap numbers_said f ∙ q.said)

pub same_first : (line u v m n : List ℕ) → SaysNumbers line u m → SaysNumbers line v n → u ≡ v
same_first line u v m n p q = let e : (u ∷ p.more) ≡ (v ∷ q.more) = sym p.words ∙ q.words in cc

holds_no_fails : codes "holds" ≡ codes "fails" → ⊥
holds_no_fails e = absurd (omega (arith, ap (λ w. get_or w 0 0) e))

pub one_claim_line : (line : List ℕ) (l m : ClaimLine) → SaysClaimLine line l → SaysClaimLine line m → l ≡ m
one_claim_line line (holds m) (holds n) p q = ap holds (same_numbers line (codes "holds") (codes "holds") m n p.says q.says)
one_claim_line line (fails m) (fails n) p q = ap fails (same_numbers line (codes "fails") (codes "fails") m n p.says q.says)
one_claim_line line (holds m) (fails n) p q = absurd (holds_no_fails (same_first line (codes "holds") (codes "fails") m n p.says q.says))
one_claim_line line (fails m) (holds n) p q = absurd (holds_no_fails (sym (same_first line (codes "fails") (codes "holds") m n p.says q.says)))

-- the first word of a line that says this
abbrev pub first_word : ClaimLine → List ℕ
first_word (holds numbers) = codes "holds"
first_word (fails numbers) = codes "fails"

pub begins : (line : List ℕ) (l : ClaimLine) → SaysClaimLine line l → (more : List (List ℕ)) × (words_of line ≡ first_word l ∷ more)
begins line (holds numbers) s = (s.says.more, s.says.words)
begins line (fails numbers) s = (s.says.more, s.says.words)

pub first_word_kind : (l : ClaimLine) → kind_named (first_word l) ≡ Some of_claims
first_word_kind (holds numbers) = refl
first_word_kind (fails numbers) = refl
