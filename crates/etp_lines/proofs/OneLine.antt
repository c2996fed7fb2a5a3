-- A line says one thing, and a blank line nothing.
use Rattle.std.proofs.Common.{◌≡◌, ℕ, true, false, List, [], ◌∷◌, sym, ap, subst, ◌∙◌, Some, None, eqb-true}
use Rattle.etp_words.specs.Words.{words_of, is_comment, are_blank, IsBlankLine}
use Rattle.etp_reading.specs.Grammars.{OneLine}
use Rattle.etp_lines.specs.BodyLines.{Kind, of_proofs, of_tables, of_linear, of_matrices, of_rules, of_claims, kind_named, LineOf, Line, Says, bodies}
use Rattle.etp_lines.proofs.OneProofLine as Proofs
use Rattle.etp_lines.proofs.OneTableLine as Tables
use Rattle.etp_lines.proofs.OneLinearLine as Linears
use Rattle.etp_lines.proofs.OneMatrixLine as Matrices
use Rattle.etp_lines.proofs.OneRulesLine as Rules
use Rattle.etp_lines.proofs.OneClaimLine as Claims

some_none : (k : Kind) → Some k ≡ None → ⊥
some_none k e = cc

some_same : {A : Type 0} (a b : A) → Some a ≡ Some b → a ≡ b
some_same a b e = cc

-- the first word of a line that says something
pub record FirstWord (line : List ℕ) (kind : Kind) : Type 0 where
  pub word : List ℕ
  pub more : List (List ℕ)
  pub words : words_of line ≡ word ∷ more
  pub named : kind_named word ≡ Some kind

first_word : (line : List ℕ) (l : Line) → Says line l → FirstWord line l.0
first_word line (of_proofs, l) s =
    let begins = Proofs.begins line l s in
    record { word = Proofs.first_word l; more = begins.0; words = begins.1; named = Proofs.first_word_kind l }
first_word line (of_tables, l) s =
    let begins = Tables.begins line l s in
    record { word = Tables.first_word l; more = begins.0; words = begins.1; named = Tables.first_word_kind l }
first_word line (of_linear, l) s =
    let begins = Linears.begins line l s in
    record { word = Linears.first_word l; more = begins.0; words = begins.1; named = Linears.first_word_kind l }
first_word line (of_matrices, l) s =
    let begins = Matrices.begins line l s in
    record { word = Matrices.first_word l; more = begins.0; words = begins.1; named = Matrices.first_word_kind l }
first_word line (of_rules, l) s =
    let begins = Rules.begins line l s in
    record { word = Rules.first_word l; more = begins.0; words = begins.1; named = Rules.first_word_kind l }
first_word line (of_claims, l) s =
    let begins = Claims.begins line l s in
    record { word = Claims.first_word l; more = begins.0; words = begins.1; named = Claims.first_word_kind l }

one_word : (line u v : List ℕ) (m n : List (List ℕ)) → words_of line ≡ u ∷ m → words_of line ≡ v ∷ n → u ≡ v
one_word line u v m n p q = let e : (u ∷ m) ≡ (v ∷ n) = sym p ∙ q in cc

-- the first word tells the kind
one_kind : (line : List ℕ) (j k : Kind) → FirstWord line j → FirstWord line k → j ≡ k
one_kind line j k f h =
    some_same j k (sym f.named ∙ ap kind_named (one_word line f.word h.word f.more h.more f.words h.words) ∙ h.named)

-- where a line says nothing of the kind that its first word tells, it says nothing
pub none_of_kind : (line word : List ℕ) (more : List (List ℕ)) (k : Kind) → words_of line ≡ word ∷ more → kind_named word ≡ Some k
    → ((l : LineOf k) → Says line (k, l) → ⊥) → (l : Line) → Says line l → ⊥
none_of_kind line word more k w n none (j, l) s =
    let f = first_word line (j, l) s in
    let e : j ≡ k = one_kind line j k f (record { word = word; more = more; words = w; named = n }) in
    subst (λ (z : Kind). ((l : LineOf z) → Says line (z, l) → ⊥) → ⊥) e (λ no. no l s) none

-- where its first word tells no kind, it says nothing
pub none_named : (line word : List ℕ) (more : List (List ℕ)) → words_of line ≡ word ∷ more → kind_named word ≡ None → (l : Line) → Says line l → ⊥
none_named line word more w n l s =
    let f = first_word line l s in
    let e : word ≡ f.word = one_word line word f.word more f.more w f.words in
    some_none l.0 (sym f.named ∙ ap kind_named (sym e) ∙ n)

-- and so it is without a word
pub none_without : (line : List ℕ) → words_of line ≡ [] → (l : Line) → Says line l → ⊥
none_without line w l s = let f = first_word line l s in let e : f.word ∷ f.more ≡ [] = sym f.words ∙ w in cc

-- within a kind
one_of_kind : (line : List ℕ) (k : Kind) (l m : LineOf k) → Says line (k, l) → Says line (k, m) → Path Line (k, l) (k, m)
one_of_kind line of_proofs l m s t = ap (λ z. (of_proofs, z)) (Proofs.one_proof_line line l m s t)
one_of_kind line of_tables l m s t = ap (λ z. (of_tables, z)) (Tables.one_table_line line l m s t)
one_of_kind line of_linear l m s t = ap (λ z. (of_linear, z)) (Linears.one_linear_line line l m s t)
one_of_kind line of_matrices l m s t = ap (λ z. (of_matrices, z)) (Matrices.one_matrix_line line l m s t)
one_of_kind line of_rules l m s t = ap (λ z. (of_rules, z)) (Rules.one_rules_line line l m s t)
one_of_kind line of_claims l m s t = ap (λ z. (of_claims, z)) (Claims.one_claim_line line l m s t)

of_same_kind : (line : List ℕ) (j k : Kind) → j ≡ k → (l : LineOf j) (m : LineOf k) → Says line (j, l) → Says line (k, m) → Path Line (j, l) (k, m)
of_same_kind line j k e l m s t =
    subst (λ (z : Kind). (m : LineOf z) → Says line (z, m) → Path Line (j, l) (z, m)) e (λ n u. one_of_kind line j l n s u) m t

pub one_line : (line : List ℕ) (l m : Line) → Says line l → Says line m → l ≡ m
one_line line (j, l) (k, m) s t =
    of_same_kind line j k (one_kind line j k (first_word line (j, l) s) (first_word line (k, m) t)) l m s t

false_true : false ≡ true → ⊥
false_true e = cc

none_some : (k : Kind) → None ≡ Some k → ⊥
none_some k e = cc

-- a word of a kind begins no comment
no_comment : (word : List ℕ) (k : Kind) → kind_named word ≡ Some k → is_comment word ≡ true → ⊥
no_comment [] k n h = false_true h
no_comment (b ∷ bytes) k n h =
    let e : b ≡ 35 = eqb-true b 35 h in
    none_some k (sym (ap (λ c. kind_named (c ∷ bytes)) e) ∙ n)

pub blank_line : (line : List ℕ) (l : Line) → IsBlankLine line → Says line l → ⊥
blank_line line l b s = let f = first_word line l s in no_comment f.word l.0 f.named (sym (ap are_blank f.words) ∙ b)

pub one : OneLine bodies
one = record { one_line = one_line; blank_line = blank_line }
