-- A line of a table says one thing, and its first word tells its kind.
use Rattle.std.proofs.Common.{◌≡◌, ℕ, List, [], ◌∷◌, refl, sym, ap, ◌∙◌, arith, get_or, Some, codes}
use Rattle.etp_words.specs.Words.{words_of}
use Rattle.etp_words.specs.Numbers.{number_said}
use Rattle.etp_lines.specs.TableLines.{TableLine, table, row, SaysTable, SaysTableLine}
use Rattle.etp_lines.specs.BodyLines.{kind_named, of_tables}
use Rattle.etp_lines.proofs.OneClaimLine.{same_numbers}

some_same : {A : Type 0} (a b : A) → Some a ≡ Some b → a ≡ b
some_same a b e = cc

one_size : (line : List ℕ) (m n : ℕ) → SaysTable line m → SaysTable line n → m ≡ n
one_size line m n p q =
    let e : (codes "table" ∷ p.word ∷ []) ≡ (codes "table" ∷ q.word ∷ []) = sym p.words ∙ q.words in
    let f : p.word ≡ q.word = cc in
    some_same m n (sym p.said ∙ ap number_said f ∙ q.said)

table_no_row : (line : List ℕ) (m n : List (List ℕ)) → words_of line ≡ codes "table" ∷ m → words_of line ≡ codes "row" ∷ n → ⊥
table_no_row line m n p q =
    let e : (codes "table" ∷ m) ≡ (codes "row" ∷ n) = sym p ∙ q in
    let f : codes "table" ≡ codes "row" = cc in
    absurd (omega (arith, ap (λ w. get_or w 0 0) f))

pub one_table_line : (line : List ℕ) (l m : TableLine) → SaysTableLine line l → SaysTableLine line m → l ≡ m
one_table_line line (table m) (table n) p q = ap table (one_size line m n p q)
one_table_line line (row m) (row n) p q = ap row (same_numbers line (codes "row") (codes "row") m n p q)
one_table_line line (table m) (row n) p q = absurd (table_no_row line (p.word ∷ []) q.more p.words q.words)
one_table_line line (row m) (table n) p q = absurd (table_no_row line (q.word ∷ []) p.more q.words p.words)

-- the first word of a line that says this
abbrev pub first_word : TableLine → List ℕ
first_word (table size) = codes "table"
first_word (row entries) = codes "row"

pub begins : (line : List ℕ) (l : TableLine) → SaysTableLine line l → (more : List (List ℕ)) × (words_of line ≡ first_word l ∷ more)
begins line (table size) s = (s.word ∷ [], s.words)
begins line (row entries) s = (s.more, s.words)

pub first_word_kind : (l : TableLine) → kind_named (first_word l) ≡ Some of_tables
first_word_kind (table size) = refl
first_word_kind (row entries) = refl
