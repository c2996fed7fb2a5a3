-- The written lines of a magma and its claims say what they were written of.
use Rattle.std.proofs.Common.{◌≡◌, ℕ, ◌+◌, ◌*◌, ◌<◌, ◌≤◌, ◌^◌, arith, true, List, [], ◌∷◌, ◌++◌, length, map, codes, decimal, refl, ap, ◌∙◌, inr, Some, append-nil, length-append, suc-mul}
use Rattle.std.specs.List.{list_all, AllByRecursion}
use Rattle.std.proofs.lemmas.Fmt.{length-decimal-le}
use Rattle.etp_words.specs.Words.{words_of}
use Rattle.etp_reading.specs.Reading.{Reads}
use Rattle.etp_matrix.specs.declared.parts.Part.{Part}
use Rattle.etp_matrix.specs.declared.parts.Part.TheVariants.{A, B, C}
use Rattle.etp_lines.specs.TableLines.{table, row}
use Rattle.etp_lines.specs.MatrixLines as Matrices
use Rattle.etp_lines.specs.MatrixLines.{part_word}
use Rattle.etp_lines.specs.RulesLines as Systems
use Rattle.etp_lines.specs.Claims.{holds, fails, numbers_said, SaysNumbers}
use Rattle.etp_lines.specs.BodyLines.{Line, of_proofs, of_tables, of_linear, of_matrices, of_rules, of_claims, Place, Says, after, bodies}
use Rattle.etp_items.specs.Written.{written_proof_line, spaced_behind, written_numbers, written_table_line, written_linear, written_matrix_line, written_rules_line, written_claim_line, IsWritableLinear, IsWritableRule, IsShortRule}
use Rattle.etp_items.proofs.ReadBack.{joined, is_text, graph_text, IsWord, words_front, words_last, decimal_number, decimal_word}
use Rattle.etp_items.proofs.LinearLemmas.{linear_back, linear_text}
use Rattle.etp_items.proofs.RuleLineBack.{rule_back, rule_text}
use Rattle.etp_items.proofs.TextLines.{as_given, IsTextLine}

-- numbers below 2^32
abbrev pub Small : ℕ → Type 0
Small n = n < 2 ^ 32

words_spaced : (w : List ℕ) → IsWord w → (ns : List ℕ) → AllByRecursion Small ns → words_of (w ++ spaced_behind ns) ≡ w ∷ map decimal ns
words_spaced w h [] small = ap words_of (append-nil w) ∙ words_last w h
words_spaced w h (n ∷ ns) small =
    words_front w (decimal n ++ spaced_behind ns) h ∙ ap (λ z. w ∷ z) (words_spaced (decimal n) (decimal_word n small.0) ns small.1)

decimals_said : (ns : List ℕ) → AllByRecursion Small ns → numbers_said (map decimal ns) ≡ Some ns
decimals_said [] small = refl
decimals_said (n ∷ ns) small = rw (decimal_number n small.0, decimals_said ns small.1) refl

pub numbers_back : (word ns : List ℕ) → IsWord word → AllByRecursion Small ns → SaysNumbers (written_numbers word ns) word ns
numbers_back word ns h small = record { more = map decimal ns; words = words_spaced word h ns small; said = decimals_said ns small }

spaced_text : (ns : List ℕ) → AllByRecursion Small ns → list_all is_text (spaced_behind ns) ≡ true
spaced_text [] small = refl
spaced_text (n ∷ ns) small = joined is_text (decimal n) (spaced_behind ns) (graph_text (decimal n) (decimal_word n small.0).graph) (spaced_text ns small.1)

spaced_length : (ns : List ℕ) → AllByRecursion Small ns → length (spaced_behind ns) ≤ length ns * 11
spaced_length [] small = omega arith
spaced_length (n ∷ ns) small =
    let one : length (decimal n) ≤ 10 = length-decimal-le 10 n (omega arith) (omega (arith, small.0)) (omega (arith, small.0)) in
    let on = spaced_length ns small.1 in
    let many : length (n ∷ ns) * 11 ≡ length ns * 11 + 11 = suc-mul (length ns) 11 in
    omega (arith, length-append (decimal n) (spaced_behind ns))

-- a line of few numbers is short plain text
numbers_text : (word ns : List ℕ) → IsWord word → length word ≤ 6 → length ns ≤ 255 → AllByRecursion Small ns
    → (list_all is_text (written_numbers word ns) ≡ true) × (length (written_numbers word ns) ≤ 4096)
numbers_text word ns h short few small = (
  joined is_text word (spaced_behind ns) (graph_text word h.graph) (spaced_text ns small),
  omega (arith, length-append word (spaced_behind ns), spaced_length ns small),
)

table_word : IsWord (codes "table")
table_word = record { some = omega arith; graph = refl }

row_word : IsWord (codes "row")
row_word = record { some = omega arith; graph = refl }

matrix_word : IsWord (codes "matrix")
matrix_word = record { some = omega arith; graph = refl }

part_is_word : (p : Part) → IsWord (part_word p)
part_is_word A = record { some = omega arith; graph = refl }
part_is_word B = record { some = omega arith; graph = refl }
part_is_word C = record { some = omega arith; graph = refl }

part_short : (p : Part) → length (part_word p) ≤ 6
part_short A = omega arith
part_short B = omega arith
part_short C = omega arith

rules_word : IsWord (codes "rules")
rules_word = record { some = omega arith; graph = refl }

weight_word : IsWord (codes "weight")
weight_word = record { some = omega arith; graph = refl }

holds_word : IsWord (codes "holds")
holds_word = record { some = omega arith; graph = refl }

fails_word : IsWord (codes "fails")
fails_word = record { some = omega arith; graph = refl }

-- each line by its words
abbrev pub written_any : Line → List ℕ
written_any (of_proofs, said) = written_proof_line said
written_any (of_tables, said) = written_table_line said
written_any (of_linear, said) = written_linear said
written_any (of_matrices, said) = written_matrix_line said
written_any (of_rules, said) = written_rules_line said
written_any (of_claims, said) = written_claim_line said

-- a line of numbers that are small and not too many, or of a magma that can be written
abbrev pub IsFewLine : Line → Type 0
IsFewLine (of_proofs, said) = ⊥
IsFewLine (of_tables, table size) = Small size
IsFewLine (of_tables, row entries) = (length entries ≤ 255) × AllByRecursion Small entries
IsFewLine (of_linear, l) = IsWritableLinear l
IsFewLine (of_matrices, Matrices.matrix modulus size) = Small modulus × Small size
IsFewLine (of_matrices, Matrices.row part entries) = (length entries ≤ 255) × AllByRecursion Small entries
IsFewLine (of_rules, Systems.rules) = Unit {0}
IsFewLine (of_rules, Systems.weight on_left on_right added) = Small on_left × Small on_right × Small added
IsFewLine (of_rules, Systems.rule r) = IsWritableRule r × IsShortRule r
IsFewLine (of_claims, holds numbers) = (0 < length numbers) × (length numbers ≤ 255) × AllByRecursion Small numbers
IsFewLine (of_claims, fails numbers) = (0 < length numbers) × (length numbers ≤ 255) × AllByRecursion Small numbers

few_text : (l : Line) → IsFewLine l → IsTextLine written_any l
few_text (of_proofs, said) h = absurd h
few_text (of_tables, table size) h = numbers_text (codes "table") (size ∷ []) table_word (omega arith) (omega arith) (h, tt)
few_text (of_tables, row entries) h = numbers_text (codes "row") entries row_word (omega arith) h.0 h.1
few_text (of_linear, l) h = linear_text l h
few_text (of_matrices, Matrices.matrix modulus size) h = numbers_text (codes "matrix") (modulus ∷ size ∷ []) matrix_word (omega arith) (omega arith) (h.0, (h.1, tt))
few_text (of_matrices, Matrices.row part entries) h = numbers_text (part_word part) entries (part_is_word part) (part_short part) h.0 h.1
few_text (of_rules, Systems.rules) h = (refl, omega arith)
few_text (of_rules, Systems.weight on_left on_right added) h =
    numbers_text (codes "weight") (on_left ∷ on_right ∷ added ∷ []) weight_word (omega arith) (omega arith) (h.0, (h.1, (h.2, tt)))
few_text (of_rules, Systems.rule r) h = (rule_text r h.0, h.1)
few_text (of_claims, holds numbers) h = numbers_text (codes "holds") numbers holds_word (omega arith) h.1 h.2
few_text (of_claims, fails numbers) h = numbers_text (codes "fails") numbers fails_word (omega arith) h.1 h.2

pub few_texts : (ls : List Line) → AllByRecursion IsFewLine ls → AllByRecursion (IsTextLine written_any) ls
few_texts [] h = tt
few_texts (l ∷ ls) h = (few_text l h.0, few_texts ls h.1)

not_empty : (ns : List ℕ) → 0 < length ns → ns ≡ [] → ⊥
not_empty [] h e = omega (arith, h)
not_empty (n ∷ ns) h e = cc

few_back : (l : Line) → IsFewLine l → Says (written_any l) l
few_back (of_proofs, said) h = absurd h
few_back (of_tables, table size) h =
    let s = numbers_back (codes "table") (size ∷ []) table_word (h, tt) in
    record { word = decimal size; words = words_spaced (codes "table") table_word (size ∷ []) (h, tt); said = decimal_number size h }
few_back (of_tables, row entries) h = numbers_back (codes "row") entries row_word h.1
few_back (of_linear, l) h = linear_back l h
few_back (of_matrices, Matrices.matrix modulus size) h = record {
  first = decimal modulus;
  second = decimal size;
  words = words_spaced (codes "matrix") matrix_word (modulus ∷ size ∷ []) (h.0, (h.1, tt));
  modulus_said = decimal_number modulus h.0;
  size_said = decimal_number size h.1;
}
few_back (of_matrices, Matrices.row part entries) h = numbers_back (part_word part) entries (part_is_word part) h.1
few_back (of_rules, Systems.rules) h = words_last (codes "rules") rules_word
few_back (of_rules, Systems.weight on_left on_right added) h = record {
  first = decimal on_left;
  second = decimal on_right;
  third = decimal added;
  words = words_spaced (codes "weight") weight_word (on_left ∷ on_right ∷ added ∷ []) (h.0, (h.1, (h.2, tt)));
  left_said = decimal_number on_left h.0;
  right_said = decimal_number on_right h.1;
  added_said = decimal_number added h.2;
}
few_back (of_rules, Systems.rule r) h = rule_back r h.0
few_back (of_claims, holds numbers) h = record { says = numbers_back (codes "holds") numbers holds_word h.2; some = not_empty numbers h.0 }
few_back (of_claims, fails numbers) h = record { says = numbers_back (codes "fails") numbers fails_word h.2; some = not_empty numbers h.0 }

-- written lines are read, one after another
pub reads_one : (p next q : Place) (l : Line) (ls : List Line) → IsFewLine l → after p l ≡ Some next → Reads bodies next (as_given written_any ls) ls q → Reads bodies p (as_given written_any (l ∷ ls)) (l ∷ ls) q
reads_one p next q l ls h a r = inr (l, next, ls, few_back l h, a, r, refl)
