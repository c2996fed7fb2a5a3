-- The lines of the printed ledger.
use Rattle.std.proofs.Common.{◌≡◌, inl, inr, ℕ, ◌≤◌, List, [], ◌∷◌, ◌++◌, Bool, true, false, length, map, codes, nat_eq, refl, sym, ap, ap₂, ◌∙◌, append_assoc, length-append, arith, eqb-true}
use Rattle.std.specs.List.{list_all, AllByRecursion}
use Rattle.etp_io.specs.Texts.{LineText, whole, too_long, lines_of, to_last_newline}
use Rattle.etp_io.proofs.LineLemmas.{to_last_newline-cut}
use Rattle.etp_io.proofs.CallLemmas.{lines_of-append}
use Rattle.etp_words.specs.Words.{words_of, is_word, are_blank}
use Rattle.etp_proof.specs.Names.{IsName}
use Rattle.etp_reading.specs.Reading.{Reads}
use Rattle.etp_lines.specs.TableLines as Tables
use Rattle.etp_lines.specs.TableLines.{row}
use Rattle.etp_lines.specs.BodyLines.{Line, Place, bodies}
use Rattle.etp_lines.specs.RulesLines.{system_lines}
use Rattle.etp_lines.proofs.OneLine.{none_named}
use Rattle.etp_items.specs.Bodies.{FileBody, Model, table, linear, matrix, rules, proof, model}
use Rattle.etp_items.specs.Reading.{proof_lines}
use Rattle.etp_items.specs.Written.{written_by, written_body, written_proof_line, version_for, model_text, written_table_line, cut, written_linear, written_matrix_line, matrix_lines, written_rules_line, written_claim_line, claim_lines}
use Rattle.etp_items.proofs.ReadBack.{both, is_text, joined, graph_text, name_word}
use Rattle.etp_items.proofs.TextLines.{lines_back}
use Rattle.etp_ledger.specs.Files.{File}
use Rattle.etp_show.specs.Printed.{printed}
use Rattle.etp_filing.specs.FileReplies.{is_end, closes_body}
use Rattle.etp_serving.proofs.Parts.{to_last_newline-both}

-- a plain line and what follows
pub line_then : (w rest : List ℕ) → list_all is_text w ≡ true → length w ≤ 4096 → lines_of (w ++ 10 ∷ rest) ≡ whole w ∷ lines_of rest
line_then w rest h k =
    ap lines_of (sym (append_assoc w (10 ∷ []) rest)) ∙ lines_of-append (w ++ 10 ∷ []) rest (to_last_newline-cut w)
    ∙ ap (λ (z : List LineText). z ++ lines_of rest) (lines_back (λ (x : List ℕ). x) (w ∷ []) ((h, k), tt))

-- written lines end with a newline
closed_lines : {A : Type 0} (written : A → List ℕ) (ls : List A) → to_last_newline (written_by written ls) ≡ written_by written ls
closed_lines written [] = refl
closed_lines written (l ∷ ls) =
    let split : written l ++ 10 ∷ written_by written ls ≡ (written l ++ 10 ∷ []) ++ written_by written ls = sym (append_assoc (written l) (10 ∷ []) (written_by written ls)) in
    ap to_last_newline split ∙ to_last_newline-both (written l ++ 10 ∷ []) (written_by written ls) (to_last_newline-cut (written l)) (closed_lines written ls) ∙ sym split

closed_model : (m : Model) → to_last_newline (model_text m) ≡ model_text m
closed_model (table size entries) = closed_lines written_table_line (Tables.table size ∷ map row (cut size entries))
closed_model (linear l) = closed_lines written_linear (l ∷ [])
closed_model (matrix g) = closed_lines written_matrix_line (matrix_lines g)
closed_model (rules w rs) = closed_lines written_rules_line (system_lines w rs)

closed_body : (b : FileBody) → to_last_newline (written_body b) ≡ written_body b
closed_body (proof p) = closed_lines written_proof_line (proof_lines (version_for p) p)
closed_body (model m claims) = to_last_newline-both (model_text m) _ (closed_model m) (closed_lines written_claim_line (claim_lines claims))

-- the first line of a file
abbrev pub file_line : List ℕ → List ℕ
file_line name = codes "file " ++ name

name_text : (name : List ℕ) → IsName name → list_all is_text (file_line name) ≡ true
name_text name h = joined is_text (codes "file ") name refl (graph_text name (name_word name h).graph)

name_short : (name : List ℕ) → IsName name → length (file_line name) ≤ 4096
name_short name h = omega (arith, length-append (codes "file ") name, h.short)

-- the lines of a printed file and of those behind it
pub printed_lines : (f : File) (files : List File) → IsName f.name
    → lines_of (printed (f ∷ files)) ≡ whole (file_line f.name) ∷ (lines_of (written_body f.body) ++ whole (codes "end") ∷ lines_of (printed files))
printed_lines f files h =
    let body = written_body f.body in
    let front : printed (f ∷ files) ≡ file_line f.name ++ 10 ∷ (body ++ (codes "end" ++ 10 ∷ printed files)) =
    append_assoc (file_line f.name) (10 ∷ ((body ++ codes "end") ++ 10 ∷ [])) (printed files)
    ∙ ap (λ (z : List ℕ). file_line f.name ++ 10 ∷ z)
    (append_assoc (body ++ codes "end") (10 ∷ []) (printed files) ∙ append_assoc body (codes "end") (10 ∷ printed files)) in
    ap lines_of front
    ∙ line_then (file_line f.name) (body ++ (codes "end" ++ 10 ∷ printed files)) (name_text f.name h) (name_short f.name h)
    ∙ ap (λ (z : List LineText). whole (file_line f.name) ∷ z) (lines_of-append body (codes "end" ++ 10 ∷ printed files) (closed_body f.body)
    ∙ ap (λ (z : List LineText). lines_of body ++ z) (line_then (codes "end") (printed files) refl (omega arith)))

-- words that are one
word_is : (x y : List ℕ) → is_word x y ≡ true → x ≡ y
word_is [] [] h = refl
word_is [] (b ∷ y) h = absurd (cc)
word_is (a ∷ x) [] h = absurd (cc)
word_is (a ∷ x) (b ∷ y) h =
    let s = both (nat_eq a b) (is_word x y) h in
    ap₂ (λ (u : ℕ) (v : List ℕ). u ∷ v) (eqb-true a b s.0) (word_is x y s.1)

-- no line of a body is `end`
is_not_end : (words : List (List ℕ)) → (words ≡ codes "end" ∷ [] → ⊥) → is_end words ≡ false
is_not_end [] h = refl
is_not_end (word ∷ []) h = by (is_word word (codes "end")) refl
  where
    by : (b : Bool) → is_word word (codes "end") ≡ b → b ≡ false
    by false e = refl
    by true e = absurd (h (ap (λ (w : List ℕ). w ∷ []) (word_is word (codes "end") e)))
is_not_end (word ∷ next ∷ words) h = refl

blank_goes_on : (words : List (List ℕ)) → are_blank words ≡ true → words ≡ codes "end" ∷ [] → ⊥
blank_goes_on words h e = let bad : false ≡ true = sym (ap are_blank e) ∙ h in cc

pub body_goes_on : (ls : List LineText) (p q : Place) (saids : List Line) → Reads bodies p ls saids q → AllByRecursion (λ l. closes_body l ≡ false) ls
body_goes_on [] p q saids h = tt
body_goes_on (too_long ∷ ls) p q saids h = absurd h
body_goes_on (whole line ∷ ls) p q saids (inl h) =
    (is_not_end (words_of line) (blank_goes_on (words_of line) h.0), body_goes_on ls p q saids h.1)
body_goes_on (whole line ∷ ls) p q saids (inr (said, next, more, says, a, h, e)) =
    (is_not_end (words_of line) (λ w. none_named line (codes "end") [] w refl said says), body_goes_on ls next q more h)
