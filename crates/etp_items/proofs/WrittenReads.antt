-- Written bodies are read back.
use Rattle.std.proofs.Common.{◌≡◌, ℕ, List, [], ◌∷◌, ◌++◌, map, All, refl, sym, subst}
use Rattle.std.specs.List.{AllByRecursion}
use Rattle.std.proofs.lemmas.List.Elements.{recursion_from_All, All-nil, All-cons, All-head}
use Rattle.etp_theory.specs.LawNumbers.{IsLaw}
use Rattle.etp_theory.specs.Proofs.{ProofStep, Lemma}
use Rattle.etp_io.specs.Texts.{LineText, lines_of}
use Rattle.etp_reading.specs.Reading.{Reads, AreWhole, AreListed}
use Rattle.etp_items.specs.Bodies.{ProofBody, FileBody, proof, model}
use Rattle.etp_lines.specs.ProofLines.{Version, ProofLine, heading, cite, lemma, step, within}
use Rattle.etp_lines.specs.BodyLines.{Line, opening, in_proof, proof_line, numbers_of, bodies}
use Rattle.etp_items.specs.Reading.{lemma_lines, proof_lines, IsBody, body_numbers}
use Rattle.etp_items.specs.Written.{written_proof_line, is_citing, version_for, written_body, IsWritableProofLine, IsShortProofLine, IsWritableBody, IsShortBody}
use Rattle.etp_items.proofs.TextLines.{as_given, IsTextLine, lines_back}
use Rattle.etp_items.proofs.ProofLineBack.{line_text}
use Rattle.etp_items.proofs.ProofReads.{read_version}
use Rattle.etp_items.proofs.ModelReads.{model_lines, model_whole_lines, model_says}

text_lines : (ls : List ProofLine) → AllByRecursion IsWritableProofLine ls → AllByRecursion IsShortProofLine ls → AllByRecursion (IsTextLine written_proof_line) ls
text_lines [] h k = tt
text_lines (l ∷ ls) h k = ((line_text l h.0, k.0), text_lines ls h.1 k.1)

-- the lines of a written proof
pub proof_given : (p : ProofBody) → IsWritableBody (proof p) → IsShortBody (proof p)
    → lines_of (written_body (proof p)) ≡ as_given written_proof_line (proof_lines (version_for p) p)
proof_given p (some, few, writable) short =
    let said = proof_lines (version_for p) p in
    lines_back written_proof_line said (text_lines said (recursion_from_All IsWritableProofLine said writable) (recursion_from_All IsShortProofLine said short))

pub written_whole : (p : ProofBody) → IsWritableBody (proof p) → IsShortBody (proof p)
    → AreWhole bodies (lines_of (written_body (proof p))) (map proof_line (proof_lines (version_for p) p))
written_whole p (some, few, writable) short =
    let v = version_for p in
    let said = proof_lines v p in
    let all : AllByRecursion IsWritableProofLine said = recursion_from_All IsWritableProofLine said writable in
    record {
      come = in_proof (within v);
      reads = subst (λ (z : List LineText). Reads bodies opening z (map proof_line said) (in_proof (within v)))
          (sym (proof_given p (some, few, writable) short)) (read_version p (is_citing p) v refl refl some few all);
      complete = refl;
    }

pub written_body_reads : (b : FileBody) → IsWritableBody b → IsShortBody b → IsBody (lines_of (written_body b)) b
written_body_reads (proof p) writable short = record {
  saids = map proof_line (proof_lines (version_for p) p);
  are_whole = written_whole p writable short;
  says = (version_for p, refl);
}
written_body_reads (model m c) (w, k) short = record {
  saids = model_lines m c;
  are_whole = model_whole_lines m c w short k;
  says = model_says m c w;
}

-- the lines of a proof have the law numbers of its heading
abbrev pub HasListed : ℕ → Line → Type 0
HasListed count l = All (IsLaw count) (numbers_of l)

steps_listed : (count : ℕ) (xs : List ProofStep) (ys : List ProofLine) → AreListed bodies count (map proof_line ys) → AreListed bodies count (map proof_line (map step xs ++ ys))
steps_listed count [] ys h = h
steps_listed count (x ∷ xs) ys h = All-cons (HasListed count) (proof_line (step x)) (map proof_line (map step xs ++ ys)) (All-nil (IsLaw count)) (steps_listed count xs ys h)

lemmas_listed : (count : ℕ) (ls : List Lemma) → AreListed bodies count (map proof_line (lemma_lines ls))
lemmas_listed count [] = All-nil (HasListed count)
lemmas_listed count (l ∷ ls) =
    All-cons (HasListed count) (proof_line (lemma l.start)) (map proof_line (map step l.steps ++ lemma_lines ls)) (All-nil (IsLaw count)) (steps_listed count l.steps (lemma_lines ls) (lemmas_listed count ls))

cites_listed : (count : ℕ) (names : List (List ℕ)) (ys : List ProofLine) → AreListed bodies count (map proof_line ys) → AreListed bodies count (map proof_line (map cite names ++ ys))
cites_listed count [] ys h = h
cites_listed count (n ∷ names) ys h = All-cons (HasListed count) (proof_line (cite n)) (map proof_line (map cite names ++ ys)) (All-nil (IsLaw count)) (cites_listed count names ys h)

pub proof_listed : (count : ℕ) (v : Version) (p : ProofBody) → All (IsLaw count) (body_numbers (proof p)) → AreListed bodies count (map proof_line (proof_lines v p))
proof_listed count v p h =
    All-cons (HasListed count) (proof_line (heading v p.hypothesis p.goal)) (map proof_line (map cite p.cites ++ lemma_lines p.lemmas)) h
    (cites_listed count p.cites (lemma_lines p.lemmas) (lemmas_listed count p.lemmas))

pub proof_numbers : (count : ℕ) (v : Version) (p : ProofBody) → AreListed bodies count (map proof_line (proof_lines v p)) → All (IsLaw count) (body_numbers (proof p))
proof_numbers count v p h =
    All-head (HasListed count) (proof_line (heading v p.hypothesis p.goal)) (map proof_line (map cite p.cites ++ lemma_lines p.lemmas)) h
