-- A written line of a proof says what it was written of.
use Rattle.std.proofs.Common.{◌≡◌, ℕ, ◌<◌, ◌≤◌, ◌^◌, arith, true, List, ◌∷◌, ◌++◌, codes, decimal, refl, sym, ap, subst, ◌∙◌}
use Rattle.std.specs.List.{list_all}
use Rattle.etp_theory.specs.Trees.{Tree, bound, leaves}
use Rattle.etp_theory.specs.Proofs.{ProofStep}
use Rattle.etp_words.specs.Words.{words_of, behind_word}
use Rattle.etp_text.specs.Written.{written_term}
use Rattle.etp_text.specs.Refusals.{side_limit}
use Rattle.etp_proof.specs.Names.{IsName}
use Rattle.etp_lines.specs.Sides.{SpellsSide}
use Rattle.etp_lines.specs.ProofLines.{Version, plain, citing, version_word, ProofLine, heading, cite, lemma, step, SaysHeading, SaysCite, SaysLemma, SaysStep, SaysProofLine}
use Rattle.etp_items.specs.Written.{reference_word, direction_word, position_word, written_proof_line, IsWritableProofLine}
use Rattle.etp_items.proofs.ReadBack.{joined, is_text, graph_text, IsWord, words_front, words_last, behind_front, decimal_number, decimal_word, name_word, reference_is_word, direction_is_word, position_is_word, reference_said, direction_said, position_said}
use Rattle.etp_items.proofs.TermTexts.{term_text, written_side}

version_is_word : (v : Version) → IsWord (version_word v)
version_is_word plain = record { some = omega arith; graph = refl }
version_is_word citing = record { some = omega arith; graph = refl }

heading_back : (v : Version) (e f : ℕ) → e < 2 ^ 32 → f < 2 ^ 32 → SaysHeading (written_proof_line (heading v e f)) v e f
heading_back v e f h k = record {
  first = decimal e;
  second = decimal f;
  words = words_front (version_word v) (decimal e ++ 32 ∷ decimal f) (version_is_word v)
      ∙ ap (λ z. version_word v ∷ z) (words_front (decimal e) (decimal f) (decimal_word e h) ∙ ap (λ z. decimal e ∷ z) (words_last (decimal f) (decimal_word f k)));
  from = decimal_number e h;
  to = decimal_number f k;
}

cite_back : (name : List ℕ) → IsName name → SaysCite (written_proof_line (cite name)) name
cite_back name h = record {
  words = words_front (codes "cite") name (record { some = omega arith; graph = refl }) ∙ ap (λ z. codes "cite" ∷ z) (words_last name (name_word name h));
  named = h;
}

lemma_back : (t : Tree) → bound t ≤ 64 → leaves t ≤ side_limit → SaysLemma (written_proof_line (lemma t)) t
lemma_back t named few =
    let word : IsWord (codes "lemma") = record { some = omega arith; graph = refl } in
    record {
      more = words_of (written_term t);
      words = words_front (codes "lemma") (written_term t) word;
      term = subst (λ z. SpellsSide z t) (sym (behind_front (codes "lemma") (written_term t) word)) (written_side t named few);
    }

step_back : (x : ProofStep) → x.line < 2 ^ 32 → bound x.to ≤ 64 → leaves x.to ≤ side_limit → SaysStep (written_proof_line (step x)) x
step_back x line named few =
    let r = reference_word x in
    let d = direction_word x.reversed in
    let p = position_word x.position in
    let t = written_term x.to in
    let word : IsWord (codes "step") = record { some = omega arith; graph = refl } in
    let rw' : IsWord r = reference_is_word x line in
    let dw : IsWord d = direction_is_word x.reversed in
    let pw : IsWord p = position_is_word x.position in
    let behind : behind_word (behind_word (behind_word (behind_word (written_proof_line (step x))))) ≡ 32 ∷ t =
    ap (λ z. behind_word (behind_word (behind_word z))) (behind_front (codes "step") (r ++ 32 ∷ (d ++ 32 ∷ (p ++ 32 ∷ t))) word)
    ∙ ap (λ z. behind_word (behind_word z)) (behind_front r (d ++ 32 ∷ (p ++ 32 ∷ t)) rw')
    ∙ ap behind_word (behind_front d (p ++ 32 ∷ t) dw) ∙ behind_front p t pw in
    record {
      reference = r;
      direction = d;
      position = p;
      more = words_of t;
      words = words_front (codes "step") (r ++ 32 ∷ (d ++ 32 ∷ (p ++ 32 ∷ t))) word
          ∙ ap (λ z. codes "step" ∷ z) (words_front r (d ++ 32 ∷ (p ++ 32 ∷ t)) rw'
          ∙ ap (λ z. r ∷ z) (words_front d (p ++ 32 ∷ t) dw ∙ ap (λ z. d ∷ z) (words_front p t pw)));
      by = reference_said x line;
      read = direction_said x.reversed;
      at = position_said x.position;
      term = subst (λ z. SpellsSide z x.to) (sym behind) (written_side x.to named few);
    }

-- a written line says what it was written of
pub line_back : (l : ProofLine) → IsWritableProofLine l → SaysProofLine (written_proof_line l) l
line_back (heading v e f) h = heading_back v e f h.0 h.1
line_back (cite name) h = cite_back name h
line_back (lemma t) h = lemma_back t h.0 h.1
line_back (step x) h = step_back x h.0 h.1 h.2

word_text : (w : List ℕ) → IsWord w → list_all is_text w ≡ true
word_text w h = graph_text w h.graph

-- and has no byte that ends a line
pub line_text : (l : ProofLine) → IsWritableProofLine l → list_all is_text (written_proof_line l) ≡ true
line_text (heading v e f) h =
    joined is_text (version_word v) (32 ∷ (decimal e ++ 32 ∷ decimal f)) (word_text (version_word v) (version_is_word v))
    (joined is_text (decimal e) (32 ∷ decimal f) (word_text (decimal e) (decimal_word e h.0)) (word_text (decimal f) (decimal_word f h.1)))
line_text (cite name) h = word_text name (name_word name h)
line_text (lemma t) h = term_text t h.0
line_text (step x) h =
    let r = reference_word x in
    let d = direction_word x.reversed in
    let p = position_word x.position in
    let t = written_term x.to in
    joined is_text r (32 ∷ (d ++ 32 ∷ (p ++ 32 ∷ t))) (word_text r (reference_is_word x h.0))
    (joined is_text d (32 ∷ (p ++ 32 ∷ t)) (word_text d (direction_is_word x.reversed))
    (joined is_text p (32 ∷ t) (word_text p (position_is_word x.position)) (term_text x.to h.1)))
