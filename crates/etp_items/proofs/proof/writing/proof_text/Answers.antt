use Rattle.std.proofs.Common.{◌≡◌, ◌++◌, ap, map, ◌∙◌, List}
use Rattle.etp_proof.specs.Lemmas.{lemma_of}
use Rattle.etp_proof.specs.declared.proof.Lemma.{Lemma}
use Rattle.etp_proof.specs.declared.label.Label.{Label}
use Rattle.etp_items.specs.Bodies.{proof_of}
use Rattle.etp_lines.specs.ProofLines.{heading, cite}
use Rattle.etp_items.specs.Reading.{lemma_lines}
use Rattle.etp_items.specs.Written.{version_for, written_proof_lines}
use Rattle.etp_items.proofs.WrittenLemmas.{whole_text}
use Rattle.etp_items.proofs.proof.writing.proof_text.Goals as goal

pub returns : goal.returns
returns c =
    let p = c.args.proof.now in
    let t = c.empty-text.result in
    let u = c.append_heading.new.text in
    let v = c.append_cites.new.text in
    let w = c.append_lemmas.new.text in
    let f : v ≡ u ++ written_proof_lines (map cite p.cites) = c.in_ok-append_cites.ensures ∙ ap (λ (z : List Label). u ++ written_proof_lines (map cite z)) c.as_slice.ensures in
    let g : w ≡ v ++ written_proof_lines (lemma_lines (map lemma_of p.lemmas)) = c.in_ok-append_lemmas.ensures ∙ ap (λ (z : List Lemma). v ++ written_proof_lines (lemma_lines (map lemma_of z))) c.as_slice-2.ensures.value in
    whole_text (heading (version_for (proof_of p)) p.hypothesis p.goal) (map cite p.cites) (lemma_lines (map lemma_of p.lemmas)) t u v w c.empty-text.ensures c.in_ok-append_heading.ensures f g
