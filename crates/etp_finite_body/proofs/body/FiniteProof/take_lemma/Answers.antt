use Rattle.std.proofs.Common.{refl}
use Rattle.etp_term.specs.Terms.{tree_of}
use Rattle.etp_lines.specs.ProofLines.{lemma}
use Rattle.etp_lines.specs.BodyLines.{proof_line}
use Rattle.etp_finite_lines.specs.FiniteLines.{body}
use Rattle.etp_finite_body.specs.declared.lemmas.FiniteLemma.TheVariants.{Steps}
use Rattle.etp_finite_body.proofs.WorkLemmas.{lemma_taken, lemma_line, lemma_stands}
use Rattle.etp_finite_body.proofs.body.FiniteProof.take_lemma.Goals as goal

pub returns-clause-ok : goal.returns-clause-ok
returns-clause-ok c =
    let w = c.args.self.now in
    let taken = lemma_taken w (record { hypothesis = w.hypothesis; goal = w.goal; lemmas = c.push.new.self }) (Steps (record { start = c.args.start; steps = c.empty.result })) (body (proof_line (lemma (tree_of c.args.start))))
    refl refl c.in_ok-push.ensures.ok (lemma_line c.args.start (record { start = c.args.start; steps = c.empty.result }) refl c.empty.ensures) (lemma_stands w (tree_of c.args.start)) in
    (taken.0, taken.1)
