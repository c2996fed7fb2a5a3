use Rattle.std.proofs.Common.{refl}
use Rattle.etp_finite_lines.specs.FiniteLines.{cancel}
use Rattle.etp_finite_lines.specs.Said.{cancel_of}
use Rattle.etp_finite_body.specs.declared.lemmas.FiniteLemma.TheVariants.{Cancel}
use Rattle.etp_finite_body.proofs.WorkLemmas.{lemma_taken, cancel_stands}
use Rattle.etp_finite_body.proofs.body.FiniteProof.take_cancel.Goals as goal

pub returns-clause-ok : goal.returns-clause-ok
returns-clause-ok c =
    let w = c.args.self.now in
    let s = c.args.said in
    let taken = lemma_taken w (record { hypothesis = w.hypothesis; goal = w.goal; lemmas = c.push.new.self }) (Cancel s.line s.variable s.outer s.inner) (cancel (cancel_of s))
    refl refl c.in_ok-push.ensures.ok refl (cancel_stands w (cancel_of s)) in
    (taken.0, taken.1)
