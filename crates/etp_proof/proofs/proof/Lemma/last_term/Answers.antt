use Rattle.std.proofs.Common.{◌-◌, length, slice_get, sym, ap, ◌∙◌, List}
use Rattle.etp_term.specs.Terms.{tree_of}
use Rattle.etp_proof.specs.declared.proof.Step.{Step}
use Rattle.etp_proof.proofs.LastTerm.{last_step}
use Rattle.etp_proof.proofs.proof.Lemma.last_term.Goals as goal

pub returns-in-Some : goal.returns-in-Some
returns-in-Some c =
    sym (last_step (tree_of c.args.self.now.start) c.args.self.now.steps c.in-Some.step.now
    (ap (λ (xs : List Step). slice_get xs (length xs - 1)) (sym c.as_slice.ensures.value) ∙ sym c.in-Some.ensures.value))
