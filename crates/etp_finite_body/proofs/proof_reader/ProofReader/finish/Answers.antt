use Rattle.std.proofs.Common.{◌≡◌, ◌∙◌, sym, ap, subst, true, Some, None, Bool}
use Rattle.std.specs.Option.{option_map, is_some}
use Rattle.etp_reading.specs.Tallies.{Judges}
use Rattle.etp_finite_body.specs.FiniteBodies.{finite_proof_of}
use Rattle.etp_finite_body.specs.Work.{IsWhole}
use Rattle.etp_finite_body.proofs.ReaderLemmas.{some_mapped, ends_refused, ends_whole}
use Rattle.etp_finite_body.proofs.proof_reader.ProofReader.finish.Goals as goal

pub returns-in-Some-clause-err : goal.returns-in-Some-clause-err
returns-in-Some-clause-err c lines read =
    let body = c.into_proof-proof.result in
    let some : c.is_some.result ≡ is_some (option_map finite_proof_of body) = c.is_some.ensures ∙ sym (some_mapped finite_proof_of body) in
    ends_refused c.args.self lines c.args.closed (option_map finite_proof_of body) c.in-Some.refusal read c.into_proof-proof.ensures
    (subst (λ (b : Bool). Judges c.args.self.tally c.args.closed b (Some c.in-Some.refusal)) some (rw c.in-Some.is at c.refusal.ensures))

pub returns-in-None-clause-ok : goal.returns-in-None-clause-ok
returns-in-None-clause-ok c lines read =
    let there : c.is_some.result ≡ true = c.is_some.ensures ∙ ap is_some c.unwrap.ensures in
    ends_whole c.args.self lines c.args.closed (finite_proof_of c.unwrap.result) read
    (subst (λ o. IsWhole c.args.self.work.proof (option_map finite_proof_of o)) c.unwrap.ensures c.into_proof-proof.ensures)
    (subst (λ (b : Bool). Judges c.args.self.tally c.args.closed b None) there (rw c.in-None.is at c.refusal.ensures))
