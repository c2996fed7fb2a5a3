use Rattle.etp_finite_body.specs.Work.{ReadsModel, ReadsProof}
use Rattle.etp_finite_body.proofs.FiniteReading.{blank_reads, model_reads, proof_reads, ends_ok, ends_err}
use Rattle.etp_finite_body.proofs.reader.FiniteReader.finish.Goals as goal

pub returns-in-Blank-clause-ok : goal.returns-in-Blank-clause-ok
returns-in-Blank-clause-ok c =
    let r = c.args.self in ends_ok r c.args.closed r.proofs.tally.count (ReadsProof r.proofs) (blank_reads r c.in-Blank.is) c.finish_proof.result c.finish_proof.ensures.ok

pub returns-in-Blank-clause-err : goal.returns-in-Blank-clause-err
returns-in-Blank-clause-err c =
    let r = c.args.self in ends_err r c.args.closed r.proofs.tally.count (ReadsProof r.proofs) (blank_reads r c.in-Blank.is) c.finish_proof.result c.finish_proof.ensures.err

pub returns-in-Model-clause-ok : goal.returns-in-Model-clause-ok
returns-in-Model-clause-ok c =
    let r = c.args.self in ends_ok r c.args.closed r.models.tally.count (ReadsModel r.models) (model_reads r c.in-Model.is) c.finish_model.result c.finish_model.ensures.ok

pub returns-in-Model-clause-err : goal.returns-in-Model-clause-err
returns-in-Model-clause-err c =
    let r = c.args.self in ends_err r c.args.closed r.models.tally.count (ReadsModel r.models) (model_reads r c.in-Model.is) c.finish_model.result c.finish_model.ensures.err

pub returns-in-Proof-clause-ok : goal.returns-in-Proof-clause-ok
returns-in-Proof-clause-ok c =
    let r = c.args.self in ends_ok r c.args.closed r.proofs.tally.count (ReadsProof r.proofs) (proof_reads r c.in-Proof.is) c.finish_proof-in-Proof.result c.finish_proof-in-Proof.ensures.ok

pub returns-in-Proof-clause-err : goal.returns-in-Proof-clause-err
returns-in-Proof-clause-err c =
    let r = c.args.self in ends_err r c.args.closed r.proofs.tally.count (ReadsProof r.proofs) (proof_reads r c.in-Proof.is) c.finish_proof-in-Proof.result c.finish_proof-in-Proof.ensures.err
