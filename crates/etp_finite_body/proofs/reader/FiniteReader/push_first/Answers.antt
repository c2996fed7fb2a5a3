use Rattle.etp_reading.specs.Reading.{given_text}
use Rattle.etp_finite_body.proofs.FiniteReading.{blank_pushed, infinite_begun, model_begun, proof_begun}
use Rattle.etp_finite_body.proofs.reader.FiniteReader.push_first.Goals as goal

pub returns-in_ok-push-in-Blank-clause-ok : goal.returns-in_ok-push-in-Blank-clause-ok
returns-in_ok-push-in-Blank-clause-ok c =
    blank_pushed c.args.self.now c.requires.blank _ _ (given_text c.args.line) (rw c.in-Blank.is at c.begun.ensures)
    c.in_ok-push-in-Blank.ensures.ok c.push_blank.ensures.read c.in_ok-push-in-Blank.ensures.count c.push_blank.ensures.count

pub returns-in-Infinite-clause-ok : goal.returns-in-Infinite-clause-ok
returns-in-Infinite-clause-ok c = infinite_begun c.args.self.now c.requires.blank (given_text c.args.line) (rw c.in-Infinite.is at c.begun.ensures)

pub returns-in_ok-push-in-Model-clause-ok : goal.returns-in_ok-push-in-Model-clause-ok
returns-in_ok-push-in-Model-clause-ok c =
    model_begun c.args.self.now c.requires.blank _ (given_text c.args.line) (rw c.in-Model.is at c.begun.ensures) c.in_ok-push-in-Model.ensures.ok c.in_ok-push-in-Model.ensures.count

pub returns-in_ok-push-in-Proof-clause-ok : goal.returns-in_ok-push-in-Proof-clause-ok
returns-in_ok-push-in-Proof-clause-ok c =
    proof_begun c.args.self.now c.requires.blank _ (given_text c.args.line) (rw c.in-Proof.is at c.begun.ensures) c.in_ok-push-in-Proof.ensures.ok c.in_ok-push-in-Proof.ensures.count
