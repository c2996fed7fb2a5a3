use Rattle.etp_reading.specs.Reading.{given_text}
use Rattle.etp_finite_body.proofs.FiniteReading.{more_infinite, more_model, more_proof}
use Rattle.etp_finite_body.proofs.reader.FiniteReader.push.Goals as goal

pub returns-in-Infinite-clause-ok : goal.returns-in-Infinite-clause-ok
returns-in-Infinite-clause-ok c = more_infinite c.args.self.now (given_text c.args.line) c.in-Infinite.is

pub returns-in-Model-clause-ok : goal.returns-in-Model-clause-ok
returns-in-Model-clause-ok c = more_model c.args.self.now c.push.new.self c.push.result (given_text c.args.line) c.in-Model.is c.push.ensures.ok c.push.ensures.count

pub returns-in-Proof-clause-ok : goal.returns-in-Proof-clause-ok
returns-in-Proof-clause-ok c = more_proof c.args.self.now c.push-in-Proof.new.self c.push-in-Proof.result (given_text c.args.line) c.in-Proof.is c.push-in-Proof.ensures.ok c.push-in-Proof.ensures.count
