use Rattle.std.proofs.Common.{inl}
use Rattle.etp_items.specs.Bodies.{body_of}
use Rattle.etp_items.specs.Reading.{IsReadBody}
use Rattle.etp_items.specs.declared.body.Body.TheVariants.{Linear}
use Rattle.etp_finite_body.specs.Reading.{IsInfinite, IsModel}
use Rattle.etp_finite_body.specs.Work.{BeginsFinite}
use Rattle.etp_finite_body.proofs.FirstLemmas.{first_apart, first_weaker}
use Rattle.etp_finite_body.proofs.ModelRead.{finite_read}
use Rattle.etp_finite_body.proofs.reader.finish_model.Goals as goal

pub returns-in-Ok-Table-clause-ok : goal.returns-in-Ok-Table-clause-ok
returns-in-Ok-Table-clause-ok c lines read = (tt, (rw c.in-Ok-Table.field-0-is at c.in-Ok-Table.ensures.ok) lines read.0)

pub returns-in-Ok-Linear-clause-ok : goal.returns-in-Ok-Linear-clause-ok
returns-in-Ok-Linear-clause-ok c lines read =
    let r : IsReadBody c.args.models.tally.count lines c.args.closed (body_of (Linear c.in-Ok-Linear.linear)) = (rw c.in-Ok-Linear.field-0-is at c.in-Ok-Linear.ensures.ok) lines read.0 in
    (finite_read c.args.models.tally.count lines c.args.closed (body_of (Linear c.in-Ok-Linear.linear)) r read.1, r)

pub returns-in-Ok-Proof-clause-err : goal.returns-in-Ok-Proof-clause-err
returns-in-Ok-Proof-clause-err c lines read =
    absurd (finite_read _ lines c.args.closed _ ((rw c.in-Ok-Proof.field-0-is at c.in-Ok-Proof.ensures.ok) lines read.0) read.1)

pub returns-in-Ok-Matrix-clause-err : goal.returns-in-Ok-Matrix-clause-err
returns-in-Ok-Matrix-clause-err c lines read =
    absurd (finite_read _ lines c.args.closed _ ((rw c.in-Ok-Matrix.field-0-is at c.in-Ok-Matrix.ensures.ok) lines read.0) read.1)

pub returns-in-Ok-Rules-clause-err : goal.returns-in-Ok-Rules-clause-err
returns-in-Ok-Rules-clause-err c lines read =
    absurd (finite_read _ lines c.args.closed _ ((rw c.in-Ok-Rules.field-0-is at c.in-Ok-Rules.ensures.ok) lines read.0) read.1)

pub returns-clause-err : goal.returns-clause-err
returns-clause-err c lines read = (
  first_apart BeginsFinite IsInfinite lines (λ x h i. h.1 i) read.1,
  inl (first_weaker BeginsFinite IsModel lines (λ x h. h.0) read.1, c.in-Err.ensures.err lines read.0),
)
