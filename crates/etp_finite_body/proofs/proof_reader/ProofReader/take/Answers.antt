use Rattle.std.proofs.Common.{refl}
use Rattle.etp_finite_lines.specs.Said.{finite_line_of}
use Rattle.etp_finite_body.proofs.ReaderLemmas.{no_place}
use Rattle.etp_finite_body.proofs.proof_reader.ProofReader.take.Goals as goal

pub returns-then-not-branch-clause-next : goal.returns-then-not-branch-clause-next
returns-then-not-branch-clause-next c =
    rw c.in-Some.is (no_place c.args.self.now.work.proof c.in-Some.line.now (finite_line_of c.in-Some-2.said) c.take.new.self.proof (rw c.in-Some-2.is at c.in_ok-said.ensures) (rw c.if-not-branch.true at c.in_ok-take.ensures.ok))

pub returns-clause-next : goal.returns-clause-next
returns-clause-next c =
    rw c.in-Some.is (
      c.in-Some.line.now,
      refl,
      record {
        said = finite_line_of c.in-Some-2.said;
        says = rw c.in-Some-2.is at c.in_ok-said.ensures;
        takes = rw c.if-not-branch.false at c.in_ok-take.ensures.ok;
        numbers = c.first_unlisted-number.ensures;
      },
    )
