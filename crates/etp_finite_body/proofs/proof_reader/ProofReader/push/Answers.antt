use Rattle.etp_reading.specs.Reading.{given_text}
use Rattle.etp_finite_body.proofs.ReaderLemmas.{pushed_counted, pushed_blank, pushed_bad, pushed_taken}
use Rattle.etp_finite_body.proofs.proof_reader.ProofReader.push.Goals as goal

pub returns-then-only_counts-clause-ok : goal.returns-then-only_counts-clause-ok
returns-then-only_counts-clause-ok c lines read =
    rw c.count_line.ensures (pushed_counted c.args.self.now lines (given_text c.args.line) read (c.only_counts.ensures.yes c.if-only_counts.true))

pub returns-in-Blank-clause-ok : goal.returns-in-Blank-clause-ok
returns-in-Blank-clause-ok c lines read =
    let only = c.only_counts.ensures.no c.if-only_counts.false in
    let next = rw c.in-Blank.is at c.in_ok-take.ensures.next in
    rw c.count_line-in-Blank.ensures
    (pushed_blank c.args.self.now c.take.new.self lines (given_text c.args.line) next.0 read only.0 only.1 next.1 next.2 next.3 c.in_ok-take.ensures.tally)

pub returns-in-Bad-clause-ok : goal.returns-in-Bad-clause-ok
returns-in-Bad-clause-ok c lines read =
    let only = c.only_counts.ensures.no c.if-only_counts.false in
    rw c.count_bad_line.ensures
    (pushed_bad c.args.self.now c.take.new.self lines (given_text c.args.line) read only.0 only.1 (rw c.in-Bad.is at c.in_ok-take.ensures.next) c.in_ok-take.ensures.tally)

pub returns-in-Taken-clause-ok : goal.returns-in-Taken-clause-ok
returns-in-Taken-clause-ok c lines read =
    let only = c.only_counts.ensures.no c.if-only_counts.false in
    let next = rw c.in-Taken.is at c.in_ok-take.ensures.next in
    rw c.count_numbers.ensures
    (pushed_taken c.args.self.now c.take.new.self lines (given_text c.args.line) next.0 c.in-Taken.number read only.0 only.1 next.1 next.2 c.in_ok-take.ensures.tally)
