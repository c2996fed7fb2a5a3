use Rattle.etp_reading.specs.Reading.{given_text}
use Rattle.etp_filing.proofs.FileAnswers.{reads-on}
use Rattle.etp_filing.proofs.filing.with_line.Goals as goal

pub returns-in_ok-push-in-Reading : goal.returns-in_ok-push-in-Reading
returns-in_ok-push-in-Reading c o g h =
    let known = rw c.in-Reading.is at h in
    reads-on o c.in-Reading.name c.in-Reading.reader c.push.new.self g (given_text c.args.line) c.in_ok-push-in-Reading.ensures.ok c.in_ok-push-in-Reading.ensures.count known
