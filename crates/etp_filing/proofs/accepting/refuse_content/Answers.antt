use Rattle.etp_filing.proofs.accepting.refuse_content.Goals as goal

pub returns-clause-reply : goal.returns-clause-reply
returns-clause-reply c = rw (c.as_slice.ensures, c.in_ok-why.ensures.text) at c.refuse_file.ensures
