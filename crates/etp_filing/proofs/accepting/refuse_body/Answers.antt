use Rattle.etp_filing.proofs.accepting.refuse_body.Goals as goal

pub returns : goal.returns
returns c = rw (c.as_slice.ensures, c.in_ok-why.ensures) at c.refuse_file.ensures
