use Rattle.etp_session.proofs.top.run_in_memory.Goals as goal

pub returns-clause-well : goal.returns-clause-well
returns-clause-well c e =
    let writes = ((c.run.ensures.session c.requires.words).well e).writes in
    (writes.text, rw (c.of-source.ensures.start.0, c.of-source.ensures.bytes) at writes.session)

pub returns-clause-refused : goal.returns-clause-refused
returns-clause-refused c e =
    let writes = ((c.run.ensures.session c.requires.words).refused e).writes in
    (writes.text, rw (c.of-source.ensures.start.0, c.of-source.ensures.bytes) at writes.session)
