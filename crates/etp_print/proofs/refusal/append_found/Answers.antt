use Rattle.etp_print.proofs.refusal.append_found.Goals as goal

pub returns-in-TooManyOps : goal.returns-in-TooManyOps
returns-in-TooManyOps c = rw c.in-TooManyOps.is c.append_with-in-TooManyOps.ensures

pub returns-in-Trivial : goal.returns-in-Trivial
returns-in-Trivial c = rw c.in-Trivial.is c.append.ensures.ok

pub returns-in-Is : goal.returns-in-Is
returns-in-Is c = rw c.in-Is.is c.append_with.ensures
