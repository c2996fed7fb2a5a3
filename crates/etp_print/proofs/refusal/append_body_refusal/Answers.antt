use Rattle.etp_print.proofs.refusal.append_body_refusal.Goals as goal

pub returns-in-Unfinished : goal.returns-in-Unfinished
returns-in-Unfinished c = rw c.in-Unfinished.is c.append_with-in-Unfinished.ensures
