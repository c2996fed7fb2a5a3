use Rattle.etp_ends.proofs.Ending.{ends, told_of}
use Rattle.etp_ends.proofs.undisturbed.run_undisturbed.Goals as goal

pub returns-clause-ends : goal.returns-clause-ends
returns-clause-ends g c = λ u. ends _ _ _ _ (c.run.ensures.session c.requires.words) u

pub returns-clause-told : goal.returns-clause-told
returns-clause-told g c = λ bytes text kept refused tells keeps is u.
    told_of 134217728 _ kept _ _ _ bytes text refused (c.one_text.ensures 134217728 kept bytes) tells keeps is
    (c.run.ensures.session c.requires.words) u
