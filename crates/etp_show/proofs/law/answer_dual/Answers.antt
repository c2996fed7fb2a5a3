use Rattle.std.proofs.Common.{refl}
use Rattle.etp_print.proofs.GivenLemmas.{IfOk-then, gives-refused}
use Rattle.etp_show.proofs.law.answer_dual.Goals as goal

pub returns-in-None : goal.returns-in-None
returns-in-None c = IfOk-then c.refuse_with.result _ _ (λ flag h. gives-refused c.args.line c.refuse_with.new.text _ flag _ (rw c.in-None.ensures.exact refl) h) c.refuse_with.ensures
