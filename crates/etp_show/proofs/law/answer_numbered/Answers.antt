use Rattle.std.proofs.Common.{refl}
use Rattle.etp_term.specs.Laws.{equation_of}
use Rattle.etp_show.specs.LawReplies.{trivial}
use Rattle.etp_print.proofs.GivenLemmas.{IfOk-then, gives-refused}
use Rattle.etp_show.proofs.LawLemmas.{numbered-is, numbered-many}
use Rattle.etp_show.proofs.law.answer_numbered.Goals as goal

pub returns-in-Is : goal.returns-in-Is
returns-in-Is c = IfOk-then c.answer_law.result _ _ (λ flag h. numbered-is c.args.laws.now (equation_of c.args.law.now) c.in-Is.n c.args.line c.answer_law.new.text flag (rw c.in-Is.is at c.number.ensures) h) c.answer_law.ensures

pub returns-in-Trivial : goal.returns-in-Trivial
returns-in-Trivial c = IfOk-then c.refuse.result _ _ (λ flag h. let known = rw c.in-Trivial.is at c.number.ensures in gives-refused c.args.line c.refuse.new.text _ flag _ (trivial known.0 known.1 refl) h) c.refuse.ensures

pub returns-in-TooManyOps : goal.returns-in-TooManyOps
returns-in-TooManyOps c = IfOk-then c.refuse_with.result _ _ (λ flag h. numbered-many c.args.laws.now (equation_of c.args.law.now) c.in-TooManyOps.operations c.args.line c.refuse_with.new.text flag (rw c.in-TooManyOps.is at c.number.ensures) c.requires.left c.requires.right h) c.refuse_with.ensures
