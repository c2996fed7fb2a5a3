use Rattle.std.proofs.Common.{ℕ, refl, subst}
use Rattle.std.specs.Prelude.{codes, ◌++◌}
use Rattle.etp_items.specs.Bodies.{body_of}
use Rattle.etp_items.specs.Reading.{IsReadBody}
use Rattle.etp_filing.specs.FileReplies.{no_body}
use Rattle.etp_print.specs.RefusalTexts.{body_refusal}
use Rattle.etp_filing.proofs.FilingLemmas.{body-content, body-listed}
use Rattle.etp_print.proofs.GivenLemmas.{IfOk-then}
use Rattle.etp_filing.proofs.FileAnswers.{refuses-file}
use Rattle.etp_filing.proofs.accepting.answer_body.Goals as goal

pub accept_file-requires-clause-listed : goal.accept_file-requires-clause-listed
accept_file-requires-clause-listed c =
    let g = c.requires.stands.0 in let is = c.requires.stands.1 in
    body-listed c.args.opened.now.laws.equations c.args.reader.tally.count g.lines c.args.closed (body_of c.in-Ok.body) is.count (c.in-Ok.ensures.ok g.lines is.read)

pub accept_file-requires-clause-content : goal.accept_file-requires-clause-content
accept_file-requires-clause-content c =
    let g = c.requires.stands.0 in let is = c.requires.stands.1 in
    body-content g.lines (body_of c.in-Ok.body) (c.in-Ok.ensures.ok g.lines is.read).is_body

pub returns-in-Err : goal.returns-in-Err
returns-in-Err c = IfOk-then c.refuse_body.result _ _ (λ refusal h g n is.
    refuses-file c.args.opened.now g c.args.closed c.args.number c.refuse_body.new.text (c.args.name ++ codes ": " ++ body_refusal c.in-Err.refusal) refusal c.requires.agrees n
    (no_body c.args.name c.in-Err.refusal is.free (rw is.count at (c.in-Err.ensures.err g.lines is.read)) refl refl) (rw c.as_slice.ensures.value at h)) c.refuse_body.ensures

pub returns-in-Ok : goal.returns-in-Ok
returns-in-Ok c = IfOk-then c.accept_file.result _ _ (λ refusal h g n is.
    h c.args.closed g n is.free
    (subst (λ (k : ℕ). IsReadBody k g.lines c.args.closed (body_of c.in-Ok.body)) is.count (c.in-Ok.ensures.ok g.lines is.read))) c.accept_file.ensures
