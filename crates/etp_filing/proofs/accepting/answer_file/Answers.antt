use Rattle.std.proofs.Common.{refl}
use Rattle.std.specs.Prelude.{codes, ◌++◌}
use Rattle.etp_filing.specs.FileReplies.{no_name, name_taken}
use Rattle.etp_print.proofs.GivenLemmas.{IfOk-then}
use Rattle.etp_filing.proofs.FileAnswers.{refuses-file}
use Rattle.etp_filing.proofs.accepting.answer_file.Goals as goal

pub returns-in-BadLine : goal.returns-in-BadLine
returns-in-BadLine c = IfOk-then c.refuse.result _ _ (λ refusal h g is.
    refuses-file c.args.opened.now g c.args.closed c.args.filing.number c.refuse.new.text (codes "bad line") refusal c.requires.agrees is.number_is
    (no_name (rw c.in-BadLine.is at is.pending) refl refl) h) c.refuse.ensures

pub returns-in-NameTaken : goal.returns-in-NameTaken
returns-in-NameTaken c = IfOk-then c.refuse_name.result _ _ (λ refusal h g is.
    let known = rw c.in-NameTaken.is at is.pending in
    refuses-file c.args.opened.now g c.args.closed c.args.filing.number c.refuse_name.new.text (codes "name taken " ++ c.in-NameTaken.name) refusal c.requires.agrees is.number_is
    (name_taken c.in-NameTaken.name known.0 known.1 known.2 refl refl) (rw (c.as_slice.ensures.value, c.in-NameTaken.name-is) at h)) c.refuse_name.ensures
