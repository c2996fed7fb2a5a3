use Rattle.std.specs.Prelude.{codes, decimal}
use Rattle.etp_print.specs.RefusalTexts.{step_place}
use Rattle.etp_numbering.proofs.Results.{OnOk-then}
use Rattle.etp_print.proofs.TextLemmas.{four-parts}
use Rattle.etp_print.proofs.refusal.append_replay_refusal.Goals as goal

pub returns-in-OutsideChanged : goal.returns-in-OutsideChanged
returns-in-OutsideChanged c = rw c.in-OutsideChanged.is c.append_at-in-OutsideChanged.ensures

pub returns-in_ok-append_at-in-Reference : goal.returns-in_ok-append_at-in-Reference
returns-in_ok-append_at-in-Reference c =
    rw c.in-Reference.is (OnOk-then c.append_with.result _ _
    (four-parts c.args.text.now c.append_at.new.text c.append_with.new.text (codes "reference") (step_place c.in-Reference.lemma c.in-Reference.step) (codes " line ") (decimal c.in-Reference.line) c.in_ok-append_at-in-Reference.ensures) c.append_with.ensures)

pub returns-in_ok-append_at-in-Citation : goal.returns-in_ok-append_at-in-Citation
returns-in_ok-append_at-in-Citation c =
    rw c.in-Citation.is (OnOk-then c.append_with-in-Citation.result _ _
    (four-parts c.args.text.now c.append_at-in-Citation.new.text c.append_with-in-Citation.new.text (codes "citation") (step_place c.in-Citation.lemma c.in-Citation.step) (codes " cite ") (decimal c.in-Citation.cite) c.in_ok-append_at-in-Citation.ensures) c.append_with-in-Citation.ensures)
