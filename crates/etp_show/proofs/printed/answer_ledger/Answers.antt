use Rattle.etp_items.specs.Bodies.{body_of}
use Rattle.etp_show.specs.Printed.{order_text}
use Rattle.etp_show.proofs.PrintedLemmas.{printed-next, printed-put, valid_size}
use Rattle.etp_show.proofs.printed.answer_ledger.Goals as goal

pub append_printed-requires : goal.append_printed-requires
append_printed-requires c = valid_size c.args.laws.now c.args.ledger.now (body_of c.in-Some.body.now) c.requires.over c.in-Some.ensures.valid

pub files-preserved : goal.files-preserved
files-preserved c =
    printed-put (order_text c.args.laws.now.order) c.files.text _ _ _ _ c.files.invariant c.in_ok-append_printed.ensures
    (printed-next c.args.ledger.now.files c.files.at (record { name = c.in-Some.name.now; body = body_of c.in-Some.body.now }) c.in-Some.ensures.file)
