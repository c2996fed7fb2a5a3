use Rattle.std.proofs.Common.{◌≡◌, ◌++◌, take}
use Rattle.etp_show.specs.Printed.{order_text, printed}
use Rattle.etp_show.proofs.printed.answer_ledger.Given as goal

abbrev pub invariant-files : goal.invariant-files
invariant-files l = l.text ≡ order_text l.laws.order ++ printed (take l.at l.ledger.files)
