use Rattle.std.proofs.Common.{length, ◌∙◌, ap}
use Rattle.etp_laws.proofs.Unique.{IsTheList-is}
use Rattle.etp_laws.proofs.Blocks.{laws_upto_4, laws_upto_5}
use Rattle.etp_laws.proofs.theorems.lists_are_this_long.Goals as goal

pub returns-clause-four : goal.returns-clause-four
returns-clause-four c xs h = ap length (IsTheList-is 4 xs h) ∙ laws_upto_4

pub returns-clause-five : goal.returns-clause-five
returns-clause-five c xs h = ap length (IsTheList-is 5 xs h) ∙ laws_upto_5
