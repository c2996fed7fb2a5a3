use Rattle.std.proofs.Common.{◌≡◌, ap, ◌∙◌, sym}
use Rattle.etp_theory.specs.Trees.{op}
use Rattle.etp_term.specs.Terms.{tree_of}
use Rattle.etp_term.proofs.Opened.{tree_of-op}
use Rattle.etp_search.proofs.SlotFilling.{slot_of_right}
use Rattle.etp_search.proofs.filling.+first_slot.Goals as goal

pub returns-in-None : goal.returns-in-None
returns-in-None t c =
    let is : tree_of c.args.slotted.now ≡ op (tree_of c.get.result.now) (tree_of c.get-in-None.result.now) =
    ap tree_of c.in-Op.is ∙ tree_of-op _ _ ∙ (λ i. op (tree_of (sym c.get.ensures i)) (tree_of (sym c.get-in-None.ensures i))) in
    slot_of_right c.first_slot-in-None.result _ _ _ is c.in-None.ensures c.first_slot-in-None.ensures
