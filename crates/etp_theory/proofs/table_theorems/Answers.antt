use Rattle.etp_theory.proofs.Tables.{holds_of_lists, lists_of_holds, place_below, place_taken, in_order}
use Rattle.etp_theory.proofs.table_theorems.Goals as goal

pub returns : goal.returns
returns c = record {
  place_below = place_below;
  place_taken = place_taken;
  in_order = in_order;
  lists = λ k n times e pos bl br. (holds_of_lists k n times e bl br, lists_of_holds k n times e pos bl br);
  fails = λ k n times e pos bl br xs a differ h. differ (lists_of_holds k n times e pos bl br h xs a);
}
