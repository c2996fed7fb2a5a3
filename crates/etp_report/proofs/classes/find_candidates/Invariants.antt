use Rattle.std.proofs.Common.{◌≡◌, All}
use Rattle.std.specs.Prelude.{filter, map, is_some, unwrap_or}
use Rattle.etp_closure.specs.Closures.{slot_of}
use Rattle.etp_report.specs.Reports.{laws_to}
use Rattle.etp_report.specs.Candidates.{candidate_slot, IsSlot}
use Rattle.etp_report.proofs.classes.find_candidates.Given as goal

abbrev pub invariant-loop-place : goal.invariant-loop-place
invariant-loop-place l = record {
  laws_so_far : l.laws ≡ filter (λ law. is_some (candidate_slot l.closure law)) (laws_to l.place);
  slots_so_far : l.slots ≡ map (λ law. unwrap_or (slot_of l.closure.slots law) 0) (filter (λ law. is_some (candidate_slot l.closure law)) (laws_to l.place));
  in_matrix : All (IsSlot l.closure.reached) l.slots;
}
