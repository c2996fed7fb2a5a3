use Rattle.std.proofs.Common.{◌≡◌, false, take, nat_lt}
use Rattle.std.specs.Prelude.{filter}
use Rattle.std.specs.List.{list_any}
use Rattle.etp_closure.specs.Answers.{answer_of}
use Rattle.etp_report.specs.Reports.{are_equivalent}
use Rattle.etp_report.proofs.classes.class_of_candidate.Given as goal

abbrev pub invariant-loop-place : goal.invariant-loop-place
invariant-loop-place l = record {
  class_so_far : l.class ≡ filter (are_equivalent (answer_of l.closure) l.e) (take l.place l.candidates.laws);
  none_smaller : list_any (λ f. nat_lt f l.e) l.class ≡ false;
}
