use Rattle.std.proofs.Common.{◌≡◌}
use Rattle.etp_closure.specs.Answers.{answer_of}
use Rattle.etp_closure.specs.declared.facts.Answer.TheVariants.{Implied, Refuted}
use Rattle.etp_report.specs.Reports.{row_with}
use Rattle.etp_report.proofs.row.row_of.Given as goal

abbrev pub invariant-loop-place : goal.invariant-loop-place
invariant-loop-place l = record {
  implied_so_far : l.implied ≡ row_with (answer_of l.closure) l.place Implied l.e;
  refuted_so_far : l.refuted ≡ row_with (answer_of l.closure) l.place Refuted l.e;
}
