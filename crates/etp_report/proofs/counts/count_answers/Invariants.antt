use Rattle.std.proofs.Common.{◌≡◌, ◌+◌}
use Rattle.etp_closure.specs.declared.facts.Answer.TheVariants.{Implied, Refuted}
use Rattle.etp_report.specs.Pairs.{sum_below, laws_answered}
use Rattle.etp_report.proofs.counts.count_answers.Given as goal

abbrev pub invariant-loop-place : goal.invariant-loop-place
invariant-loop-place l = record {
  implied_so_far : l.implied ≡ sum_below (λ place. laws_answered l.closure Implied (place + 1)) l.place;
  refuted_so_far : l.refuted ≡ sum_below (λ place. laws_answered l.closure Refuted (place + 1)) l.place;
}
