use Rattle.std.proofs.Common.{◌≡◌, not, ◌&&◌, length}
use Rattle.etp_closure.specs.Closures.{is_reached, is_covered}
use Rattle.etp_bench.specs.Filling.{count_pairs}
use Rattle.etp_bench.proofs.counts.totals.Given as goal

abbrev pub invariant-loop-place : goal.invariant-loop-place
invariant-loop-place l = record {
  implied : l.implied ≡ count_pairs (is_reached l.closure) (length l.closure.duals) l.place;
  refuted : l.refuted ≡ count_pairs (λ e f. is_covered l.closure e f && not (is_reached l.closure e f)) (length l.closure.duals) l.place;
}
