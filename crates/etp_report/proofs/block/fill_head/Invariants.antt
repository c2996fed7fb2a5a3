use Rattle.std.proofs.Common.{◌≡◌, ◌∷◌, [], map}
use Rattle.std.specs.Prelude.{codes, decimal}
use Rattle.std.specs.List.{range_with_len}
use Rattle.csv.specs.Records.{fields_of, partial_of}
use Rattle.etp_report.proofs.block.fill_head.Given as goal

abbrev pub invariant-loop-place : goal.invariant-loop-place
invariant-loop-place l = record {
  fields_so_far : fields_of l.row ≡ codes "law" ∷ map decimal (range_with_len l.first l.place);
  no_part : partial_of l.row ≡ [];
}
