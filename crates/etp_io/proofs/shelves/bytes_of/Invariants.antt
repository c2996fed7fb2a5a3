use Rattle.std.proofs.Common.{◌≡◌, drop}
use Rattle.etp_io.specs.Kept.{kept_in}
use Rattle.etp_io.proofs.shelves.bytes_of.Given as goal

abbrev pub invariant-loop-entry : goal.invariant-loop-entry
invariant-loop-entry l = kept_in l.entries l.name ≡ kept_in (drop l.entry-index l.entries) l.name
