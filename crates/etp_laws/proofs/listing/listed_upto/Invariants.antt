use Rattle.std.proofs.Common.{◌≡◌, map, flat_map}
use Rattle.std.specs.List.{range_with_len}
use Rattle.etp_term.specs.Laws.{equation_of}
use Rattle.etp_laws.specs.Enumeration.{laws_of}
use Rattle.etp_laws.proofs.listing.listed_upto.Given as goal

abbrev pub invariant-loop-ops : goal.invariant-loop-ops
invariant-loop-ops l = map equation_of l.laws ≡ flat_map laws_of (range_with_len 0 l.ops)
