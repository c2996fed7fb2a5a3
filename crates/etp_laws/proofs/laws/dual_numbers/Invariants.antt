use Rattle.std.proofs.Common.{◌≡◌, map, take}
use Rattle.etp_term.specs.Laws.{equation_of}
use Rattle.etp_laws.specs.Places.{dual_numbers}
use Rattle.etp_laws.proofs.laws.dual_numbers.Given as goal

abbrev pub invariant-loop-law : goal.invariant-loop-law
invariant-loop-law l = l.duals ≡ dual_numbers (map equation_of (take l.law-index l.laws))
