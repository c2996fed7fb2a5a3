use Rattle.std.proofs.Common.{◌≡◌, ◌++◌, map, flat_map, take}
use Rattle.etp_term.specs.Laws.{equation_of}
use Rattle.etp_laws.specs.Shapes.{sides_from}
use Rattle.etp_laws.specs.Enumeration.{laws_at}
use Rattle.etp_laws.proofs.listing.append_laws_of.Given as goal

abbrev pub invariant-loop-sides : goal.invariant-loop-sides
invariant-loop-sides l = map equation_of l.laws ≡ map equation_of l.initial.laws ++ flat_map laws_at (map sides_from (take l.sides-index l.sides-items))
