use Rattle.std.proofs.Common.{◌≡◌, ◌++◌, map, take}
use Rattle.etp_term.specs.Laws.{equation_of}
use Rattle.etp_laws.specs.Shapes.{sides_from}
use Rattle.etp_laws.specs.Enumeration.{law_at}
use Rattle.etp_laws.proofs.listing.append_all.Given as goal

abbrev pub invariant-loop-word : goal.invariant-loop-word
invariant-loop-word l = map equation_of l.laws ≡ map equation_of l.initial.laws ++ map (law_at (sides_from l.sides)) (take l.word-index l.words)
