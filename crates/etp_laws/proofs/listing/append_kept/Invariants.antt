use Rattle.std.proofs.Common.{◌≡◌, ◌++◌, map, filter, take}
use Rattle.etp_theory.specs.Trees.{shape_leaves}
use Rattle.etp_term.specs.Laws.{equation_of}
use Rattle.etp_laws.specs.Shapes.{shape_from, sides_from}
use Rattle.etp_laws.specs.Enumeration.{law_at, is_kept}
use Rattle.etp_laws.proofs.listing.append_kept.Given as goal

abbrev pub invariant-loop-word : goal.invariant-loop-word
invariant-loop-word l = map equation_of l.laws ≡ map equation_of l.initial.laws ++ map (law_at (sides_from l.sides)) (filter (is_kept (shape_leaves (shape_from l.sides.left))) (take l.word-index l.words))
