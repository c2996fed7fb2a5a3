use Rattle.std.proofs.Common.{◌+◌, length}
use Rattle.etp_chain.specs.Searches.{missing}
use Rattle.etp_chain.proofs.Levels.{Searching}
use Rattle.etp_chain.proofs.searches.search_levels.Given as goal

abbrev pub decreases-levels : goal.decreases-levels
decreases-levels l = missing l.found + length l.level.items

abbrev pub invariant-levels : goal.invariant-levels
invariant-levels l = Searching l.from.laws.items l.to.laws.items l.first l.code l.found l.level.items l.next.items
