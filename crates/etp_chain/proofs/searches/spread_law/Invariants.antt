use Rattle.etp_chain.proofs.Levels.{Spreading}
use Rattle.etp_chain.proofs.searches.spread_law.Given as goal

abbrev pub decreases-edges : goal.decreases-edges
decreases-edges l = l.last

abbrev pub invariant-edges : goal.invariant-edges
invariant-edges l = Spreading l.from.laws.items l.to.laws.items l.law l.code l.initial.found l.found l.initial.next.items l.next.items l.last
