use Rattle.etp_chain.proofs.Nearer.{Looking}
use Rattle.etp_chain.proofs.paths.nearer.Given as goal

abbrev pub decreases-edges : goal.decreases-edges
decreases-edges l = l.last

abbrev pub invariant-edges : goal.invariant-edges
invariant-edges l = Looking l.from.laws.items l.to.laws.items l.found l.law l.last l.best
