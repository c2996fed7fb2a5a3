use Rattle.etp_chain.proofs.Pairs.{LeastUpTo}
use Rattle.etp_chain.proofs.covers.least_found.Given as goal

abbrev pub invariant-loop-law : goal.invariant-loop-law
invariant-loop-law l = LeastUpTo l.duals l.dual l.found l.laws l.law-index l.least
