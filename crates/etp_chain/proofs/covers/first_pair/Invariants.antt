use Rattle.etp_chain.specs.Evidence.{HasNoPairBefore, turn_of}
use Rattle.etp_chain.specs.Searches.{IsFound}
use Rattle.std.proofs.Common.{false}
use Rattle.etp_chain.proofs.covers.first_pair.Given as goal

abbrev pub invariant-loop-file : goal.invariant-loop-file
invariant-loop-file g l = HasNoPairBefore l.duals (g.L.Facts.said l.facts) (IsFound l.before) (IsFound l.after) (turn_of l.file false)
