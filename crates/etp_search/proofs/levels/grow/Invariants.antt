use Rattle.etp_search.specs.Levels.{IsBeside}
use Rattle.etp_search.specs.Sets.{IsJoined}
use Rattle.etp_search.specs.Programs.{space_of}
use Rattle.etp_search.proofs.levels.grow.Given as goal

abbrev pub invariant-loop-at : goal.invariant-loop-at
invariant-loop-at l = IsJoined (IsBeside (space_of l.space) l.initial.seen l.start l.at) 200000 l.initial.seen l.seen
