use Rattle.std.proofs.Common.{◌≡◌, map, take}
use Rattle.etp_replay.specs.Lines.{cites_of}
use Rattle.etp_replay.specs.Validity.{law_at}
use Rattle.etp_replay.proofs.judging.cited_laws.Given as goal

abbrev pub invariant-loop-number : goal.invariant-loop-number
invariant-loop-number l = cites_of l.cites.items ≡ map (law_at l.laws.equations) (take l.number-index l.cited)
