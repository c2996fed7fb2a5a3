use Rattle.std.proofs.Common.{length}
use Rattle.etp_text.specs.Machine.{state_of, HasRead}
use Rattle.etp_text.proofs.read.read_text.Given as goal

abbrev pub invariant-loop-next : goal.invariant-loop-next
invariant-loop-next l = HasRead l.grammar l.bytes l.rest (state_of l.reading)

abbrev pub decreases-loop-next : goal.decreases-loop-next
decreases-loop-next l = length l.rest
