use Rattle.std.proofs.Common.{◌≡◌, length}
use Rattle.etp_text.specs.Machine.{behind_name}
use Rattle.etp_text.proofs.token.behind_name.Given as goal

abbrev pub invariant-loop-byte : goal.invariant-loop-byte
invariant-loop-byte l = behind_name l.rest ≡ behind_name l.bytes

abbrev pub decreases-loop-byte : goal.decreases-loop-byte
decreases-loop-byte l = length l.rest
