use Rattle.std.proofs.Common.{◌≡◌, ◌++◌, map, take}
use Rattle.etp_lines.specs.ProofLines.{cite}
use Rattle.etp_items.specs.Written.{written_proof_lines}
use Rattle.etp_items.proofs.proof.writing.append_cites.Given as goal

abbrev pub invariant-loop-name : goal.invariant-loop-name
invariant-loop-name l = l.text ≡ l.initial.text ++ written_proof_lines (map cite (take l.name-index l.cites))
