use Rattle.std.proofs.Common.{◌≡◌, ◌++◌, map, take}
use Rattle.etp_proof.specs.Lemmas.{step_of}
use Rattle.etp_lines.specs.ProofLines.{step}
use Rattle.etp_items.specs.Written.{written_proof_lines}
use Rattle.etp_items.proofs.proof.writing.append_steps.Given as goal

abbrev pub invariant-loop-step : goal.invariant-loop-step
invariant-loop-step l = l.text ≡ l.initial.text ++ written_proof_lines (map step (map step_of (take l.step-index l.steps)))
