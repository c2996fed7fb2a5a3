use Rattle.std.proofs.Common.{◌≡◌, ◌++◌, take}
use Rattle.etp_evidence.specs.WhyReplies.{edge_lines}
use Rattle.etp_evidence.proofs.paths.append_path.Given as goal

abbrev pub invariant-edges : goal.invariant-edges
invariant-edges l = l.text ≡ l.initial.text ++ edge_lines l.ledger.files (take l.at l.path)
