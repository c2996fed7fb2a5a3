use Rattle.std.proofs.Common.{◌≡◌, ◌≤◌, length, drop}
use Rattle.etp_term.specs.Positions.{position_of}
use Rattle.etp_lines.specs.ProofLines.{sides_of}
use Rattle.etp_lines.proofs.SideLemmas.{sides_behind}
use Rattle.etp_lines.proofs.proof.read_sides.Given as goal

abbrev pub invariant-loop-letter : goal.invariant-loop-letter
invariant-loop-letter l = record {
  deep : length l.position ≡ l.letter-index;
  few : length l.letters ≤ 4096;
  sides : sides_of l.letters ≡ sides_behind (position_of l.position) (sides_of (drop l.letter-index l.letters));
}
