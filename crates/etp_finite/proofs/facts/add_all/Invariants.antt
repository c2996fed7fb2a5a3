use Rattle.std.proofs.Common.{◌≡◌, take}
use Rattle.etp_closure.specs.Closures.{StandsFor}
use Rattle.etp_finite.specs.Files.{facts_of}
use Rattle.etp_finite.specs.Kept.{files_of}
use Rattle.etp_finite.proofs.facts.add_all.Given as goal

abbrev pub invariant-loop-at : goal.invariant-loop-at
invariant-loop-at l = record {
  same_duals : l.closure.duals ≡ l.fn.closure.duals;
  same_slots : l.closure.slots ≡ l.fn.closure.slots;
  stands : StandsFor l.closure (take l.at (facts_of (files_of l.files.entries)));
}
