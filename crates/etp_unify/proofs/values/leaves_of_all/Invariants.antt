use Rattle.std.proofs.Common.{◌≡◌, ◌≤◌, length}
use Rattle.etp_unify.specs.Values.{AreCounted, AreWithin}
use Rattle.etp_unify.proofs.values.leaves_of_all.Given as goal

abbrev pub invariant-loop-v : goal.invariant-loop-v
invariant-loop-v l = (length l.known ≡ 256) × AreCounted l.bindings l.known × (l.count ≤ 4294967296) × AreWithin l.bindings l.v l.count
