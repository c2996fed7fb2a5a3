use Rattle.etp_gen.specs.Draws.{start}
use Rattle.etp_gen.proofs.Growing.{HasWritten}
use Rattle.etp_gen.proofs.script.generate.Given as goal

abbrev pub invariant-loop-k : goal.invariant-loop-k
invariant-loop-k l = HasWritten l.laws.equations (start l.seed) l.k l.generator l.text
