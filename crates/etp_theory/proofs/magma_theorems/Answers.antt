use Rattle.etp_theory.specs.Sound.{sound}
use Rattle.etp_theory.proofs.magma_theorems.Goals as goal

pub returns : goal.returns
returns c = record {
  sound = λ inside times closed e f h d. sound inside times closed e h d;
  fails = λ inside times closed e f h r v differ d. differ (sound inside times closed e h d r v);
}
