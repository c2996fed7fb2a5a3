use Rattle.etp_bits.specs.Words.{JoinsWords}
use Rattle.etp_bits.proofs.words.join_words.Given as goal

abbrev pub invariant-loop-place : goal.invariant-loop-place
invariant-loop-place l = JoinsWords l.initial.words l.words l.other l.into l.from l.place
