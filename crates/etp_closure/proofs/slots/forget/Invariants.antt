use Rattle.etp_closure.proofs.SlotLemmas.{Forgets}
use Rattle.etp_closure.proofs.slots.forget.Given as goal

abbrev pub invariant-loop-place : goal.invariant-loop-place
invariant-loop-place l = Forgets l.initial.slots l.slots l.count l.place
