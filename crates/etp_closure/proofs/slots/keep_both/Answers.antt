use Rattle.etp_closure.proofs.SlotLemmas.{reserved}
use Rattle.etp_closure.proofs.slots.keep_both.Goals as goal

pub returns-clause-kept : goal.returns-clause-kept
returns-clause-kept c = λ law.
    reserved c.args.duals.now c.args.first.now c.args.second.now c.args.slots.now c.args.laws.now.items c.keep_all.new.slots c.keep_all.new.laws.items c.keep_all-2.new.slots c.keep_all-2.new.laws.items
    c.in_ok-keep_all.ensures.extends c.in_ok-keep_all-2.ensures.extends c.in_ok-keep_all.ensures.kept c.in_ok-keep_all-2.ensures.kept c.in_ok-keep_all.ensures.only c.in_ok-keep_all-2.ensures.only law
