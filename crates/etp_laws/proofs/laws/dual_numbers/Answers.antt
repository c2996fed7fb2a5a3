use Rattle.std.proofs.Common.{◌++◌, ◌∷◌, [], sym, ◌∙◌}
use Rattle.etp_laws.proofs.LawItems.{dual_numbers-none, dual_numbers-more, small_law}
use Rattle.etp_laws.proofs.laws.dual_numbers.Goals as goal

pub number_of-requires : goal.number_of-requires
number_of-requires c = small_law c.args.laws.now c.loop-law.law-index c.law-item.result c.requires c.loop-law-test.true c.law-item.is

pub loop-law-init : goal.loop-law-init
loop-law-init c = c.from_vec-duals.ensures ∙ c.in_ok-with_capacity.ensures.items ∙ sym dual_numbers-none

pub loop-law-preserved : goal.loop-law-preserved
loop-law-preserved c =
    c.in_ok-push.ensures.ok ∙ (λ i. c.loop-law.invariant i ++ c.number_of.ensures i ∷ [])
    ∙ sym (dual_numbers-more c.args.laws.now c.loop-law.law-index c.law-item.result c.loop-law-test.true c.law-item.is)
