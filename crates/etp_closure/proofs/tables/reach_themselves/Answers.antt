use Rattle.std.proofs.Common.{arith, ◌≡◌, ◌∙◌, ◌&&◌, ◌||◌, nat_eq, nat_le, nat_lt, ap}
use Rattle.etp_bits.specs.Bits.{bit}
use Rattle.etp_closure.proofs.Loops.{itself_more}
use Rattle.etp_closure.proofs.tables.reach_themselves.Goals as goal

pub loop-slot-preserved : goal.loop-slot-preserved
loop-slot-preserved c =
    let before = c.loop-slot.invariant.sizes in
    record {
      sizes = record { rows_stay = c.set.ensures.sizes.rows_stay ∙ before.rows_stay; columns_stay = c.set.ensures.sizes.columns_stay ∙ before.columns_stay };
      bits = itself_more (bit c.args.reached.now) (bit c.loop-slot.reached) (bit c.set.new.self) c.args.first c.loop-slot.slot (omega arith) c.loop-slot.invariant.bits c.set.ensures.bits;
    }

pub returns-clause-bits : goal.returns-clause-bits
returns-clause-bits c = λ row column.
    let all : c.loop-slot.slot ≡ c.args.count = omega arith in
    c.loop-slot.invariant.bits row column ∙ ap (λ n. bit c.args.reached.now row column || (nat_eq row column && (nat_le c.args.first row && nat_lt row n))) all
