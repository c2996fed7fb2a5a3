use Rattle.std.proofs.Common.{◌/◌, ◌&&◌, nat_lt, length, Bool, ℕ}
use Rattle.etp_bits.specs.Words.{lit}
use Rattle.etp_bits.proofs.Joins.{places_more, places_same, places_none}
use Rattle.etp_bits.proofs.words.join_some.Goals as goal
use Rattle.etp_bits.proofs.words.join_some.Goals.{then-line-place-ne0, else-line-place-ne0}

pub loop-place-init : goal.loop-place-init
loop-place-init c = places_none c.args.words.now c.args.line.now c.args.stride (λ row. nat_lt (row / 64) (length c.args.marks.now) && lit c.args.marks.now 0 row)

pub loop-place-preserved : goal.loop-place-preserved
loop-place-preserved c =
    let old = c.args.words.now in
    let line = c.args.line.now in
    let marked : ℕ → Bool = λ row. nat_lt (row / 64) (length c.args.marks.now) && lit c.args.marks.now 0 row in
    let place = c.loop-place.place in
    elim c.if-line-place-ne0.branch [
      | then-line-place-ne0 w ↦
          rw w.words-is (places_more old c.loop-place.words w.join_places.new.words line c.args.stride place marked c.loop-place.invariant w.join_places.ensures)
      | else-line-place-ne0 w ↦
          rw w.words-is (places_same old c.loop-place.words line c.args.stride place marked w.if-line-place-ne0.false c.loop-place.invariant)
    ]
