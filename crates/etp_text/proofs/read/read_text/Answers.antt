use Rattle.std.proofs.Common.{length, eqb-true, false-eqb, ap, sym, ◌∙◌, arith}
use Rattle.std.proofs.lemmas.Result.{err_from_is_err_and}
use Rattle.etp_text.specs.Machine.{state_of}
use Rattle.etp_text.proofs.Answering.{read_length, skip_length, only_blanks, stops_at_byte, stops_at_token, goes_on, goes_down}
use Rattle.etp_text.proofs.read.read_text.Goals as goal

pub place_of-requires-clause-within : goal.place_of-requires-clause-within
place_of-requires-clause-within c = read_length c.args.grammar c.args.bytes.now c.loop-next.rest.now (state_of c.loop-next.reading) c.loop-next.invariant

pub returns-then-is_empty : goal.returns-then-is_empty
returns-then-is_empty c =
    (c.loop-next.rest.now, only_blanks c.loop-next.rest.now c.skip_blanks-next.result.now c.skip_blanks-next.ensures.value (eqb-true (length c.skip_blanks-next.result.now) 0 (sym c.is_empty.ensures ∙ c.if-is_empty.true)), c.loop-next.invariant, c.place_of.ensures)

pub place_of-at-requires-clause-within : goal.place_of-at-requires-clause-within
place_of-at-requires-clause-within c =
    omega (arith, read_length c.args.grammar c.args.bytes.now c.loop-next.rest.now (state_of c.loop-next.reading) c.loop-next.invariant, skip_length c.loop-next.rest.now, ap length c.skip_blanks-next.ensures.value)

pub returns-in_default : goal.returns-in_default
returns-in_default c =
    stops_at_byte c.args.grammar c.args.bytes.now c.loop-next.rest.now c.skip_blanks-next.result.now (state_of c.loop-next.reading) c.place_of-at.result
    c.loop-next.invariant c.skip_blanks-next.ensures.value (false-eqb (length c.skip_blanks-next.result.now) 0 (sym c.if-is_empty.false ∙ c.is_empty.ensures)) c.place_of-at.ensures (sym c.in_default.ensures)

pub returns-in_err-advance : goal.returns-in_err-advance
returns-in_err-advance c =
    let p = err_from_is_err_and c.from_residual.result c.from_residual.ensures.1 in
    rw (p.1, p.2) (stops_at_token c.args.grammar c.args.bytes.now c.loop-next.rest.now c.skip_blanks-next.result.now c.in-Some.behind.now c.in-Some.token (state_of c.loop-next.reading) (state_of c.advance.new.self) c.place_of-at.result c.in_err-advance.field-0.0
    c.loop-next.invariant c.skip_blanks-next.ensures.value c.place_of-at.ensures (sym c.in-Some.ensures) c.in_err-advance.ensures)

pub loop-next-smaller : goal.loop-next-smaller
loop-next-smaller c = goes_down c.loop-next.rest.now c.skip_blanks-next.result.now c.in-Some.behind.now c.in-Some.token c.skip_blanks-next.ensures.value (sym c.in-Some.ensures)

pub loop-next-preserved : goal.loop-next-preserved
loop-next-preserved c =
    goes_on c.args.grammar c.args.bytes.now c.loop-next.rest.now c.skip_blanks-next.result.now c.in-Some.behind.now c.in-Some.token (state_of c.loop-next.reading) (state_of c.advance.new.self)
    c.loop-next.invariant c.skip_blanks-next.ensures.value (sym c.in-Some.ensures) c.in_ok-advance.ensures
