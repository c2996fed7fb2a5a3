use Rattle.std.proofs.Common.{arith, ◌≡◌, ◌+◌, ap, inl, refl, ◌∙◌}
use Rattle.etp_print.proofs.GivenLemmas.{untrue}
use Rattle.std.specs.Prelude.{Err}
use Rattle.etp_io.specs.declared.lines.Next.TheVariants.{End}
use Rattle.etp_serving.specs.declared.serving.Ending.TheVariants.{ReadFault, WriteFault, NoMemory, TooMuch}
use Rattle.etp_serving.proofs.Running.{starts-running, running-then, ends-well, ends-in_reply, ends-before_close, ends-between, ends-in_close, takes-within, takes-now, stops, stops-at_fault, stops-at_name, untouched-yet, untouched-after}
use Rattle.etp_serving.proofs.Taking.{goes-on}
use Rattle.etp_serving.proofs.GivenTexts.{gives-line, closes-text, closes-some}
use Rattle.etp_serving.proofs.EndLemmas.{session-ends, close-ends, early-ends, ends-at_once, takes-none, done-close}
use Rattle.etp_serving.proofs.serving.serve_lines.Goals as goal

-- no line was answered yet
pub served-init : goal.served-init
served-init g c = (
  starts-running _ _ _ _ _ _ c.requires.unread _ c.requires.first,
  c.requires.laws,
  omega arith,
  omega arith,
  omega arith,
  omega arith,
  refl,
  untouched-yet _ _ _,
)

pub returns-in-Err-ReadFault : goal.returns-in-Err-ReadFault
returns-in-Err-ReadFault g c =
    let open_still = c.served.invariant.0.open_still in
    let failed = c.in-Err-ReadFault.is ∙ ap Err c.in-Err-ReadFault.field-0-is in
    let rose = c.next.ensures.read_fault open_still failed in
    let says = rw (c.in-Err-ReadFault.ensures.err, c.in-Err-ReadFault.field-0-is) at c.next.ensures.says in
    session-ends _ _ _ ReadFault (
      inl (
        omega (arith, rose, c.served.invariant.2),
        stops-at_fault _ _ _ _ _ _ _ _ _ _ _ _ c.next.new.self _ _ c.served.invariant.0
            (goes-on c.next.result _ _ c.in-Err-ReadFault.is (λ t. (c.next.ensures.after_end open_still t).0))
            (c.next.ensures.before open_still c.served.invariant.0.fits)
            (c.next.ensures.last_none open_still failed)
            says c.next.ensures.limit c.next.ensures.taken c.next.ensures.loses c.next.ensures.given,
      ),
      takes-within _ _ _ _ _ _ _ _ _ _ _ c.next.new.self _ _ c.served.invariant.0 says c.next.ensures.limit c.next.ensures.taken c.next.ensures.loses c.next.ensures.given,
    )
    c.served.invariant.6 c.served.invariant.7

pub returns-in-Err-TooMuch : goal.returns-in-Err-TooMuch
returns-in-Err-TooMuch g c =
    let open_still = c.served.invariant.0.open_still in
    let says = rw (c.in-Err-TooMuch.ensures.err, c.in-Err-TooMuch.field-0-is) at c.next.ensures.says in
    let amount : c.next.new.self.taken ≡ c.args.limit + 1 = omega (arith, says.0, c.next.ensures.limit, c.served.invariant.0.limited) in
    session-ends _ _ _ TooMuch
    (inl (
      rw amount at (takes-now _ _ _ _ _ _ _ _ _ _ _ c.next.new.self _ _ c.served.invariant.0 c.next.ensures.taken c.next.ensures.loses c.next.ensures.given),
      rw amount at (stops _ _ _ _ _ _ _ _ _ _ c.next.new.self _ _ c.served.invariant.0
          (goes-on c.next.result _ _ c.in-Err-TooMuch.is (λ t. (c.next.ensures.after_end open_still t).0))
          (c.next.ensures.before open_still c.served.invariant.0.fits)
          (c.in-Err-TooMuch.ensures.last open_still) c.next.ensures.taken),
    ))
    c.served.invariant.6 c.served.invariant.7

pub returns-then-is_end : goal.returns-then-is_end
returns-then-is_end g c =
    let over : c.in-Ok.next ≡ End = c.is_end.ensures.0 c.if-is_end.true in
    let end = c.in-Ok.ensures.end over in
    close-ends _ _ _ c.close.result c.close.ensures.ends
    (done-close c.close.result _ _ c.close.ensures.done (λ bad w.
    ends-well _ _ _ _ _ _ _ _ _ _ _ _ c.next.new.self _ bad _ c.served.invariant.0 c.next.ensures.fits (λ f. rw over at (c.in-Ok.ensures.lines f)) end.0 end.1 (λ state now. closes-text _ _ _ _ _ _ (w state now))))
    (λ e. ends-before_close _ _ _ _ _ _ _ _ _ _ _ _ c.served.invariant.0 (c.close.ensures.memory e))
    (λ e. (
      (let rose = c.close.ensures.cause e in omega (arith, rose, c.served.invariant.3)),
      ends-in_close _ _ _ _ _ _ _ _ _ _ _ _ c.next.new.self _ _ c.served.invariant.0 c.next.ensures.fits (λ f. rw over at (c.in-Ok.ensures.lines f)) end.0 end.1 (λ state now. closes-some _ _ _ _ _ (c.close.ensures.write e state now)),
    ))
    (takes-within _ _ _ _ _ _ _ _ _ _ _ c.next.new.self _ _ c.served.invariant.0
    (rw c.in-Ok.ensures.ok at c.next.ensures.says) c.next.ensures.limit c.next.ensures.taken c.next.ensures.loses c.next.ensures.given)
    c.served.invariant.6 c.served.invariant.7

pub close-requires : goal.close-requires
close-requires g c = record { state = c.served.invariant.0.state; stands = c.served.invariant.0.stands; laws = c.served.invariant.1 }

pub returns-in-Err : goal.returns-in-Err
returns-in-Err g c =
    let more : c.in-Ok.next ≡ End → ⊥ = untrue c.is_end.result _ c.is_end.ensures c.if-is_end.false in
    let running = c.served.invariant.0 in
    early-ends _ _ _ c.in-Err.ending c.in-Err.ensures.errors (ends-between _ _ _ _ _ _ _ _ _ _ _ running)
    (λ e.
    let said = c.in-Err.ensures.read (ap Err e) in (
      omega (arith, said.0, c.served.invariant.4),
      stops-at_name _ _ _ _ _ _ _ _ _ _ _ c.next.new.self _ c.in-Ok.next _ _ running
          c.in-Ok.ensures.lines more c.in-Ok.ensures.number c.in-Ok.ensures.ok c.next.ensures.says c.next.ensures.limit
          c.next.ensures.taken c.next.ensures.loses c.next.ensures.given (rw c.line_read-line.ensures.text at (said.1 running.state running.stands)),
    ))
    (λ e.
    let said = c.in-Err.ensures.too_much (ap Err e) running.state running.stands in
    record {
      name = said.name;
      stops = stops-at_name _ _ _ _ _ _ _ _ _ _ _ c.next.new.self _ c.in-Ok.next _ _ running
          c.in-Ok.ensures.lines more c.in-Ok.ensures.number c.in-Ok.ensures.ok c.next.ensures.says c.next.ensures.limit
          c.next.ensures.taken c.next.ensures.loses c.next.ensures.given (rw c.line_read-line.ensures.text at said.reaches);
      long = rw c.served.invariant.6 at said.long;
      risen = omega (arith, said.risen, c.served.invariant.5);
    })
    (takes-within _ _ _ _ _ _ _ _ _ _ _ c.next.new.self _ _ running
    (rw c.in-Ok.ensures.ok at c.next.ensures.says) c.next.ensures.limit c.next.ensures.taken c.next.ensures.loses c.next.ensures.given)
    (c.answer_line.ensures.keeps ∙ c.served.invariant.6)
    (untouched-after _ _ _ _ _ _ _ _ _ _ _ c.next.new.self _ c.in-Ok.next _ _ _ _ running
    c.in-Ok.ensures.lines more c.in-Ok.ensures.number c.in-Ok.ensures.ok c.next.ensures.says c.next.ensures.limit
    c.next.ensures.taken c.next.ensures.loses c.next.ensures.given c.served.invariant.7
    (rw c.line_read-line.ensures.text at (c.answer_line.ensures.untouched running.state running.stands)))

pub returns-in-Err-write_all : goal.returns-in-Err-write_all
returns-in-Err-write_all g c =
    let more : c.in-Ok.next ≡ End → ⊥ = untrue c.is_end.result _ c.is_end.ensures c.if-is_end.false in
    let running = c.served.invariant.0 in
    session-ends _ _ _ WriteFault (
      omega (arith, (rw c.in-Err-write_all.is at c.write_all.ensures.cause.failed), c.served.invariant.3),
      ends-in_reply _ _ _ _ _ _ _ _ _ _ _ c.next.new.self _ c.in-Ok-answer_line.also c.in-Ok.next c.answer_line.new.text _ _ running
          c.in-Ok.ensures.lines more c.in-Ok.ensures.number (λ state now. gives-line _ _ _ _ _ _ _ (rw (c.line_read-line.ensures.text, c.number.ensures.number, c.served.invariant.6) at (c.in-Ok-answer_line.ensures.ok state now)))
          (rw c.as_slice.ensures at c.in-Err-write_all.ensures.err),
      takes-within _ _ _ _ _ _ _ _ _ _ _ c.next.new.self _ _ running
          (rw c.in-Ok.ensures.ok at c.next.ensures.says) c.next.ensures.limit c.next.ensures.taken c.next.ensures.loses c.next.ensures.given,
    )
    (c.answer_line.ensures.keeps ∙ c.served.invariant.6)
    (untouched-after _ _ _ _ _ _ _ _ _ _ _ c.next.new.self _ c.in-Ok.next _ _ _ _ running
    c.in-Ok.ensures.lines more c.in-Ok.ensures.number c.in-Ok.ensures.ok c.next.ensures.says c.next.ensures.limit
    c.next.ensures.taken c.next.ensures.loses c.next.ensures.given c.served.invariant.7
    (rw c.line_read-line.ensures.text at (c.answer_line.ensures.untouched running.state running.stands)))

pub served-preserved : goal.served-preserved
served-preserved g c =
    let more : c.in-Ok.next ≡ End → ⊥ = untrue c.is_end.result _ c.is_end.ensures c.if-is_end.false in
    let running = c.served.invariant.0 in (
      rw c.either-refused.ensures
          (running-then _ _ _ _ _ _ _ _ _ _ _ _ _ c.next.new.self _ c.in-Ok-answer_line.also c.in-Ok.next c.answer_line.new.text _ _ c.served.invariant.0
          c.next.ensures.fits c.in-Ok.ensures.lines more c.in-Ok.ensures.number c.in-Ok.ensures.ok c.next.ensures.says c.next.ensures.limit
          (omega (arith, c.number.ensures.counted)) c.next.ensures.taken c.next.ensures.loses c.next.ensures.given
          (λ state now. gives-line _ _ _ _ _ _ _ (rw (c.line_read-line.ensures.text, c.number.ensures.number, c.served.invariant.6) at (c.in-Ok-answer_line.ensures.ok state now)))
          (rw c.as_slice.ensures at c.in-Ok-write_all.ensures.ok)),
      c.in-Ok-answer_line.ensures.laws,
      omega (arith, c.served.invariant.2, c.next.ensures.later),
      omega (arith, c.served.invariant.3, c.write_all.ensures.cause.later),
      omega (arith, c.served.invariant.4, c.answer_line.ensures.later.0),
      omega (arith, c.served.invariant.5, c.answer_line.ensures.later.1),
      c.answer_line.ensures.keeps ∙ c.served.invariant.6,
      untouched-after _ _ _ _ _ _ _ _ _ _ _ c.next.new.self _ c.in-Ok.next _ _ _ _ running
          c.in-Ok.ensures.lines more c.in-Ok.ensures.number c.in-Ok.ensures.ok c.next.ensures.says c.next.ensures.limit
          c.next.ensures.taken c.next.ensures.loses c.next.ensures.given c.served.invariant.7
          (rw c.line_read-line.ensures.text at (c.answer_line.ensures.untouched running.state running.stands)),
    )
