use Rattle.std.proofs.Common.{arith, ap, refl, ◌≡◌, ◌∙◌}
use Rattle.etp_io.specs.Reader.{Reader}
use Rattle.etp_io.specs.declared.lines.Next.TheVariants.{End}
use Rattle.etp_print.proofs.GivenLemmas.{untrue}
use Rattle.etp_serving.proofs.ShelfReading.{starts-loading, loading-then, loading-all}
use Rattle.etp_serving.proofs.LoadAnswers.{AddsLines, adds-none, adds-line, loaded-lines}
use Rattle.etp_serving.proofs.loading.read_body.Goals as goal

pub read-init : goal.read-init
read-init g c = (starts-loading _ _ _ (AddsLines c.args.filing c.args.filing) _ c.in-Ok.lines (adds-none c.args.filing) c.in-Ok.ensures, omega arith, omega arith, refl)

pub returns-then-is_end-clause-ok : goal.returns-then-is_end-clause-ok
returns-then-is_end-clause-ok g c =
    let over : c.in-Ok-next_at.next ≡ End = c.is_end.ensures.0 c.if-is_end.true in
    let end = c.in-Ok-next_at.ensures.end over in
    let h = c.read.invariant.0 in
    let same = c.read.invariant.3 in
    loaded-lines _ _ c.args.filing c.read.filing
    (loading-all (record { limit = c.args.limit; keeps = g.H.Shelf.keeps c.args.shelf.now }) c.args.name.now (AddsLines c.args.filing c.read.filing) _ _ c.read.lines c.next_at.new.self h
    (rw (c.next_at.ensures.keeps, same) at c.next_at.ensures.fits)
    (rw (c.next_at.ensures.keeps, same, over) at c.in-Ok-next_at.ensures.lines)
    end.0 end.1 c.in-Ok-next_at.ensures.ok c.next_at.ensures.says c.next_at.ensures.limit c.next_at.ensures.taken
    (rw (c.next_at.ensures.keeps, same) at c.next_at.ensures.loses) _ c.next_at.ensures.given
    (rw same at (c.in-Ok-next_at.ensures.lacking h.open_still (λ e. cc))))

pub read-preserved : goal.read-preserved
read-preserved g c =
    let more : c.in-Ok-next_at.next ≡ End → ⊥ = untrue c.is_end.result _ c.is_end.ensures c.if-is_end.false in
    let h = c.read.invariant.0 in
    let same = c.read.invariant.3 in (
      loading-then _ _ _ (AddsLines c.args.filing c.read.filing) (AddsLines c.args.filing c.in-Ok-take_line.more) _ _ _ c.read.lines c.next_at.new.self c.in-Ok-next_at.next _ h
          (rw (c.next_at.ensures.keeps, same) at c.next_at.ensures.fits)
          (rw (c.next_at.ensures.keeps, same) at c.in-Ok-next_at.ensures.lines)
          more c.in-Ok-next_at.ensures.number c.in-Ok-next_at.ensures.ok c.next_at.ensures.says c.next_at.ensures.limit
          (omega (arith, c.lines.invariant.counted, ap (λ (r : Reader). r.number) c.lines.view_is, ap (λ (r : Reader). r.taken) c.lines.view_is)) c.next_at.ensures.taken
          (rw (c.next_at.ensures.keeps, same) at c.next_at.ensures.loses) c.next_at.ensures.given
          c.line_read.ensures.text (λ lines took. adds-line c.args.filing c.read.filing c.in-Ok-take_line.more lines _ took c.in-Ok-take_line.ensures),
      omega (arith, c.read.invariant.1, c.next_at.ensures.later),
      omega (arith, c.read.invariant.2, c.next_at.ensures.given.later),
      c.next_at.ensures.keeps ∙ same,
    )
