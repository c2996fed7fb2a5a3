use Rattle.etp_finite_lines.proofs.PartedLemmas.{no_outer, no_inner}
use Rattle.etp_finite_lines.proofs.cancel.cancel_line.Goals as goal

pub returns-in_default-3 : goal.returns-in_default-3
returns-in_default-3 c =
    no_outer c.args.line.now c.in-Some.words.outer.now c.in-Some.words.inner.now c.in-Some.ensures.words.parted (rw c.in_default-3.is at c.in_ok-outer.ensures)

pub returns-in_default-4 : goal.returns-in_default-4
returns-in_default-4 c =
    no_inner c.args.line.now c.in-Some.words.outer.now c.in-Some.words.inner.now c.in-Some.ensures.words.parted (rw c.in_default-4.is at c.in_ok-inner.ensures)
