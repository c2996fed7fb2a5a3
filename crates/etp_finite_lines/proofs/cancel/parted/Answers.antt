use Rattle.std.proofs.Common.{◌+◌, length-drop, take, take_all, sym, subst, arith}
use Rattle.etp_finite_lines.specs.CancelLines.{IsParted}
use Rattle.etp_finite_lines.proofs.PartedLemmas.{none_found, found_parts}
use Rattle.etp_finite_lines.proofs.cancel.parted.Goals as goal

pub returns-in_err-at-clause-parts : goal.returns-in_err-at-clause-parts
returns-in_err-at-clause-parts c = rw c.from_residual.ensures (λ left right d. none_found c.args.text.now left right (rw c.in_err-at.was at c.find.ensures) d)

pub returns-clause-parts : goal.returns-clause-parts
returns-clause-parts c =
    let text = c.args.text.now in
    let k = c.in_ok-at.at in
    let found = c.in_ok-at.ensures in
    let fits = found.1.fits in
    subst (λ z. IsParted text (take k text) z) (sym (take_all _ _ (omega (arith, length-drop (k + 1) text)))) (found_parts text k found)
