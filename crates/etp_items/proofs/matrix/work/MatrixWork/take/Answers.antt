use Rattle.std.proofs.Common.{◌≡◌, ◌<◌, ◌+◌, length, true, ap, sym, ◌∙◌, subst, arith, rules}
use Rattle.etp_lines.specs.Said.{matrix_line_of}
use Rattle.etp_lines.specs.MatrixLines.{row, awaits}
use Rattle.etp_items.specs.Work.{TakesInMatrix, with_entries}
use Rattle.etp_items.specs.declared.matrix.work.MatrixWork.{MatrixWork}
use Rattle.etp_items.proofs.MatrixLemmas.{row_taken, rows_few, same_rows}
use Rattle.etp_items.proofs.matrix.work.MatrixWork.take.Goals as goal

pub overflow_add-self : goal.overflow_add-self
overflow_add-self c =
    let old = c.args.self.now in
    let next : awaits old.size old.rows c.in-Row.part ≡ true = sym c.awaits.ensures ∙ c.if-not-awaits.false in
    let small : old.size < 256 = search rules in
    let few = rows_few old.size old.rows c.in-Row.part (omega (arith, small)) next in
    let kept : c.append.new.self.rows ≡ old.rows = ap (λ (w : MatrixWork). w.rows) c.in_ok-append.ensures.ok ∙ same_rows old c.in-Row.part c.as_slice.result.now in
    omega (arith, few, kept)

pub returns-clause-ok : goal.returns-clause-ok
returns-clause-ok c =
    let old = c.args.self.now in
    let said : matrix_line_of c.args.said ≡ row c.in-Row.part c.in-Row.entries = ap matrix_line_of c.in-Row.is in
    let next : awaits old.size old.rows c.in-Row.part ≡ true = sym c.awaits.ensures ∙ c.if-not-awaits.false in
    let long : length c.in-Row.entries ≡ old.size = omega (arith, c.len.ensures, c.from.ensures, c.if-len-from.false) in
    subst (λ (w : MatrixWork). TakesInMatrix old (matrix_line_of c.args.said) (record w { rows = w.rows + 1 }) true)
    (sym (c.in_ok-append.ensures.ok ∙ ap (with_entries old c.in-Row.part) c.as_slice.ensures))
    (row_taken old (matrix_line_of c.args.said) c.in-Row.part c.in-Row.entries said next long)
