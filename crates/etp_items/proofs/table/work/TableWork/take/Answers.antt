use Rattle.std.proofs.Common.{◌≡◌, ◌<◌, ◌++◌, length, refl, ap, ◌∙◌, arith}
use Rattle.etp_lines.specs.Said.{table_line_of}
use Rattle.etp_lines.specs.TableLines.{row}
use Rattle.etp_items.proofs.ModelLemmas.{row_taken}
use Rattle.etp_items.proofs.table.work.TableWork.take.Goals as goal

pub returns-clause-ok : goal.returns-clause-ok
returns-clause-ok c rows h =
    let said : table_line_of c.args.said ≡ row c.in-Row.entries = ap table_line_of c.in-Row.is in
    let few : c.args.self.now.rows < c.args.self.now.size = omega arith in
    let long : length c.in-Row.entries ≡ c.args.self.now.size = omega (arith, c.len.ensures, c.from.ensures) in
    row_taken c.args.self.now _ (table_line_of c.args.said) c.in-Row.entries rows h said few long refl refl
    (c.in_ok-append.ensures.ok ∙ ap (λ z. c.args.self.now.entries ++ z) c.as_slice.ensures)
