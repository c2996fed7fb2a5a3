use Rattle.std.proofs.Common.{◌++◌, ◌∷◌, [], ◌∙◌, codes, ap}
use Rattle.etp_items.specs.Written.{written_numbers}
use Rattle.etp_items.proofs.NumberLemmas.{table_written}
use Rattle.etp_items.proofs.table.writing.append_table.Goals as goal

pub returns : goal.returns
returns c =
    table_written c.append_pieces.result c.args.size c.args.entries.now c.args.text.now c.append_numbers.new.text c.append_pieces.new.text
    (c.in_ok-append_numbers.ensures ∙ ap (λ n. c.args.text.now ++ written_numbers (codes "table") (n ∷ []) ++ 10 ∷ []) c.from.ensures) (rw c.from-2.ensures at c.append_pieces.ensures)
