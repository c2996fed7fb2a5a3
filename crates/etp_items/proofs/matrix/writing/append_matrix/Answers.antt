use Rattle.std.proofs.Common.{◌++◌, ◌∷◌, [], ◌∙◌, codes, ap}
use Rattle.etp_items.specs.Bodies.{matrix_in}
use Rattle.etp_items.specs.Written.{written_numbers}
use Rattle.etp_items.proofs.MatrixText.{matrix_written}
use Rattle.etp_items.proofs.matrix.writing.append_matrix.Goals as goal

pub returns : goal.returns
returns c =
    matrix_written (matrix_in c.args.body.now) c.append_numbers-2.result c.args.text.now c.append_numbers.new.text c.append_pieces.new.text c.append_pieces-2.new.text c.append_numbers-2.new.text
    (c.in_ok-append_numbers.ensures ∙ ap (λ n. c.args.text.now ++ written_numbers (codes "matrix") (c.args.body.now.modulus ∷ n ∷ []) ++ 10 ∷ []) c.from.ensures)
    (rw (c.from-size.ensures, c.as_slice.ensures) at c.in_ok-append_pieces.ensures)
    (rw (c.from-size.ensures, c.as_slice-2.ensures) at c.in_ok-append_pieces-2.ensures)
    (rw c.as_slice-3.ensures at c.append_numbers-2.ensures)
