use Rattle.std.proofs.Common.{◌++◌, ◌∙◌, codes, ap}
use Rattle.etp_items.specs.Written.{written_by, written_numbers, cut}
use Rattle.etp_items.proofs.NumberLemmas.{claims_written}
use Rattle.etp_items.proofs.claims.writing.append_claims.Goals as goal

pub returns : goal.returns
returns c =
    claims_written c.append_pieces-2.result c.args.claims.now.holds c.args.claims.now.fails c.args.text.now c.append_pieces.new.text c.append_pieces-2.new.text
    (c.in_ok-append_pieces.ensures ∙ ap (λ z. c.args.text.now ++ written_by (written_numbers (codes "holds")) (cut 100 z)) c.as_slice.ensures) (rw c.as_slice-2.ensures at c.append_pieces-2.ensures)
