use Rattle.std.proofs.Common.{rules, codes, decimal}
use Rattle.etp_numbering.proofs.Results.{OnOk-then}
use Rattle.etp_print.proofs.TextLemmas.{four-parts}
use Rattle.etp_print.proofs.table.append_counts.Goals as goal

pub returns : goal.returns
returns c =
    OnOk-then c.append_with-2.result _ _ (λ second. four-parts c.args.text.now c.append_with.new.text c.append_with-2.new.text (codes " size ") (decimal c.args.size) (codes " variables ") (decimal c.args.variables) (search rules) second) (search rules)
