use Rattle.std.proofs.Common.{◌≢◌}
use Rattle.csv.specs.declared.writer.QuoteStyle.TheVariants as style
use Rattle.csv.specs.Records.{fields_of}
use Rattle.etp_report.proofs.Records.{plain-row}
use Rattle.etp_report.proofs.block.write_record.Goals as goal

pub returns-clause-text : goal.returns-clause-text
returns-clause-text c =
    let row = fields_of c.args.row.now in
    let styled : c.args.writer.now.cfg.style ≢ style.NonNumeric = rw c.requires.setup (λ e. cc e) in
    let text = c.in-Ok.ensures.bytes c.requires.fresh c.requires.blank styled in
    rw (c.requires.setup, plain-row row c.requires.many c.requires.plain) at text
