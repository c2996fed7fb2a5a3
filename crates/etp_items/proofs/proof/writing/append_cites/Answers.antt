use Rattle.std.proofs.Common.{◌∙◌}
use Rattle.etp_lines.specs.ProofLines.{cite}
use Rattle.etp_items.proofs.WrittenLemmas.{more_lines}
use Rattle.etp_items.proofs.proof.writing.append_cites.Goals as goal

pub loop-name-preserved : goal.loop-name-preserved
loop-name-preserved c =
    c.in_ok-append_cite.ensures ∙ more_lines cite c.args.cites.now c.loop-name.name-index c.name-item.result c.args.text.now c.loop-name.text c.loop-name-test.true c.name-item.is c.loop-name.invariant
