use Rattle.std.proofs.Common.{◌∙◌}
use Rattle.etp_items.proofs.WrittenLemmas.{more_lemmas}
use Rattle.etp_items.proofs.proof.writing.append_lemmas.Goals as goal

pub loop-lemma-preserved : goal.loop-lemma-preserved
loop-lemma-preserved c =
    c.in_ok-append_lemma.ensures ∙ more_lemmas c.args.lemmas.now c.loop-lemma.lemma-index c.lemma-item.result c.args.text.now c.loop-lemma.text c.loop-lemma-test.true c.lemma-item.is c.loop-lemma.invariant
