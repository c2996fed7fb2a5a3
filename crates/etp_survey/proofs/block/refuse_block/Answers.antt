use Rattle.std.proofs.Common.{◌≡◌, ◌∙◌, ◌++◌, ap, List, ℕ}
use Rattle.std.specs.Prelude.{codes, decimal}
use Rattle.etp_print.specs.Texts.{reply_text, refused}
use Rattle.etp_print.proofs.GivenLemmas.{IfOk-then}
use Rattle.etp_survey.proofs.block.refuse_block.Goals as goal

pub returns : goal.returns
returns c =
    let spelled : c.as_slice.result.now ++ decimal c.args.last ≡ codes "block " ++ decimal c.args.first ++ codes " " ++ decimal c.args.last =
    ap (λ (x : List ℕ). x ++ decimal c.args.last) (c.as_slice.ensures ∙ c.in_ok-why.ensures) in
    IfOk-then c.refuse_with.result _ _ (λ flag h. (h.0 ∙ ap (λ (why : List ℕ). reply_text c.args.line (refused why)) spelled, h.1)) c.refuse_with.ensures
