use Rattle.std.proofs.Common.{List, ℕ, ◌++◌, ◌∙◌, ap, append_assoc, codes, decimal}
use Rattle.etp_print.specs.RulesTexts.{cause_text}
use Rattle.etp_numbering.proofs.Results.{OnOk-then}
use Rattle.etp_print.proofs.rules.append_rules_refusal.Goals as goal

pub returns-in_ok-append_with-in-NotDecreasing : goal.returns-in_ok-append_with-in-NotDecreasing
returns-in_ok-append_with-in-NotDecreasing c =
    rw c.in-NotDecreasing.is (OnOk-then c.append_cause.result _ _ (λ h.
    h ∙ ap (λ (s : List ℕ). s ++ cause_text c.in-NotDecreasing.cause) c.in_ok-append_with-in-NotDecreasing.ensures
    ∙ append_assoc c.args.text.now (codes "not decreasing rule " ++ decimal c.in-NotDecreasing.rule) (cause_text c.in-NotDecreasing.cause)) c.append_cause.ensures)
