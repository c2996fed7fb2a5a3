use Rattle.std.proofs.Common.{false, ◌-◌, length, slice_get, sym, ap, ◌∙◌, List}
use Rattle.etp_finite_body.specs.declared.lemmas.FiniteLemma.{FiniteLemma}
use Rattle.etp_finite_body.specs.Growing.{is_steps}
use Rattle.etp_finite_body.proofs.LastStep.{ends_last}
use Rattle.etp_finite_body.proofs.lemmas.FiniteLemmas.ends_in_steps.Goals as goal

pub returns-in-Some-Steps : goal.returns-in-Some-Steps
returns-in-Some-Steps c =
    sym (ends_last false c.args.self.now c.in-Some-Steps.field-0.now
    (ap (λ (xs : List FiniteLemma). slice_get xs (length xs - 1)) (sym c.as_slice.ensures.value) ∙ sym c.in-Some-Steps.ensures.value)
    ∙ ap is_steps c.in-Some-Steps.field-0-is)

pub returns-in-Some-Cancel : goal.returns-in-Some-Cancel
returns-in-Some-Cancel c =
    sym (ends_last false c.args.self.now c.in-Some-Cancel.field-0.now
    (ap (λ (xs : List FiniteLemma). slice_get xs (length xs - 1)) (sym c.as_slice.ensures.value) ∙ sym c.in-Some-Cancel.ensures.value)
    ∙ ap is_steps c.in-Some-Cancel.field-0-is)
