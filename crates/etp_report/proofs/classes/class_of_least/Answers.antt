use Rattle.std.proofs.Common.{◌∙◌, ◌++◌, ◌∷◌, [], ap, sym, List, ℕ}
use Rattle.etp_report.proofs.Classing.{class-alone}
use Rattle.etp_report.proofs.classes.class_of_least.Goals as goal

pub returns-in_ok-push-in-None : goal.returns-in_ok-push-in-None
returns-in_ok-push-in-None c =
    class-alone c.args.closure.now c.args.e c.requires.e_in (sym c.in-None.ensures.value) c.push.new.self
    (c.in_ok-push-in-None.ensures.ok ∙ ap (λ (xs : List ℕ). xs ++ c.args.e ∷ []) c.empty-class.ensures)
