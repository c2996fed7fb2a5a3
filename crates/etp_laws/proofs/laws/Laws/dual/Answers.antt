use Rattle.std.proofs.Common.{◌-◌, Some, None, sym, ◌∙◌, ap, arith}
use Rattle.std.specs.List.{slice_get}
use Rattle.std.proofs.lemmas.Option.{get_or_from_slice_get}
use Rattle.etp_laws.specs.LawLists.{LawList}
use Rattle.etp_laws.proofs.DualNumbers.{duals_of, dual_answer}
use Rattle.etp_laws.proofs.laws.Laws.dual.Goals as goal

pub returns-in-None-clause-exact : goal.returns-in-None-clause-exact
returns-in-None-clause-exact c =
    dual_answer c.args.self.now.equations c.args.self.now.duals c.args.n None
    (duals_of c.args.self.now c.self.inside.order _ _ c.self.view_is c.self.invariant.1 c.self.invariant.2 c.self.invariant.3)
    (omega arith)
    (c.in-None.ensures.value ∙ ap (λ (l : LawList). slice_get l.duals (c.args.n - 1)) c.self.view_is)

pub returns-in-Some-clause-exact : goal.returns-in-Some-clause-exact
returns-in-Some-clause-exact c =
    dual_answer c.args.self.now.equations c.args.self.now.duals c.args.n (Some c.in-Some.m.now)
    (duals_of c.args.self.now c.self.inside.order _ _ c.self.view_is c.self.invariant.1 c.self.invariant.2 c.self.invariant.3)
    (omega arith)
    (c.in-Some.ensures.value ∙ ap (λ (l : LawList). slice_get l.duals (c.args.n - 1)) c.self.view_is)

pub returns-in-Some-clause-list : goal.returns-in-Some-clause-list
returns-in-Some-clause-list c =
    sym (get_or_from_slice_get c.args.self.now.duals (c.args.n - 1) c.in-Some.m.now 0 (sym (c.in-Some.ensures.value ∙ ap (λ (l : LawList). slice_get l.duals (c.args.n - 1)) c.self.view_is)))
