use Rattle.std.proofs.Common.{Some, sym, subst}
use Rattle.etp_items.specs.Bodies.{FileBody}
use Rattle.etp_items.specs.Work.{IsWhole}
use Rattle.etp_items.specs.declared.work.Work.TheVariants.{Model}
use Rattle.etp_items.proofs.ModelLemmas.{model_whole, not_false}
use Rattle.etp_items.proofs.model.ModelWork.into_body.Goals as goal

pub returns : goal.returns
returns c =
    subst (λ (b : FileBody). IsWhole (Model c.args.self) (Some b)) (sym c.into_body.ensures)
    (model_whole c.args.self c.in_ok-claims.claims c.in_ok-claims.was (not_false c.in_ok-claims.claims.failing c.if-not-claims.false))
