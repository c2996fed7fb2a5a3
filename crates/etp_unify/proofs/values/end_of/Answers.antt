use Rattle.std.proofs.Common.{◌≡◌, sym, ap, ◌∙◌, subst}
use Rattle.etp_theory.specs.Trees.{var}
use Rattle.etp_term.specs.Terms.{tree_of}
use Rattle.etp_term.proofs.Opened.{tree_of-var}
use Rattle.etp_match.specs.Bindings.{partial_of}
use Rattle.etp_unify.specs.Values.{Leads, here}
use Rattle.etp_unify.proofs.Pairs.{leads_further}
use Rattle.etp_unify.proofs.Resolved.{lighter_value}
use Rattle.etp_unify.proofs.values.end_of.Goals as goal

pub loop-end-init : goal.loop-end-init
loop-end-init c = here (tree_of c.args.term.now)

pub loop-end-smaller : goal.loop-end-smaller
loop-end-smaller c =
    let is : tree_of c.loop-end.end.now ≡ var c.in-Var.v = ap tree_of c.in-Var.is ∙ tree_of-var _ in
    lighter_value c.args.bindings.now c.requires _ _ c.in-Var.v is (sym c.in-Some.ensures)

pub loop-end-preserved : goal.loop-end-preserved
loop-end-preserved c =
    let is : tree_of c.loop-end.end.now ≡ var c.in-Var.v = ap tree_of c.in-Var.is ∙ tree_of-var _ in
    leads_further (partial_of c.args.bindings.now) _ c.in-Var.v _ (subst (Leads (partial_of c.args.bindings.now) (tree_of c.args.term.now)) is c.loop-end.invariant) (sym c.in-Some.ensures)
