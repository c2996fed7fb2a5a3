use Rattle.std.proofs.Common.{sym, ap, ◌∙◌}
use Rattle.std.specs.Ordering.{is_gt}
use Rattle.etp_term.specs.Terms.{tree_of}
use Rattle.etp_search.proofs.LeastTerms.{term_itself, not_gt, gt_turned}
use Rattle.etp_search.proofs.nearest.lesser.Goals as goal

pub returns-then-is_gt-clause-one : goal.returns-then-is_gt-clause-one
returns-then-is_gt-clause-one c = gt_turned (tree_of c.args.one.now) (tree_of c.args.other.now) (ap is_gt (sym c.compare.ensures) ∙ sym c.is_gt.ensures ∙ c.if-is_gt.true)

pub returns-then-is_gt-clause-other : goal.returns-then-is_gt-clause-other
returns-then-is_gt-clause-other c = term_itself (tree_of c.args.other.now)

pub returns-clause-one : goal.returns-clause-one
returns-clause-one c = term_itself (tree_of c.args.one.now)

pub returns-clause-other : goal.returns-clause-other
returns-clause-other c = not_gt (tree_of c.args.one.now) (tree_of c.args.other.now) (ap is_gt (sym c.compare.ensures) ∙ sym c.is_gt.ensures ∙ c.if-is_gt.false)
