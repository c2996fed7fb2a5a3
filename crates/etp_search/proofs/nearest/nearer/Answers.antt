use Rattle.std.proofs.Common.{true≢false, refl, sym, ◌∙◌}
use Rattle.etp_term.specs.Terms.{tree_of}
use Rattle.etp_term.specs.Laws.{equation_of}
use Rattle.etp_search.specs.Levels.{skipped}
use Rattle.etp_search.proofs.LeastTerms.{taken_first, taken_lesser}
use Rattle.etp_search.proofs.nearest.nearer.Goals as goal

pub returns-then-not-leads : goal.returns-then-not-leads
returns-then-not-leads c = skipped (λ h. true≢false (sym (c.leads.ensures.1 h) ∙ c.if-not-leads.true)) refl

pub returns-in-None : goal.returns-in-None
returns-in-None c = taken_first (equation_of c.args.law.now) (tree_of c.args.from.now) c.args.least (tree_of c.args.term.now) c.in-None.is (c.leads.ensures.0 c.if-not-leads.false)

pub returns-in-Some : goal.returns-in-Some
returns-in-Some c =
    taken_lesser (equation_of c.args.law.now) (tree_of c.args.from.now) c.args.least c.in-Some.other (tree_of c.args.term.now) (tree_of c.lesser.result.now) c.in-Some.is (c.leads.ensures.0 c.if-not-leads.false) c.lesser.ensures.either c.lesser.ensures.one c.lesser.ensures.other
