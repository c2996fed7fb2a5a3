use Rattle.std.proofs.Common.{true≢false, sym, ◌∙◌}
use Rattle.etp_term.specs.Terms.{tree_of}
use Rattle.etp_term.specs.Laws.{equation_of}
use Rattle.etp_search.proofs.FirstPlaces.{neither, first_root, first_back}
use Rattle.etp_search.proofs.leading.root_direction.Goals as goal

pub returns-then-fits : goal.returns-then-fits
returns-then-fits c = first_root (equation_of c.args.law.now) (tree_of c.args.from.now) (tree_of c.args.to.now) (c.fits.ensures.0 c.if-fits.true)

pub returns-then-fits-2 : goal.returns-then-fits-2
returns-then-fits-2 c =
    first_back (equation_of c.args.law.now) (tree_of c.args.from.now) (tree_of c.args.to.now) (λ k. true≢false (sym (c.fits.ensures.1 k) ∙ c.if-fits.false)) (c.fits-2.ensures.0 c.if-fits-2.true)

pub returns : goal.returns
returns c =
    neither (equation_of c.args.law.now) (tree_of c.args.from.now) (tree_of c.args.to.now) (λ k. true≢false (sym (c.fits.ensures.1 k) ∙ c.if-fits.false)) (λ k. true≢false (sym (c.fits-2.ensures.1 k) ∙ c.if-fits-2.false))
