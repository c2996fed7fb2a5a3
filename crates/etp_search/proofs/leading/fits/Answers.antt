use Rattle.std.proofs.Common.{true≢false, sym}
use Rattle.etp_term.specs.Terms.{tree_of}
use Rattle.etp_match.specs.Bindings.{partial_of}
use Rattle.etp_search.specs.Leading.{sides, IsRootStep}
use Rattle.etp_search.proofs.FirstPlaces.{decided, no_left, no_right, both_fit}
use Rattle.etp_search.proofs.leading.fits.Goals as goal

pub returns-then-not-matches : goal.returns-then-not-matches
returns-then-not-matches c = (
  (λ h. absurd (true≢false (sym h))),
  λ r. absurd (no_left (sides (tree_of c.args.left.now) (tree_of c.args.right.now)) (tree_of c.args.from.now) (tree_of c.args.to.now) c.clear.new.self c.clear.ensures (c.matches.ensures.no c.if-not-matches.true) r),
)

pub returns : goal.returns
returns c =
    let e = sides (tree_of c.args.left.now) (tree_of c.args.right.now) in
    let s = tree_of c.args.from.now in
    let t = tree_of c.args.to.now in
    let first = c.matches.ensures.yes c.if-not-matches.false in (
      (λ h. both_fit e s t c.clear.new.self c.clear.ensures (partial_of c.matches.new.self) first (partial_of c.matches-2.new.self) (c.matches-2.ensures.yes h)),
      decided c.matches-2.result (IsRootStep e s t) (λ h. no_right e s t c.clear.new.self c.clear.ensures (partial_of c.matches.new.self) first (c.matches-2.ensures.no h)),
    )
