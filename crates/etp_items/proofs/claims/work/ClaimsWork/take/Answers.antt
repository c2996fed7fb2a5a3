use Rattle.std.proofs.Common.{◌≡◌, ◌++◌, refl, ap, ◌∙◌}
use Rattle.etp_lines.specs.Said.{claim_line_of}
use Rattle.etp_lines.specs.Claims.{holds, fails}
use Rattle.etp_items.proofs.ModelLemmas.{holds_taken, fails_taken}
use Rattle.etp_items.proofs.claims.work.ClaimsWork.take.Goals as goal

pub returns-in_ok-append-in-Holds-clause-ok : goal.returns-in_ok-append-in-Holds-clause-ok
returns-in_ok-append-in-Holds-clause-ok c =
    let said : claim_line_of c.args.said ≡ holds c.in-Holds.holds = ap claim_line_of c.in-Holds.is in
    holds_taken c.args.self.now _ (claim_line_of c.args.said) c.in-Holds.holds said c.if-self.false refl
    (c.in_ok-append-in-Holds.ensures.ok ∙ ap (λ z. c.args.self.now.claims.holds ++ z) c.as_slice.ensures) refl

pub returns-in_ok-append-in-Fails-clause-ok : goal.returns-in_ok-append-in-Fails-clause-ok
returns-in_ok-append-in-Fails-clause-ok c =
    let said : claim_line_of c.args.said ≡ fails c.in-Fails.fails = ap claim_line_of c.in-Fails.is in
    fails_taken c.args.self.now _ (claim_line_of c.args.said) c.in-Fails.fails said refl refl
    (c.in_ok-append-in-Fails.ensures.ok ∙ ap (λ z. c.args.self.now.claims.fails ++ z) c.as_slice-in-Fails.ensures)
