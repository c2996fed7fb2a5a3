use Rattle.std.proofs.Common.{rules, ◌≡◌, ◌<◌, ◌==◌, None, position, sym, subst, ◌∙◌}
use Rattle.etp_numbering.specs.Numbering.{AreApart}
use Rattle.etp_numbering.proofs.NumberingLemmas.{seen_now, apart_more}
use Rattle.etp_numbering.proofs.numbering.note.Goals as goal

pub returns-in_ok-push-in-None-clause-seen : goal.returns-in_ok-push-in-None-clause-seen
returns-in_ok-push-in-None-clause-seen c =
    let new : position (λ x. x == c.args.variable) c.args.seen.now.items ≡ None = search rules in
    c.in_ok-push-in-None.ensures.items ∙ sym (seen_now c.args.seen.now.items c.args.variable new)

pub returns-in_ok-push-in-None-clause-apart : goal.returns-in_ok-push-in-None-clause-apart
returns-in_ok-push-in-None-clause-apart c =
    let new : position (λ x. x == c.args.variable) c.args.seen.now.items ≡ None = search rules in
    let byte : c.args.variable < 256 = search rules in
    subst AreApart (sym c.in_ok-push-in-None.ensures.items) (apart_more c.args.seen.now.items c.args.variable byte c.requires new)
