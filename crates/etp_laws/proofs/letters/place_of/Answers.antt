use Rattle.std.proofs.Common.{◌≡◌, arith, ◌∙◌, ap, length, ℕ, Option}
use Rattle.std.specs.Option.{unwrap_or}
use Rattle.etp_laws.specs.Occurrences.{place}
use Rattle.etp_laws.proofs.LetterLemmas.{place-position, place-le}
use Rattle.etp_laws.proofs.letters.place_of.Goals as goal

pub returns : goal.returns
returns c =
    let b = place-le c.args.seen.now c.args.v in
    let e : c.unwrap_or.result ≡ place c.args.seen.now c.args.v = c.unwrap_or.ensures ∙ ap (λ (o : Option ℕ). unwrap_or o (length c.args.seen.now)) c.position_of.ensures ∙ place-position c.args.seen.now c.args.v in
    record { place = e; within = omega (arith, b, e) }
