use Rattle.std.proofs.Common.{ap, ◌∙◌}
use Rattle.std.specs.Option.{option_map}
use Rattle.etp_finite_body.specs.FiniteBodies.{finite_body_of}
use Rattle.etp_finite.proofs.Naming.{found, seen_body}
use Rattle.etp_finite.proofs.facts.find.Goals as goal

pub returns : goal.returns
returns c = seen_body c.get.result ∙ ap (λ o. option_map (λ kept. finite_body_of kept.body) o) c.get.ensures.value ∙ found c.args.name.now c.args.files.now.entries
