use Rattle.std.proofs.Common.{[], ◌∷◌, map, ap, ◌∙◌}
use Rattle.std.proofs.lemmas.List.{map-append}
use Rattle.etp_term.specs.Terms.{tree_of}
use Rattle.etp_proof.specs.Lemmas.{step_of}
use Rattle.etp_search.proofs.levels.with_step.Goals as goal

pub returns : goal.returns
returns c =
    let steps = ap (map step_of) c.in_ok-push.ensures.ok ∙ map-append step_of c.args.lemma.steps (c.args.step ∷ []) in
    λ i. record { start = tree_of c.args.lemma.start; steps = steps i }
