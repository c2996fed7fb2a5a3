use Rattle.std.proofs.Common.{map, ap}
use Rattle.etp_term.specs.Terms.{tree_of}
use Rattle.etp_proof.specs.Lemmas.{step_of}
use Rattle.etp_search.proofs.levels.no_steps.Goals as goal

pub returns : goal.returns
returns c = λ i. record { start = ap tree_of c.in_ok-start.ensures i; steps = ap (map step_of) c.empty-steps.ensures i }
