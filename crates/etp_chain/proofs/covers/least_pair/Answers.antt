use Rattle.etp_chain.proofs.Pairs.{both_least}
use Rattle.etp_chain.proofs.covers.least_pair.Goals as goal

pub returns-in-Some-least_found : goal.returns-in-Some-least_found
returns-in-Some-least_found c = λ facts file said.
    both_least c.args.duals.now facts c.args.before.now c.args.after.now file c.args.dual c.args.holds.now c.args.fails.now said
    c.in-Some.hold c.in-Some-least_found.fail c.in-Some.ensures c.in-Some-least_found.ensures
