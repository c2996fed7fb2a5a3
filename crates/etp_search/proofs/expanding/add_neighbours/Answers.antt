use Rattle.etp_term.specs.Terms.{tree_of}
use Rattle.etp_term.proofs.Opened.{tree_of-var}
use Rattle.etp_search.specs.Programs.{space_of}
use Rattle.etp_search.proofs.Stepping.{joined_neighbours}
use Rattle.etp_search.proofs.expanding.add_neighbours.Goals as goal

pub returns : goal.returns
returns c = joined_neighbours (space_of c.args.space) c.args.most (tree_of c.args.term.now) c.args.found.now c.add_steps.new.found _ (tree_of-var 255) c.requires.term c.in_ok-add_steps.ensures
