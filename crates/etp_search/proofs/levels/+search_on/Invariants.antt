use Rattle.std.specs.Prelude.{◌-◌}
use Rattle.etp_search.proofs.levels.+search_on.Given as goal

abbrev pub decreases-search_on : goal.decreases-search_on
decreases-search_on l = l.quest.steps - l.level
