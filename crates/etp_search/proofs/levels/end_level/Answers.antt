use Rattle.std.proofs.Common.{true≢false, sym, ap, ◌∙◌}
use Rattle.etp_term.specs.Terms.{tree_of}
use Rattle.etp_search.specs.Programs.{space_of}
use Rattle.etp_search.proofs.LevelByLevel.{level_none, level_end, end_short}
use Rattle.etp_search.proofs.levels.end_level.Goals as goal

pub returns-then-not-has-clause-level : goal.returns-then-not-has-clause-level
returns-then-not-has-clause-level c = level_none (space_of c.args.space) (tree_of c.args.end.now) c.empty-seen.result c.empty-seen.ensures (λ h. true≢false (sym (c.has.ensures.1 h) ∙ c.if-not-has.true))

pub returns-clause-level : goal.returns-clause-level
returns-clause-level c = level_end (space_of c.args.space) (tree_of c.args.end.now) (tree_of c.in_ok-end.end) c.empty-seen.result c.add.new.self c.empty-seen.ensures (ap tree_of c.in_ok-end.ensures) c.in_ok-add.ensures (c.has.ensures.0 c.if-not-has.false)

pub returns-clause-few : goal.returns-clause-few
returns-clause-few c = end_short c.empty-seen.result c.add.new.self (tree_of c.in_ok-end.end) c.empty-seen.ensures c.in_ok-add.ensures
