use Rattle.std.proofs.Common.{true≢false, sym, ◌∙◌, subst}
use Rattle.etp_term.specs.Laws.{equation_of}
use Rattle.etp_search.specs.Programs.{space_of}
use Rattle.etp_search.specs.Outcomes.{IsShortest}
use Rattle.etp_search.proofs.LevelByLevel.{led_at_end, undecided_first}
use Rattle.etp_search.proofs.Answering.{outcome_home}
use Rattle.etp_search.proofs.levels.search.Goals as goal

pub returns-then-is_end : goal.returns-then-is_end
returns-then-is_end c =
    subst (IsShortest (space_of c.args.quest.space) (equation_of c.args.quest.goal.now) c.args.quest.steps) (sym c.in_ok-lemma.ensures)
    (led_at_end (space_of c.args.quest.space) (equation_of c.args.quest.goal.now) c.args.quest.steps (c.is_end.ensures.0 c.if-is_end.true))

pub search_on-requires-clause-undecided : goal.search_on-requires-clause-undecided
search_on-requires-clause-undecided c =
    undecided_first (space_of c.args.quest.space) (equation_of c.args.quest.goal.now) c.in_ok-seen.seen c.in_ok-seen.ensures.level c.in_ok-seen.ensures.few (λ h. true≢false (sym (c.is_end.ensures.1 h) ∙ c.if-is_end.false))

pub returns : goal.returns
returns c = outcome_home (space_of c.args.quest.space) (equation_of c.args.quest.goal.now) c.args.quest.steps c.in_ok-outcome.outcome c.in_ok-outcome.ensures.outcome
