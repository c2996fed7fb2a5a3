use Rattle.std.proofs.Common.{true≢false, sym, ◌∙◌}
use Rattle.etp_search.proofs.levels.is_end.Goals as goal

pub returns-then-has : goal.returns-then-has
returns-then-has c = ((λ h. (c.has.ensures.0 c.if-has.true, c.same_term.ensures.0 h)), λ h. c.same_term.ensures.1 h.1)

pub returns-else-has : goal.returns-else-has
returns-else-has c = ((λ h. absurd (true≢false (sym h ∙ c.if-has.false))), λ h. absurd (true≢false (sym (c.has.ensures.1 h.0) ∙ c.if-has.false)))
