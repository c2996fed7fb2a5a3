use Rattle.etp_theory.proofs.Matching.{next_some, next_none}
use Rattle.etp_theory.proofs.NormalForms.{normal_steps, normal_end}
use Rattle.etp_theory.proofs.Convergent.{form_is}
use Rattle.etp_theory.proofs.Ends.{ends, one_form, form_or_wide, form_or_going, wide_or_going}
use Rattle.etp_theory.proofs.Firing.{fired_next, fired_at}
use Rattle.etp_theory.proofs.FiredFirst.{fired_first, irreflexive, transitive, total}
use Rattle.etp_theory.proofs.strategy_theorems.Goals as goal

pub returns : goal.returns
returns c = record {
  taken = next_some;
  none_left = λ rules s t h d. next_none rules h d;
  reached = normal_steps;
  ended = normal_end;
  form = form_is;
  ends = ends;
  one_form = one_form;
  form_not_wide = form_or_wide;
  form_not_long = form_or_going;
  one_limit = wide_or_going;
  fired_next = fired_next;
  fired_at = fired_at;
  fired_first = fired_first;
  tried_irreflexive = irreflexive;
  tried_transitive = transitive;
  tried_total = total;
}
