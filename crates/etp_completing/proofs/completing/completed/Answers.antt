use Rattle.std.proofs.Common.{◌≡◌, ℕ, List, ◌++◌, ap, ◌∙◌}
use Rattle.etp_completing.specs.CompletionTexts.{completed_text}
use Rattle.etp_completing.proofs.Valid.{done_valid}
use Rattle.etp_completing.proofs.completing.completed.Goals as goal

pub returns : goal.returns
returns c =
    let laws = c.in_ok-laws.laws.equations in
    let completed = c.in_ok-completed.completed in
    record {
      laws = laws;
      the_list = c.in_ok-laws.ensures.list;
      completed = completed;
      answer = c.in_ok-completed.ensures.answer;
      valid = done_valid laws completed c.in_ok-completed.ensures.valid;
      apart = c.in_ok-completed.ensures.apart;
      joined = c.in_ok-completed.ensures.joined;
      derived = c.in_ok-completed.ensures.derived;
      text_is = c.in_ok-append_completed.ensures ∙ ap (λ (t : List ℕ). t ++ completed_text c.args.completion.target completed) c.empty-text.ensures;
    }
