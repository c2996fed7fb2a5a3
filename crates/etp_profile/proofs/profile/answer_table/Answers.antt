use Rattle.std.proofs.Common.{refl, ◌++◌, ap, ◌∙◌, List, ℕ}
use Rattle.std.specs.Prelude.{codes, decimal}
use Rattle.etp_table.specs.Tables.{Table}
use Rattle.etp_print.specs.Texts.{answered, refused}
use Rattle.etp_print.proofs.GivenLemmas.{IfOk-then, gives-refused}
use Rattle.etp_profile.specs.ProfileReplies.{profile_line, too_large, profiled}
use Rattle.etp_profile.proofs.ProfileLemmas.{oversize}
use Rattle.etp_profile.proofs.profile.answer_table.Goals as goal

pub returns-in-Ok : goal.returns-in-Ok
returns-in-Ok c files stored named stands is = record {
  reply = answered (profile_line c.args.word.now c.in-Ok.numbers);
  is = profiled stored _ c.in-Ok.numbers named stands is (rw c.in_ok-table.ensures at c.in-Ok.ensures.small) (rw c.in_ok-table.ensures at c.in-Ok.ensures.exact) refl;
  text_is = c.in_ok-append_profile-in-Ok.ensures ∙ ap (λ (x : List ℕ). x ++ profile_line c.args.word.now c.in-Ok.numbers) c.requires.empty;
  refused_is = refl;
}

pub returns-in-Err-ProfileSize : goal.returns-in-Err-ProfileSize
returns-in-Err-ProfileSize c =
    let known = oversize c.args.laws.now.order c.in_ok-table.table c.in-Err-ProfileSize.size (rw c.in-Err-ProfileSize.field-0-is at c.in-Err-ProfileSize.ensures.err) in
    IfOk-then c.refuse_with.result _ _ (λ refusal h files stored named stands is. gives-refused c.args.line c.refuse_with.new.text _ refusal _
    (too_large stored _ named stands is (rw c.in_ok-table.ensures at known.1)
    (ap (λ n. refused (codes "profile size " ++ decimal n)) (c.from.ensures ∙ known.0 ∙ ap (λ (t : Table). t.size) c.in_ok-table.ensures))) h) c.refuse_with.ensures
