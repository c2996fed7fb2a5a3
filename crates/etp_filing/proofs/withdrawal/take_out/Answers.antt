use Rattle.std.proofs.Common.{refl, ap, ◌∙◌, ◌++◌, ◌∷◌, [], List, ℕ, subst, Some, ◌≡◌}
use Rattle.std.specs.Prelude.{codes, slice_get}
use Rattle.etp_ledger.specs.Files.{File}
use Rattle.etp_ledger.specs.Ledgers.{Entries}
use Rattle.etp_print.specs.Texts.{answered, refused}
use Rattle.etp_filing.specs.Withdrawals.{unknown_name, cited, withdrawn}
use Rattle.etp_print.proofs.GivenLemmas.{IfOk-then}
use Rattle.etp_desk.proofs.Opening.{leaves}
use Rattle.etp_filing.proofs.withdrawal.take_out.Goals as goal

pub returns-in-Ok : goal.returns-in-Ok
returns-in-Ok c = record {
  reply = answered (codes "withdrawn " ++ c.args.word.now ++ 10 ∷ []);
  files = c.withdraw.new.self.files;
  is = withdrawn c.requires.name c.in-Ok.ensures.ok refl;
  stands = leaves c.args.opened.now _ c.requires.agrees refl c.in-Ok.ensures.order c.in-Ok.ensures.duals;
  text_is = c.in_ok-append_withdrawn-in-Ok.ensures ∙ ap (λ (x : List ℕ). x ++ (codes "withdrawn " ++ c.args.word.now ++ 10 ∷ [])) c.requires.empty;
  refused_is = refl;
}

pub returns-in-Err-NoSuchName : goal.returns-in-Err-NoSuchName
returns-in-Err-NoSuchName c = IfOk-then c.refuse_name.result _ _ (λ refusal h. record {
  reply = refused (codes "no such name " ++ c.args.word.now);
  files = c.withdraw.new.self.files;
  is = unknown_name c.requires.name (rw c.in-Err-NoSuchName.field-0-is at c.in-Err-NoSuchName.ensures.err) refl (ap (λ (e : Entries). e.files) c.in-Err-NoSuchName.ensures.unchanged);
  stands = leaves c.args.opened.now _ c.requires.agrees refl c.in-Err-NoSuchName.ensures.order c.in-Err-NoSuchName.ensures.duals;
  text_is = h.0;
  refused_is = h.1;
}) c.refuse_name.ensures

pub returns-in-Err-Cited : goal.returns-in-Err-Cited
returns-in-Err-Cited c = IfOk-then c.refuse_cited.result _ _ (λ refusal h.
    let same = ap (λ (e : Entries). e.files) c.in-Err-Cited.ensures.unchanged in
    let err = rw c.in-Err-Cited.field-0-is at c.in-Err-Cited.ensures.err in
    record {
      reply = refused (codes "cited " ++ c.args.word.now ++ codes " by " ++ h.by.name);
      files = c.withdraw.new.self.files;
      is = cited c.in-Err-Cited.by h.by c.requires.name err.0 err.1 (subst (λ (files : List File). slice_get files c.in-Err-Cited.by ≡ Some h.by) same h.stands) refl same;
      stands = leaves c.args.opened.now _ c.requires.agrees refl c.in-Err-Cited.ensures.order c.in-Err-Cited.ensures.duals;
      text_is = h.text_is;
      refused_is = h.refused_is;
    }) c.refuse_cited.ensures
