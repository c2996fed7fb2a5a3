use Rattle.std.proofs.Common.{refl}
use Rattle.etp_items.specs.Bodies.{body_of}
use Rattle.etp_check.specs.Checks.{fact_said}
use Rattle.etp_filing.specs.Filings.{words_from}
use Rattle.etp_print.specs.Texts.{answered, refused_file}
use Rattle.etp_print.specs.RefusalTexts.{file_refusal}
use Rattle.etp_filing.specs.FileReplies.{vector_size, accepted_line, not_accepted, accepted}
use Rattle.etp_print.proofs.GivenLemmas.{IfOk-then, IfOk-both}
use Rattle.etp_desk.proofs.Opening.{leaves}
use Rattle.etp_filing.proofs.FileAnswers.{accepted-text, refusal-text}
use Rattle.etp_filing.proofs.accepting.accept_file.Goals as goal

pub returns-in-Ok : goal.returns-in-Ok
returns-in-Ok c closed g n free read = record {
  reply = answered (accepted_line c.args.name (fact_said (body_of c.args.body)));
  files = c.accept.new.self.files;
  is = accepted c.args.name (body_of c.args.body) free read c.in-Ok.ensures.ok refl c.in-Ok.ensures.files;
  stands = leaves c.args.opened.now _ c.requires.agrees refl c.in-Ok.ensures.order c.in-Ok.ensures.duals;
  text_is = accepted-text c.args.text.now c.as_slice-in-Ok.result.now c.append.new.self c.empty-label.result c.as_slice.result.now c.args.name c.append_accepted.new.text (words_from c.laws_said-said.result) (fact_said (body_of c.args.body))
      c.requires.empty c.as_slice-in-Ok.ensures c.in_ok-append.ensures.ok c.empty-label.ensures c.as_slice.ensures.value c.laws_said-said.ensures c.in_ok-append_accepted-in-Ok.ensures;
  refused_is = refl;
}

pub returns : goal.returns
returns c = IfOk-then c.refuse_content.result _ _ (λ refusal h closed g n free read. record {
  reply = refused_file c.args.name (file_refusal (vector_size (body_of c.args.body)) c.in-Err.refusal);
  files = c.accept.new.self.files;
  is = not_accepted c.args.name (body_of c.args.body) c.in-Err.refusal free read c.in-Err.ensures.err h.1 refl c.in-Err.ensures.unchanged.same_files;
  stands = leaves c.args.opened.now _ c.requires.agrees refl c.in-Err.ensures.order c.in-Err.ensures.duals;
  text_is = refusal-text c.args.number g.number c.as_slice-in-Err.result.now c.append.new.self c.empty-label.result c.as_slice.result.now c.args.name (file_refusal (vector_size (body_of c.args.body)) c.in-Err.refusal) c.refuse_content.new.text n c.as_slice-in-Err.ensures c.in_ok-append.ensures.ok c.empty-label.ensures c.as_slice.ensures.value (rw c.vector_size-size.ensures.size at h.0.0);
  refused_is = h.0.1;
}) (IfOk-both c.refuse_content.result _ _ c.refuse_content.ensures.reply c.refuse_content.ensures.cause)
