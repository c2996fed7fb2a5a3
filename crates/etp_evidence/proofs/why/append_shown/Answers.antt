use Rattle.std.proofs.Common.{[], refl, sym, append-nil}
use Rattle.etp_evidence.specs.WhyReplies.{edge_lines, by_path, by_cover, by_none}
use Rattle.etp_evidence.proofs.Shown.{OnOk-then}
use Rattle.etp_evidence.proofs.why.append_shown.Goals as goal

pub returns-in-Implied : goal.returns-in-Implied
returns-in-Implied c =
    let shows = rw c.in-Implied.is at c.requires.shows in
    rw c.in-Implied.is (OnOk-then c.append_path.result _ _ (λ h. record {
      line = edge_lines c.args.ledger.now.files c.in-Implied.path;
      is = by_path c.in-Implied.path shows refl;
      appended = h;
    }) c.append_path.ensures)

pub returns-in-Refuted : goal.returns-in-Refuted
returns-in-Refuted c =
    let shows = rw c.in-Refuted.is at c.requires.shows in
    rw c.in-Refuted.is (OnOk-then c.append_refuting.result _ _ (λ h. record {
      line = h.line;
      is = by_cover c.in-Refuted.cover shows h.is;
      appended = h.appended;
    }) c.append_refuting.ensures)

pub returns-in-Unsettled : goal.returns-in-Unsettled
returns-in-Unsettled c = rw c.in-Unsettled.is (record {
  line = [];
  is = by_none refl;
  appended = sym (append-nil c.args.text.now);
})
