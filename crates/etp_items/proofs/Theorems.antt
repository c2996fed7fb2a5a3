-- The theorems on lines, bodies and refusals.
use Rattle.etp_reading.proofs.Theorems.{reading_theorems}
use Rattle.etp_lines.specs.BodyLines.{bodies}
use Rattle.etp_lines.proofs.OneLine.{one, one_line, blank_line}
use Rattle.etp_items.proofs.OneBody.{one_body}
use Rattle.etp_items.proofs.WrittenReads.{written_body_reads}
use Rattle.etp_items.proofs.Writable.{body_writable}
use Rattle.etp_items.proofs.ReadAgain.{written_body_read_again, listed_numbers}
use Rattle.etp_items.proofs.ShortLines.{valid_body_short}
use Rattle.etp_items.proofs.ShortRules.{allowed_rules_short}
use Rattle.etp_items.specs.Theorems.{BodyTheorems}

pub body_theorems : BodyTheorems
body_theorems = record {
  one_line = one_line;
  blank_line = blank_line;
  one_body = one_body;
  listed_numbers = listed_numbers;
  body_stands = λ count lines closed b r h. (reading_theorems bodies one).read_or_refused count lines closed h.is_body.saids r
      (record { is_closed = h.is_closed; few = h.few; are_whole = h.is_body.are_whole; listed = h.listed });
  one_refusal = (reading_theorems bodies one).one_refusal;
  body_writable = body_writable;
  written_body_reads = written_body_reads;
  written_body_read_again = written_body_read_again;
  valid_body_short = valid_body_short;
  allowed_rules_short = allowed_rules_short;
}
