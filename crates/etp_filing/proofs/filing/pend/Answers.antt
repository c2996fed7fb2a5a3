use Rattle.std.proofs.Common.{sym, ap, ◌∙◌, Some}
use Rattle.etp_filing.proofs.FileAnswers.{found-stands, found-free}
use Rattle.etp_filing.proofs.filing.pend.Goals as goal

pub returns-then-is_some : goal.returns-then-is_some
returns-then-is_some c number =
    let named = rw c.in-Some-2.is at c.in_ok-name.ensures in
    (rw c.in-Some.is (ap Some (sym named.0)), rw (sym named.0) at named.1, found-stands c.in-Some-2.name c.args.opened.now.ledger.files c.place.result c.is_some.result (rw c.as_slice.ensures.value at c.place.ensures) c.is_some.ensures c.if-is_some.true)

pub returns : goal.returns
returns c number =
    let named = rw c.in-Some-2.is at c.in_ok-name.ensures in
    record {
      free = record {
        word_is = rw c.in-Some.is (ap Some (sym named.0));
        is_name = rw (sym named.0) at named.1;
        free = found-free c.in-Some-2.name c.args.opened.now.ledger.files c.place.result c.is_some.result (rw c.as_slice.ensures.value at c.place.ensures) c.is_some.ensures c.if-is_some.false;
      };
      read = c.in_ok-reader.ensures.read;
      count = c.in_ok-reader.ensures.count ∙ c.count.ensures.len;
    }
