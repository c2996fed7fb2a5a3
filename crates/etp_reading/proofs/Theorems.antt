-- The theorems on the lines of bodies, for each grammar in which a line says one thing.
use Rattle.etp_reading.specs.Grammars.{Grammar, OneLine}
use Rattle.etp_reading.specs.Theorems.{ReadingTheorems, TallyTheorems}
use Rattle.etp_reading.proofs.ReadingLemmas as Reading
use Rattle.etp_reading.proofs.OneRefusal as One
use Rattle.etp_reading.proofs.TallyLemmas as Tally

pub reading_theorems : (g : Grammar) → OneLine g → ReadingTheorems g
reading_theorems g one = record {
  one_reading = One.one_reading g one;
  read_or_refused = One.read_or_refused g one;
  one_refusal = One.one_refusal g one;
}

pub tally_theorems : (g : Grammar) → OneLine g → TallyTheorems g
tally_theorems g one = record {
  begun = Tally.begun g one;
  skipped = Tally.skipped g one;
  blank = Tally.blank g one;
  said = Tally.said g one;
  bad = Tally.bad g one;
  no_place = Reading.no_place g one;
  judged = Tally.judged g one;
}
