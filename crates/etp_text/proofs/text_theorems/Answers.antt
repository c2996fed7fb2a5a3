use Rattle.etp_text.proofs.Answering.{same_term, same_law, term_refused_only, law_refused_only}
use Rattle.etp_text.proofs.OneRefusal.{one_term_refusal, one_law_refusal}
use Rattle.etp_text.proofs.Writing.{written_term_spells, written_law_spells}
use Rattle.etp_text.proofs.Lengths.{written_term_short}
use Rattle.etp_text.proofs.text_theorems.Goals as goal

pub returns : goal.returns
returns c = record {
  one_term = same_term;
  one_law = same_law;
  written_term_spells = written_term_spells;
  written_law_spells = written_law_spells;
  written_term_short = written_term_short;
  term_stands = λ bytes t e s few r. term_refused_only bytes e r t s few;
  law_stands = λ bytes law e s left right r. law_refused_only bytes e r law s left right;
  one_term_refusal = one_term_refusal;
  one_law_refusal = one_law_refusal;
}
