use Rattle.std.proofs.Common.{sym, subst, arith}
use Rattle.etp_laws.specs.Words.{CountsWords}
use Rattle.etp_laws.proofs.CountLemmas.{counts_words}
use Rattle.etp_laws.proofs.counts.words.Goals as goal

pub returns : goal.returns
returns c = (
  omega arith,
  omega arith,
  c.words_of.ensures.value,
  subst (CountsWords c.args.leaves c.args.used) (sym c.words_of.ensures.value) (counts_words c.args.leaves c.args.used),
)
