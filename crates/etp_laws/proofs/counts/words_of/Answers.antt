use Rattle.std.proofs.Common.{◌<◌, refl, sym, subst}
use Rattle.etp_laws.proofs.CountLemmas.{WORDS-at, words_count-some}
use Rattle.etp_laws.proofs.counts.words_of.Goals as goal

pub returns-clause-value : goal.returns-clause-value
returns-clause-value c = WORDS-at c.args.leaves c.args.used _ c.requires.short c.requires.few refl

pub returns-clause-some : goal.returns-clause-some
returns-clause-some c =
    subst (λ n. 0 < n) (sym (WORDS-at c.args.leaves c.args.used _ c.requires.short c.requires.few refl)) (words_count-some c.args.leaves c.args.used)
