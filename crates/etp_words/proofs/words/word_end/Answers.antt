use Rattle.etp_words.proofs.WordLemmas.{words_of-until, words_of-all, skip_word-until, skip_word-all}
use Rattle.std.proofs.Common.{sym, arith}
use Rattle.etp_words.proofs.words.word_end.Goals as goal

pub returns-then-is_blank-clause-words : goal.returns-then-is_blank-clause-words
returns-then-is_blank-clause-words c = words_of-until c.args.line.now c.loop-i.i c.loop-i-test.true c.requires.begins c.loop-i.invariant (sym c.if-is_blank.ensures)

pub returns-then-is_blank-clause-rest : goal.returns-then-is_blank-clause-rest
returns-then-is_blank-clause-rest c = skip_word-until c.args.line.now c.loop-i.i c.loop-i-test.true c.loop-i.invariant (sym c.if-is_blank.ensures)

pub returns-clause-words : goal.returns-clause-words
returns-clause-words c = words_of-all c.args.line.now c.requires.some (λ k h. c.loop-i.invariant k (omega arith))

pub returns-clause-rest : goal.returns-clause-rest
returns-clause-rest c = skip_word-all c.args.line.now (λ k h. c.loop-i.invariant k (omega arith))
