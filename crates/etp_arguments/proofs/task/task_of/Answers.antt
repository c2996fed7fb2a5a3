use Rattle.std.proofs.Common.{arith, map}
use Rattle.std.specs.String.{string_bytes}
use Rattle.std.proofs.lemmas.List.{length-map}
use Rattle.etp_arguments.proofs.ManyWords.{four_words, many_words}
use Rattle.etp_arguments.proofs.task.task_of.Goals as goal

pub returns-in-len4-clause-task : goal.returns-in-len4-clause-task
returns-in-len4-clause-task c = four_words (map string_bytes c.args.words.now) (omega (arith, length-map c.args.words.now string_bytes, c.in-len4.len_at_least, c.in-len4.len_below))

pub returns-in_default-clause-task : goal.returns-in_default-clause-task
returns-in_default-clause-task c = many_words (map string_bytes c.args.words.now) (omega (arith, length-map c.args.words.now string_bytes, c.in_default.len_at_least))
