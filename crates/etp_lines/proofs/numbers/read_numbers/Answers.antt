use Rattle.std.proofs.Common.{arith}
use Rattle.etp_lines.proofs.NumberLemmas.{words_few}
use Rattle.etp_lines.proofs.numbers.read_numbers.Goals as goal

pub push-requires : goal.push-requires
push-requires c = omega (arith, c.loop-word.invariant.1, words_few c.args.text.now, c.requires)
