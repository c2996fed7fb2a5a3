use Rattle.std.proofs.Common.{◌+◌, arith}
use Rattle.etp_laws.proofs.CountLemmas.{words_small, block_small_less, block_small_equal}
use Rattle.etp_laws.proofs.places.block_start.Goals as goal

pub overflow_mul-result-in-Less : goal.overflow_mul-result-in-Less
overflow_mul-result-in-Less c =
    let h = c.requires.ops in
    let w = words_small (c.args.left.now.ops + c.args.right.now.ops + 2) c.words_of-words.result c.words_of-words.ensures.value (omega arith) in
    let b = block_small_less c.pairs_below-before.result c.words_of-words.result c.args.left.now.place c.shapes_of.result c.args.right.now.place c.pairs_below-before.ensures.small w c.requires.left c.shapes_of.ensures.small c.requires.right in
    omega arith

pub overflow_mul-result-in-Equal : goal.overflow_mul-result-in-Equal
overflow_mul-result-in-Equal c =
    let h = c.requires.ops in
    let w = words_small (c.args.left.now.ops + c.args.right.now.ops + 2) c.words_of-words.result c.words_of-words.ensures.value (omega arith) in
    let b = block_small_equal c.pairs_below-before.result c.words_of-words.result c.args.left.now.place c.args.right.now.place c.pairs_below-before.ensures.small w c.requires.left c.requires.right in
    omega arith

pub overflow_add-result-in-Equal-2 : goal.overflow_add-result-in-Equal-2
overflow_add-result-in-Equal-2 c =
    let h = c.requires.ops in
    let w = words_small (c.args.left.now.ops + c.args.right.now.ops + 2) c.words_of-words.result c.words_of-words.ensures.value (omega arith) in
    let b = block_small_equal c.pairs_below-before.result c.words_of-words.result c.args.left.now.place c.args.right.now.place c.pairs_below-before.ensures.small w c.requires.left c.requires.right in
    omega arith

pub returns-in-Less-clause-small : goal.returns-in-Less-clause-small
returns-in-Less-clause-small c =
    let h = c.requires.ops in
    let w = words_small (c.args.left.now.ops + c.args.right.now.ops + 2) c.words_of-words.result c.words_of-words.ensures.value (omega arith) in
    let b = block_small_less c.pairs_below-before.result c.words_of-words.result c.args.left.now.place c.shapes_of.result c.args.right.now.place c.pairs_below-before.ensures.small w c.requires.left c.shapes_of.ensures.small c.requires.right in
    omega arith

pub returns-in-Equal-clause-small : goal.returns-in-Equal-clause-small
returns-in-Equal-clause-small c =
    let h = c.requires.ops in
    let w = words_small (c.args.left.now.ops + c.args.right.now.ops + 2) c.words_of-words.result c.words_of-words.ensures.value (omega arith) in
    let b = block_small_equal c.pairs_below-before.result c.words_of-words.result c.args.left.now.place c.args.right.now.place c.pairs_below-before.ensures.small w c.requires.left c.requires.right in
    omega arith
