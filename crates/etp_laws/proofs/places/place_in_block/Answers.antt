use Rattle.std.proofs.Common.{◌+◌, arith}
use Rattle.etp_laws.proofs.WordRanks.{rank-small, rank-within}
use Rattle.etp_laws.proofs.places.place_in_block.Goals as goal

pub rank-requires-clause-small : goal.rank-requires-clause-small
rank-requires-clause-small c = let s = rank-small c.args.word.now c.requires.grows c.requires.short in omega arith

pub kept_before-requires-clause-within : goal.kept_before-requires-clause-within
kept_before-requires-clause-within c = rank-within c.args.word.now (c.args.middle + c.args.middle) c.requires.grows (c.requires.twice c.in-Equal.is)

pub kept_before-requires-clause-small : goal.kept_before-requires-clause-small
kept_before-requires-clause-small c = let s = rank-small c.args.word.now c.requires.grows c.requires.short in omega arith

pub returns-in-Less-clause-small : goal.returns-in-Less-clause-small
returns-in-Less-clause-small c = let s = rank-small c.args.word.now c.requires.grows c.requires.short in let e = c.rank.ensures in omega arith

pub returns-in-Equal-clause-small : goal.returns-in-Equal-clause-small
returns-in-Equal-clause-small c = let s = rank-small c.args.word.now c.requires.grows c.requires.short in let e = c.kept_before.ensures.fewer in omega arith
