use Rattle.std.proofs.Common.{◌≡◌, ◌+◌, arith}
use Rattle.etp_theory.specs.Trees.{law_ops}
use Rattle.etp_term.specs.Laws.{equation_of}
use Rattle.etp_term.proofs.WordOrder.{law_cmp-parts}
use Rattle.etp_term.proofs.law.Law.law_cmp.Goals as goal

pub returns : goal.returns
returns c =
    let mine : c.ops.result + c.ops-2.result ≡ law_ops (equation_of c.args.self.now) = omega (arith, c.ops.ensures, c.ops-2.ensures, c.requires.left, c.requires.right) in
    let theirs : c.ops-3.result + c.ops-4.result ≡ law_ops (equation_of c.args.other.now) = omega (arith, c.ops-3.ensures, c.ops-4.ensures, c.requires.other_left, c.requires.other_right) in
    cc (law_cmp-parts (equation_of c.args.self.now) (equation_of c.args.other.now) c.word_cmp-left_word.result c.word_cmp-right_word.result c.word_cmp-left_word.ensures c.word_cmp-right_word.ensures, mine, theirs)
