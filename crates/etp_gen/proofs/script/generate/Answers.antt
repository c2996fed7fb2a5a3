use Rattle.std.proofs.Common.{◌≡◌, arith}
use Rattle.etp_items.specs.Bodies.{proof_of}
use Rattle.etp_gen.specs.Draws.{start}
use Rattle.etp_gen.proofs.Growing.{none_written, more_written, all_written}
use Rattle.etp_gen.proofs.script.generate.Goals as goal

pub loop-k-init : goal.loop-k-init
loop-k-init c = none_written c.args.laws.now.equations (start c.args.seed) c.start-generator.result c.empty-text.result c.start-generator.ensures c.empty-text.ensures

pub loop-k-preserved : goal.loop-k-preserved
loop-k-preserved c =
    more_written c.args.laws.now.equations (start c.args.seed) c.loop-k.k c.loop-k.generator c.next_file.new.self c.loop-k.text c.append_file.new.text (proof_of c.in_ok-file.file)
    c.loop-k.invariant c.in_ok-file.ensures.file c.in_ok-append_file.ensures

pub returns : goal.returns
returns c =
    let end : c.loop-k.k ≡ c.args.count = omega arith in
    all_written c.args.laws.now.equations c.args.count c.args.seed c.loop-k.k c.loop-k.generator c.loop-k.text c.append.new.self c.loop-k.invariant end c.in_ok-append.ensures.ok
