use Rattle.std.proofs.Common.{◌≡◌, arith}
use Rattle.etp_items.specs.Bodies.{proof_of}
use Rattle.etp_gen.specs.Draws.{start}
use Rattle.etp_demo.proofs.FilledLedgers.{no_files, more_files, next_free, long_files, all_files}
use Rattle.etp_demo.proofs.filling.fill.Goals as goal

pub loop-k-init : goal.loop-k-init
loop-k-init c = (
  record { list = c.order-order.ensures.list; same_order = c.in_ok-ledger.ensures.order; same_duals = c.in_ok-ledger.ensures.duals; same_size = c.in_ok-ledger.ensures.size },
  no_files c.args.laws.now.equations (start c.args.seed) c.start-generator.result c.in_ok-ledger.ledger.files c.start-generator.ensures c.in_ok-ledger.ensures.files,
)

pub take_file-requires-clause-few : goal.take_file-requires-clause-few
take_file-requires-clause-few c =
    let long = long_files c.args.laws.now.equations (start c.args.seed) c.loop-k.k c.loop-k.generator c.loop-k.ledger.files c.loop-k.invariant.1 in
    omega (arith, long, c.loop-k-test.true, c.ranges.count.fits)

pub take_file-requires-clause-free : goal.take_file-requires-clause-free
take_file-requires-clause-free c =
    next_free c.args.laws.now.equations (start c.args.seed) c.loop-k.k c.loop-k.generator c.loop-k.ledger.files c.loop-k.invariant.1 (omega (arith, c.loop-k-test.true, c.ranges.count.fits))

pub take_file-requires-clause-generated : goal.take_file-requires-clause-generated
take_file-requires-clause-generated c = (c.loop-k.generator, c.next_file.new.self, c.in_ok-file.ensures.file)

pub loop-k-preserved : goal.loop-k-preserved
loop-k-preserved c = (
  c.in_ok-take_file.ensures.over,
  more_files c.args.laws.now.equations (start c.args.seed) c.loop-k.k c.loop-k.generator c.next_file.new.self c.loop-k.ledger.files c.take_file.new.ledger.files (proof_of c.in_ok-file.file)
      c.loop-k.invariant.1 c.in_ok-file.ensures.file c.in_ok-take_file.ensures.files,
)

pub returns-clause-files : goal.returns-clause-files
returns-clause-files c =
    let end : c.loop-k.k ≡ c.args.count = omega arith in
    all_files c.args.laws.now.equations c.args.count c.args.seed c.loop-k.k c.loop-k.generator c.loop-k.ledger.files c.loop-k.invariant.1 end
