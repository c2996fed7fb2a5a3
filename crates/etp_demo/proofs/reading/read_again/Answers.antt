use Rattle.std.proofs.Common.{◌∙◌, arith}
use Rattle.etp_items.specs.Bodies.{proof, body_of, proof_of}
use Rattle.etp_print.proofs.GivenLemmas.{IfOk-then}
use Rattle.etp_demo.proofs.FilledLedgers.{reads_again, one_read}
use Rattle.etp_demo.proofs.reading.read_again.Goals as goal

pub read_body-requires : goal.read_body-requires
read_body-requires c = (
  proof (proof_of c.args.file),
  reads_again c.args.laws.now.order c.count-count.result c.args.laws.now.equations (proof_of c.args.file) c.as_slice.result.now c.order-order.ensures.list (rw c.order-order.ensures.order at c.order-order.ensures.known)
      c.count-count.ensures.len (omega (arith, c.count-count.ensures.len)) c.requires (c.as_slice.ensures ∙ c.in_ok-text.ensures),
)

pub returns : goal.returns
returns c =
    IfOk-then c.read_body.result _ _ (λ body h. one_read c.count-count.result c.as_slice.result.now (body_of body) (proof (proof_of c.args.file)) h
    (reads_again c.args.laws.now.order c.count-count.result c.args.laws.now.equations (proof_of c.args.file) c.as_slice.result.now c.order-order.ensures.list (rw c.order-order.ensures.order at c.order-order.ensures.known)
    c.count-count.ensures.len (omega (arith, c.count-count.ensures.len)) c.requires (c.as_slice.ensures ∙ c.in_ok-text.ensures))) c.read_body.ensures
