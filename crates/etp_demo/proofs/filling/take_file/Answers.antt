use Rattle.std.proofs.Common.{◌≡◌, true≢false, sym, ◌∙◌, arith}
use Rattle.etp_items.specs.Bodies.{body_of, proof_of}
use Rattle.etp_ledger.specs.declared.refusal.LedgerRefusal.TheVariants.{NoMemory}
use Rattle.etp_ledger.proofs.Verdicts.{accepted_or_refused}
use Rattle.etp_demo.proofs.FilledLedgers.{accepted_as}
use Rattle.etp_demo.proofs.filling.take_file.Goals as goal
use Rattle.etp_demo.proofs.filling.take_file.Goals.{in-NoMemory, in_default}

pub accept-requires-clause-laws : goal.accept-requires-clause-laws
accept-requires-clause-laws c = sym c.requires.over.same_size

pub accept-requires-clause-listed : goal.accept-requires-clause-listed
accept-requires-clause-listed c =
    (accepted_as c.args.laws.now.equations c.args.ledger.now.files c.args.k (proof_of c.args.file) c.in_ok-name.name (body_of c.in_ok-body.body) (omega (arith, c.ranges.k.fits)) c.requires.free c.requires.generated
    c.in_ok-name.ensures c.in_ok-body.ensures).valid.valid.listed

pub accept-requires-clause-content : goal.accept-requires-clause-content
accept-requires-clause-content c =
    (accepted_as c.args.laws.now.equations c.args.ledger.now.files c.args.k (proof_of c.args.file) c.in_ok-name.name (body_of c.in_ok-body.body) (omega (arith, c.ranges.k.fits)) c.requires.free c.requires.generated
    c.in_ok-name.ensures c.in_ok-body.ensures).valid.valid.content

pub prove-unreachable-requires : goal.prove-unreachable-requires
prove-unreachable-requires c =
    let accepted =
    accepted_as c.args.laws.now.equations c.args.ledger.now.files c.args.k (proof_of c.args.file) c.in_ok-name.name (body_of c.in_ok-body.body) (omega (arith, c.ranges.k.fits)) c.requires.free c.requires.generated
    c.in_ok-name.ensures c.in_ok-body.ensures in
    let want : c.in-Err.refusal ≡ NoMemory = accepted_or_refused c.args.laws.now c.args.ledger.now.files c.in_ok-name.name (body_of c.in_ok-body.body) c.in-Err.refusal accepted c.in-Err.ensures.err in
    elim c.match-matches.branch [
      | in-NoMemory w ↦ absurd (true≢false (sym w.matches-is ∙ c.if-prove.true))
      | in_default w ↦ absurd (w.in_default.not-NoMemory want)
    ]
