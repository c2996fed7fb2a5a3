use Rattle.std.proofs.Common.{All, true≢false, sym, ◌∙◌, arith, subst}
use Rattle.etp_items.specs.Bodies.{body_of}
use Rattle.etp_ledger.specs.Files.{File}
use Rattle.etp_ledger.specs.Withdrawing.{Cites}
use Rattle.etp_ledger.specs.Kept.{file_of, files_of}
use Rattle.etp_ledger.proofs.Lists.{all_next, take_whole, map_long}
use Rattle.etp_ledger.proofs.Naming.{file_at}
use Rattle.etp_ledger.proofs.citing.first_citing.Goals as goal

pub returns-then-cites : goal.returns-then-cites
returns-then-cites c =
    let there = file_at c.args.files.now.entries c.loop-at.at c.index.result.now c.index.ensures in
    record { file = record { name = there.0; body = body_of c.index.result.now.body }; stands = there.1; cites = c.cites.ensures.0 c.if-cites.true; before = c.loop-at.invariant }

pub loop-at-preserved : goal.loop-at-preserved
loop-at-preserved c =
    let there = file_at c.args.files.now.entries c.loop-at.at c.index.result.now c.index.ensures in
    all_next (λ file. ¬ Cites c.args.name.now file) (files_of c.args.files.now.entries) c.loop-at.at _ there.1 c.loop-at.invariant (λ cites. true≢false (sym (c.cites.ensures.1 cites) ∙ c.if-cites.false))

pub returns : goal.returns
returns c =
    let long = map_long file_of c.args.files.now.entries in
    let whole = take_whole (files_of c.args.files.now.entries) c.loop-at.at (omega (arith, c.len-at-end.ensures.len, long)) in
    subst (All (λ (file : File). ¬ Cites c.args.name.now file)) whole c.loop-at.invariant
