use Rattle.std.proofs.Common.{◌≡◌, ◌≤◌, ◌-◌, min, length, arith}
use Rattle.etp_io.proofs.LineLemmas.{added}
use Rattle.etp_io.proofs.lines.add_to_line.Goals as goal

pub returns-clause-items : goal.returns-clause-items
returns-clause-items c =
    let small : length c.args.line.now.items ≤ 4097 = omega (arith, c.requires.small) in
    let count : c.min-count.result ≡ min (length c.args.bytes.now) (4097 - length c.args.line.now.items) = omega (arith, c.min-count.ensures, c.len.ensures) in
    added 4097 c.args.line.now.items c.args.bytes.now _ _ small count (rw c.unwrap.ensures at c.extend_from_slice.ensures.items)
