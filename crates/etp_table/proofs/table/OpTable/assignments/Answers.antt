use Rattle.std.proofs.Common.{◌^◌, ◌<◌, ◌≤◌, arith, lit<}
use Rattle.std.proofs.Math.Nat.{pow-le-pow_left, pow-le-pow_right}
use Rattle.etp_table.proofs.table.OpTable.assignments.Goals as goal

pub pow-requires : goal.pow-requires
pow-requires c =
    let small : c.size.result ≤ 255 = let t = c.size.ensures.table.small in let s = c.size.ensures.value in omega arith in
    let first : c.size.result ^ c.args.count ≤ 255 ^ c.args.count = pow-le-pow_left small c.args.count in
    let second : 255 ^ c.args.count ≤ 255 ^ 7 = pow-le-pow_right (omega arith) c.requires in
    let last : 255 ^ 7 < 2 ^ 64 = lit< tt in
    omega arith
