use Rattle.std.proofs.Common.{rules, ◌≡◌, length}
use Rattle.etp_term.specs.Terms.{tree_of}
use Rattle.etp_matrix.specs.Walks.{form}
use Rattle.etp_matrix.proofs.Growth.{can_start, started}
use Rattle.etp_matrix.proofs.matrix_linear.MatrixLinear.write_form.Goals as goal

pub gain-requires : goal.gain-requires
gain-requires c =
    let l = c.args.self.now in
    let long : length l.c ≡ 4 = search rules in
    can_start l long (tree_of c.args.term.now) c.identity.result c.requires c.identity.ensures

pub returns : goal.returns
returns c =
    let l = c.args.self.now in
    let long : length l.c ≡ 4 = search rules in
    started l long (tree_of c.args.term.now) c.identity.result (form c.gain.new.matrices c.gain.new.constant) c.identity.ensures c.gain.ensures
