use Rattle.std.proofs.Common.{◌≡◌, ◌≤◌, arith, ap}
use Rattle.etp_theory.specs.Trees.{law_ops}
use Rattle.etp_term.specs.Laws.{equation_of}
use Rattle.etp_laws.specs.LawLists.{LawList}
use Rattle.etp_laws.proofs.DualNumbers.{number_answer}
use Rattle.etp_laws.proofs.laws.Laws.number.Goals as goal

pub returns : goal.returns
returns c =
    let order : c.self.inside.order ≡ c.args.self.now.order = ap (λ (l : LawList). l.order) c.self.view_is in
    let left = c.ops.ensures in
    let right = c.ops-2.ensures in
    let test = c.if-ops-self.false in
    let known = c.self.invariant.1 in
    let few : law_ops (equation_of c.args.law.now) ≤ c.self.inside.order = omega arith in
    let has = c.is_trivial.ensures.no c.if-is_trivial.false in
    (omega arith, has, number_answer c.args.self.now c.self.inside.order _ _ (equation_of c.args.law.now) c.number_of.result c.self.view_is known c.self.invariant.2 has few c.number_of.ensures)
