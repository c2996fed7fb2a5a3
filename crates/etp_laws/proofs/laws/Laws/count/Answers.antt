use Rattle.std.proofs.Common.{◌≡◌, length, map, sym, ◌∙◌, ap, arith}
use Rattle.std.proofs.lemmas.List.{length-map}
use Rattle.etp_term.specs.Laws.{equation_of}
use Rattle.etp_laws.specs.LawLists.{LawList}
use Rattle.etp_laws.proofs.Entries.{the_list, four_long, five_long, short_enough}
use Rattle.etp_laws.proofs.laws.Laws.count.Goals as goal

pub overflow_cast-result : goal.overflow_cast-result
overflow_cast-result c =
    let n : c.len.result ≡ length (map equation_of c.self.inside.laws) = c.len.ensures ∙ sym (length-map c.self.inside.laws equation_of) in
    let l = short_enough c.self.inside.order (map equation_of c.self.inside.laws) c.self.invariant.2 c.self.invariant.0 c.self.invariant.1 in
    omega arith

pub returns-clause-four : goal.returns-clause-four
returns-clause-four c h =
    c.len.ensures ∙ sym (length-map c.self.inside.laws equation_of)
    ∙ four_long c.self.inside.order (map equation_of c.self.inside.laws) c.self.invariant.2 (ap (λ (l : LawList). l.order) c.self.view_is ∙ h)

pub returns-clause-five : goal.returns-clause-five
returns-clause-five c h =
    c.len.ensures ∙ sym (length-map c.self.inside.laws equation_of)
    ∙ five_long c.self.inside.order (map equation_of c.self.inside.laws) c.self.invariant.2 (ap (λ (l : LawList). l.order) c.self.view_is ∙ h)

pub returns-clause-list : goal.returns-clause-list
returns-clause-list c = the_list c.args.self.now c.self.inside.order _ _ c.self.view_is c.self.invariant.2
