use Rattle.std.proofs.Common.{◌-◌, sym, ◌∙◌, ap, arith}
use Rattle.std.proofs.lemmas.Option.{slice_get-map}
use Rattle.std.specs.Option.{option_map}
use Rattle.etp_term.specs.Laws.{equation_of}
use Rattle.etp_theory.specs.LawNumbers.{law_numbered}
use Rattle.etp_laws.specs.LawLists.{LawList}
use Rattle.etp_laws.proofs.Entries.{the_list, entry_after}
use Rattle.etp_laws.proofs.laws.Laws.law.Goals as goal

pub returns-then-n-eq0-clause-list : goal.returns-then-n-eq0-clause-list
returns-then-n-eq0-clause-list c = the_list c.args.self.now c.self.inside.order _ _ c.self.view_is c.self.invariant.2

pub returns-clause-entry : goal.returns-clause-entry
returns-clause-entry c =
    ap (option_map equation_of) c.get.ensures.value
    ∙ sym (slice_get-map equation_of c.self.inside.laws (c.args.n - 1))
    ∙ sym (entry_after _ c.args.n (omega arith))
    ∙ ap (λ (l : LawList). law_numbered l.equations c.args.n) c.self.view_is

pub returns-clause-list : goal.returns-clause-list
returns-clause-list c = the_list c.args.self.now c.self.inside.order _ _ c.self.view_is c.self.invariant.2
