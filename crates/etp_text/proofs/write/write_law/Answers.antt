use Rattle.std.proofs.Common.{◌++◌, ◌∙◌, ap, subst, sym}
use Rattle.etp_term.specs.Laws.{equation_of}
use Rattle.etp_text.specs.Written.{written_law}
use Rattle.etp_text.specs.Grammar.{SpellsLaw}
use Rattle.etp_text.proofs.Writing.{written_law_spells}
use Rattle.etp_text.proofs.write.write_law.Goals as goal

pub returns-clause-spells : goal.returns-clause-spells
returns-clause-spells c left right =
    let law = equation_of c.args.law.now in
    subst (λ text. SpellsLaw text law) (sym (c.in_ok-append_law.ensures.ok ∙ ap (λ x. x ++ written_law law) c.empty-text.ensures)) (written_law_spells law left right)
