use Rattle.std.proofs.Common.{◌++◌, ◌∙◌, ap, subst, sym}
use Rattle.etp_term.specs.Terms.{tree_of}
use Rattle.etp_text.specs.Written.{written_term}
use Rattle.etp_text.specs.Grammar.{SpellsTerm}
use Rattle.etp_text.proofs.Writing.{written_term_spells}
use Rattle.etp_text.proofs.write.write_term.Goals as goal

pub returns-clause-spells : goal.returns-clause-spells
returns-clause-spells c few =
    let term = tree_of c.args.term.now in
    subst (λ text. SpellsTerm text term) (sym (c.in_ok-append_term.ensures.ok ∙ ap (λ x. x ++ written_term term) c.empty-text.ensures)) (written_term_spells term few)
