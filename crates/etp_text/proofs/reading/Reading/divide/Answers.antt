use Rattle.std.proofs.Common.{is_some, refl, ap, sym, ◌∙◌}
use Rattle.std.proofs.lemmas.Bool.{false≢true}
use Rattle.etp_term.specs.Terms.{tree_of}
use Rattle.etp_text.proofs.Running.{not_divided}
use Rattle.etp_text.proofs.reading.Reading.divide.Goals as goal
use Rattle.etp_text.proofs.reading.Reading.divide.Goals.{in_default-via-in-Laws+then-is_none+else-is_empty, in_default-via-in-Laws+else-is_none, in_default-via-in_default}

pub returns-in_default : goal.returns-in_default
returns-in_default c = (
  refl,
  not_divided c.args.grammar c.args.self.now.left c.args.self.now.opened (tree_of c.args.side) (elim c.in_default.branch [
    | in_default-via-in-Laws+then-is_none+else-is_empty w ↦ (λ a b d. false≢true (w.if-is_empty.ensures.1 d))
    | in_default-via-in-Laws+else-is_none w ↦ (λ a b d. false≢true (sym (ap is_some b) ∙ w.if-is_none.ensures))
    | in_default-via-in_default w ↦ (λ a b d. w.in_default.not-Laws a)
  ]),
)
