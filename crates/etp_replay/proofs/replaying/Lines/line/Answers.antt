use Rattle.std.proofs.Common.{Some, None, sym, ap, ◌∙◌}
use Rattle.etp_term.specs.Laws.{equation_of}
use Rattle.etp_replay.proofs.Naming.{line_at}
use Rattle.etp_replay.proofs.replaying.Lines.line.Goals as goal

pub returns-in-Some : goal.returns-in-Some
returns-in-Some c =
    line_at (equation_of c.args.self.now.hypothesis.now) c.args.self.now.earlier.now c.args.number (Some c.in-Some.lemma.now) c.if-number-eq0.false c.in-Some.ensures ∙ ap Some (sym c.concluded.ensures)

pub returns-in-None : goal.returns-in-None
returns-in-None c =
    line_at (equation_of c.args.self.now.hypothesis.now) c.args.self.now.earlier.now c.args.number None c.if-number-eq0.false c.in-None.ensures
