use Rattle.std.proofs.Common.{Some, sym, ap, ◌∙◌}
use Rattle.etp_replay.proofs.Naming.{cited_at}
use Rattle.etp_replay.proofs.replaying.Lines.cited.Goals as goal

pub returns-in-Some : goal.returns-in-Some
returns-in-Some c =
    cited_at c.args.self.now.cites.now c.args.number (Some c.in-Some.law.now) c.if-number-eq0.false c.in-Some.ensures ∙ ap Some (sym c.of.ensures)
