use Rattle.etp_term.specs.Laws.{equation_of}
use Rattle.etp_finite_replay.proofs.Naming.{line_found}
use Rattle.etp_finite_replay.proofs.replaying.Known.line.Goals as goal

pub returns : goal.returns
returns c = line_found (equation_of c.args.self.now.hypothesis.now) c.args.self.now.earlier.now c.args.number c.at.result c.if-number-eq0.false c.at.ensures
