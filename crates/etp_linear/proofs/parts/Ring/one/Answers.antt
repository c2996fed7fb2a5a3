use Rattle.std.proofs.Common.{ap, ◌∙◌, sym}
use Rattle.etp_linear.specs.Values.{one}
use Rattle.etp_linear.proofs.Reductions.{one_is}
use Rattle.etp_linear.proofs.parts.Ring.one.Goals as goal

pub returns-else-m-eq1 : goal.returns-else-m-eq1
returns-else-m-eq1 c = one_is c.in-Modulo.m (λ e. c.requires (c.in-Modulo.is ∙ e)) c.if-m-eq1.false ∙ ap one (sym c.in-Modulo.is)
