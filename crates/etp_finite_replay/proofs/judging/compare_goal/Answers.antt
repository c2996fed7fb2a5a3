use Rattle.std.proofs.Common.{refl}
use Rattle.etp_term.specs.Laws.{equation_of}
use Rattle.etp_laws.proofs.DualNumbers.{one_number_of}
use Rattle.etp_replay.specs.declared.refusal.ReplayRefusal.TheVariants.{GoalDiffers}
use Rattle.etp_replay.proofs.Goals.{other_law}
use Rattle.etp_finite_replay.proofs.judging.compare_goal.Goals as goal

pub returns-then-not-is_number-clause-err : goal.returns-then-not-is_number-clause-err
returns-then-not-is_number-clause-err c =
    let found = c.number-found.result in
    (GoalDiffers found, refl, (c.number-found.ensures, other_law c.args.laws.now c.requires.list one_number_of (equation_of c.args.last.now) c.args.goal found c.requires.listed c.number-found.ensures (λ e. let f = c.is_number.ensures.1 e in let g = c.if-not-is_number.true in cc)))
