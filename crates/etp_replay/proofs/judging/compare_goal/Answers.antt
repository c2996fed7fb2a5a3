use Rattle.std.proofs.Common.{inr, subst}
use Rattle.etp_theory.specs.Proofs.{conclusion}
use Rattle.etp_laws.specs.NumberAnswers.{IsNumberAnswer}
use Rattle.etp_laws.proofs.DualNumbers.{one_number_of}
use Rattle.etp_proof.specs.Lemmas.{lemma_of}
use Rattle.etp_replay.proofs.Goals.{other_law}
use Rattle.etp_replay.proofs.judging.compare_goal.Goals as goal

pub returns-then-not-is_number-clause-err : goal.returns-then-not-is_number-clause-err
returns-then-not-is_number-clause-err c =
    let number : IsNumberAnswer c.args.laws.now (conclusion (lemma_of c.args.last.now)) c.number-found.result =
    subst (λ p. IsNumberAnswer c.args.laws.now p c.number-found.result) c.in_ok-conclusion.ensures c.number-found.ensures in
    inr (number, other_law c.args.laws.now c.requires.list one_number_of (conclusion (lemma_of c.args.last.now)) c.args.goal c.number-found.result c.requires.listed number (λ e. let f = c.is_number.ensures.1 e in let g = c.if-not-is_number.true in cc))
