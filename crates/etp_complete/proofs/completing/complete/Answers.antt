use Rattle.std.proofs.lemmas.Result.{IfOk-weaker}
use Rattle.etp_theory.specs.RightFacts.{Implies, Refutes}
use Rattle.etp_complete.specs.Completions.{Problem}
use Rattle.etp_complete.specs.Answers.{IsAnswer}
use Rattle.etp_complete.specs.Derived.{HasDerivedRules, IsValidSystem, IfDone, IfJoined}
use Rattle.etp_complete.proofs.FirstSides.{sides_differ}
use Rattle.etp_complete.proofs.Meaning.{is_valid, is_apart, is_joined, is_derived}
use Rattle.etp_complete.proofs.completing.complete.Goals as goal

pub returns-clause-valid : goal.returns-clause-valid
returns-clause-valid c =
    let laws = c.args.laws.now.equations in
    let p : Problem = record { laws = laws; from = c.args.from; target = c.args.target; weight = c.args.weight } in
    IfOk-weaker c.run.result (IsAnswer p) (λ end. IfDone end (IsValidSystem laws))
    (is_valid p (λ e listed. sides_differ c.args.laws.now.order laws c.args.from e c.order-order.ensures.list c.requires.proper listed)) c.run.ensures

pub returns-clause-apart : goal.returns-clause-apart
returns-clause-apart c =
    let laws = c.args.laws.now.equations in
    let p : Problem = record { laws = laws; from = c.args.from; target = c.args.target; weight = c.args.weight } in
    IfOk-weaker c.run.result (IsAnswer p) (λ end. IfDone end (λ _. Refutes laws c.args.from c.args.target)) (is_apart p) c.run.ensures

pub returns-clause-joined : goal.returns-clause-joined
returns-clause-joined c =
    let laws = c.args.laws.now.equations in
    let p : Problem = record { laws = laws; from = c.args.from; target = c.args.target; weight = c.args.weight } in
    IfOk-weaker c.run.result (IsAnswer p) (λ end. IfJoined end (Implies laws c.args.from c.args.target)) (is_joined p) c.run.ensures

pub returns-clause-derived : goal.returns-clause-derived
returns-clause-derived c =
    let laws = c.args.laws.now.equations in
    let p : Problem = record { laws = laws; from = c.args.from; target = c.args.target; weight = c.args.weight } in
    IfOk-weaker c.run.result (IsAnswer p) (HasDerivedRules laws c.args.from) (is_derived p) c.run.ensures
