use Rattle.std.proofs.Common.{inl, ap}
use Rattle.std.proofs.lemmas.Result.{IfOk-weaker}
use Rattle.etp_term.specs.Terms.{tree_of}
use Rattle.etp_term.specs.Laws.{equation_of}
use Rattle.etp_rules.specs.Rules.{rules_of}
use Rattle.etp_complete.specs.Rounds.{problem, GoesOn, IsNext}
use Rattle.etp_complete.specs.declared.answer.Origin.TheVariants.{Law}
use Rattle.etp_complete.proofs.Goings.{first_goes_on}
use Rattle.etp_complete.proofs.rounds.first_round.Goals as goal

pub returns : goal.returns
returns c =
    let p = problem c.args.laws.now.equations c.args.asked in
    let law = c.listed-law.result.now in
    let left = c.in_ok-left.left in
    let right = c.in_ok-right.right in
    let rules = c.empty-rules.result in
    IfOk-weaker c.add_rule.result (GoesOn c.args.asked.weight (rules_of rules) (Law c.args.asked.from) (tree_of left) (tree_of right)) (IsNext p 0)
    (λ round h. first_goes_on p c.args.laws.now.order (equation_of law) rules left right round c.listed-law.ensures.list (inl c.requires.order) c.requires.proper c.listed-law.ensures.law c.empty-rules.ensures (ap tree_of c.in_ok-left.ensures) (ap tree_of c.in_ok-right.ensures) h)
    c.add_rule.ensures
