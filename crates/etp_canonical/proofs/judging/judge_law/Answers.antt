use Rattle.std.proofs.lemmas.Result.{IfOk-weaker}
use Rattle.etp_term.specs.Laws.{equation_of}
use Rattle.etp_rules.specs.Rules.{rules_of}
use Rattle.etp_pairs.specs.Judging.{IsJudged}
use Rattle.etp_canonical.specs.Looking.{IsLawJudged}
use Rattle.etp_canonical.proofs.Found.{judged_law}
use Rattle.etp_canonical.proofs.judging.judge_law.Goals as goal

pub returns : goal.returns
returns c =
    let laws = c.args.laws.now.equations in
    let rules = rules_of c.args.system.now.rules in
    let law = equation_of c.listed-law.result.now in
    IfOk-weaker c.judge_terms.result (IsJudged rules law.left law.right) (IsLawJudged laws rules c.args.number)
    (judged_law laws rules c.args.number law c.listed-law.ensures) c.judge_terms.ensures
