use Rattle.std.proofs.Common.{List, sym, subst}
use Rattle.etp_term.specs.Laws.{equation_of}
use Rattle.etp_rules.specs.Rules.{rules_of}
use Rattle.etp_rules.specs.declared.rule.Rule.{Rule}
use Rattle.etp_canonical.specs.Judgements.{LawFails}
use Rattle.etp_evidence.proofs.SystemLaws.{never_one_form, never_too_large, never_too_long}
use Rattle.etp_evidence.proofs.failing.append_in_rules.Goals as goal

pub unreachable-requires : goal.unreachable-requires
unreachable-requires c =
    let fails = subst (λ (rs : List Rule). LawFails c.args.laws.now.equations (rules_of rs) c.args.number) (sym c.in_ok-system.ensures) c.requires.2 in
    never_one_form c.args.laws.now.equations (rules_of c.in_ok-system.system.rules) c.args.number (equation_of c.listed-law.result.now) c.listed-law.ensures.law fails _ _ c.in-OneForm.is c.in_ok-judge_terms.ensures

pub unreachable-requires-in-StepLimit : goal.unreachable-requires-in-StepLimit
unreachable-requires-in-StepLimit c =
    let fails = subst (λ (rs : List Rule). LawFails c.args.laws.now.equations (rules_of rs) c.args.number) (sym c.in_ok-system.ensures) c.requires.2 in
    never_too_long c.args.laws.now.equations (rules_of c.in_ok-system.system.rules) c.args.number (equation_of c.listed-law.result.now) c.listed-law.ensures.law fails _ c.in-StepLimit.is c.in_ok-judge_terms.ensures

pub unreachable-requires-in-TermLimit : goal.unreachable-requires-in-TermLimit
unreachable-requires-in-TermLimit c =
    let fails = subst (λ (rs : List Rule). LawFails c.args.laws.now.equations (rules_of rs) c.args.number) (sym c.in_ok-system.ensures) c.requires.2 in
    never_too_large c.args.laws.now.equations (rules_of c.in_ok-system.system.rules) c.args.number (equation_of c.listed-law.result.now) c.listed-law.ensures.law fails _ c.in-TermLimit.is c.in_ok-judge_terms.ensures
