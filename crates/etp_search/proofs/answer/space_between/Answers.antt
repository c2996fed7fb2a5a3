use Rattle.std.proofs.Common.{max, ap, subst, arith}
use Rattle.etp_theory.specs.Trees.{Equation, bound}
use Rattle.etp_laws.specs.LawLists.{HasVariables}
use Rattle.etp_replay.specs.Validity.{law_at}
use Rattle.etp_search.specs.Programs.{space_of}
use Rattle.etp_search.proofs.SearchedSpace.{searchable}
use Rattle.etp_search.proofs.answer.space_between.Goals as goal

pub returns-clause-space : goal.returns-clause-space
returns-clause-space c = λ i. record {
  law = c.listed.ensures.law i;
  variables = c.variables_of.ensures.bound i;
  leaves = c.args.leaves;
}

pub returns-clause-searchable : goal.returns-clause-searchable
returns-clause-searchable c =
    let e = ap (λ (p : Equation). max (bound p.left) (bound p.right)) c.listed.ensures.law in
    let known = c.variables_of-known.ensures.bound in
    let few = c.variables_of-known.ensures.few in
    searchable (space_of (record { law = c.listed.result; variables = c.variables_of.result; leaves = c.args.leaves })) (omega (arith, e, known, few)) c.variables_of.ensures.few c.requires.leaves

pub returns-clause-variables : goal.returns-clause-variables
returns-clause-variables c = subst (HasVariables (law_at c.args.laws.now.equations c.args.goal)) c.variables_of.ensures.bound c.variables_of.ensures.exact
