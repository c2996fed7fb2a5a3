use Rattle.std.proofs.Common.{◌≡◌, max, sym, ◌∙◌, subst, arith}
use Rattle.etp_theory.specs.Trees.{bound}
use Rattle.etp_term.specs.Terms.{tree_of}
use Rattle.etp_term.specs.Laws.{equation_of}
use Rattle.etp_laws.specs.LawLists.{HasVariables}
use Rattle.etp_laws.proofs.Variables.{HasVariables-bound, bound-few}
use Rattle.etp_laws.proofs.laws.variables_of.Goals as goal

pub overflow_cast-result : goal.overflow_cast-result
overflow_cast-result c =
    let few = bound-few (equation_of c.args.law.now) c.requires.listed in
    let small = c.requires.small in
    let value : c.max.result ≡ max (bound (tree_of c.args.law.now.left)) (bound (tree_of c.args.law.now.right)) = c.max.ensures ∙ (λ i. max (c.bound_of.ensures.value i) (c.bound_of-2.ensures.value i)) in
    omega arith

pub returns-clause-exact : goal.returns-clause-exact
returns-clause-exact c =
    let value : c.max.result ≡ max (bound (tree_of c.args.law.now.left)) (bound (tree_of c.args.law.now.right)) = c.max.ensures ∙ (λ i. max (c.bound_of.ensures.value i) (c.bound_of-2.ensures.value i)) in
    subst (HasVariables (equation_of c.args.law.now)) (sym value) (HasVariables-bound (equation_of c.args.law.now) c.requires.listed)

pub returns-clause-few : goal.returns-clause-few
returns-clause-few c =
    let few = bound-few (equation_of c.args.law.now) c.requires.listed in
    let value : c.max.result ≡ max (bound (tree_of c.args.law.now.left)) (bound (tree_of c.args.law.now.right)) = c.max.ensures ∙ (λ i. max (c.bound_of.ensures.value i) (c.bound_of-2.ensures.value i)) in
    omega arith
