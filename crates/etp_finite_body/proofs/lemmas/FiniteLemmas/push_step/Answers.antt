use Rattle.std.proofs.Common.{◌≡◌, ◌<◌, length, subst, sym, ap, List, true, rules}
use Rattle.etp_finite_body.specs.declared.lemmas.FiniteLemma.{FiniteLemma}
use Rattle.etp_finite_body.specs.Growing.{is_steps, ends_in_steps}
use Rattle.etp_finite_body.proofs.LastStep.{no_cancel, ends_some, last_grown}
use Rattle.etp_finite_body.proofs.lemmas.FiniteLemmas.push_step.Goals as goal

pub unreachable-requires : goal.unreachable-requires
unreachable-requires c =
    let ends : ends_in_steps c.self.inside.lemmas.items ≡ true = subst (λ (ls : List FiniteLemma). ends_in_steps ls ≡ true) (sym c.self.view_is) c.requires in
    let long : c.len-last.result ≡ length c.self.inside.lemmas.items = search rules in
    no_cancel c.self.inside.lemmas.items c.len-last.result c.index_mut.result.now long ends c.index_mut.ensures.value (ap is_steps c.in-Cancel.is)

pub returns-clause-ok : goal.returns-clause-ok
returns-clause-ok c =
    let ends : ends_in_steps c.self.inside.lemmas.items ≡ true = subst (λ (ls : List FiniteLemma). ends_in_steps ls ≡ true) (sym c.self.view_is) c.requires in
    let long : c.len-last.result ≡ length c.self.inside.lemmas.items = search rules in
    rw (← c.self.view_is) (last_grown c.push_to.result c.self.inside.lemmas.items c.args.step c.len-last.result c.index_mut.result.now c.in-Steps.lemma c.push_to.new.lemma
    long (ends_some c.self.inside.lemmas.items ends) c.index_mut.ensures.value c.in-Steps.is c.push_to.ensures.ok)
