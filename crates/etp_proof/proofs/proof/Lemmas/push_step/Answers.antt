use Rattle.std.proofs.Common.{◌≡◌, ◌<◌, length, subst, sym, List, rules}
use Rattle.etp_proof.specs.declared.proof.Lemma.{Lemma}
use Rattle.etp_proof.proofs.LastStep.{last_grown}
use Rattle.etp_proof.proofs.proof.Lemmas.push_step.Goals as goal

pub returns-clause-ok : goal.returns-clause-ok
returns-clause-ok c =
    let some : 0 < length c.self.inside.lemmas.items = subst (λ (ls : List Lemma). 0 < length ls) (sym c.self.view_is) c.requires in
    let long : c.len-last.result ≡ length c.self.inside.lemmas.items = search rules in
    rw (← c.self.view_is) (last_grown c.push.result c.self.inside.lemmas.items c.args.step c.len-last.result c.index_mut-lemma.result.now c.push.new.self long some c.index_mut-lemma.ensures.value c.push.ensures.ok)
