use Rattle.std.proofs.Common.{◌≡◌, List, ℕ, Some, take, sym, ap, ◌∙◌, subst, slice_get}
use Rattle.etp_closure.specs.Closures.{StandsFor, HasKeptLaws}
use Rattle.etp_closure.specs.Facts.{fact_of}
use Rattle.etp_finite.specs.Files.{facts_of}
use Rattle.etp_finite.specs.Kept.{files_of}
use Rattle.etp_finite.proofs.Lists.{get_contains, take_next}
use Rattle.etp_finite.proofs.Naming.{fact_at}
use Rattle.etp_finite.proofs.facts.add_all.Goals as goal

-- the fact that is added is that of the file at the place
there : (c : goal.After-index) → slice_get (facts_of (files_of c.args.files.now.entries)) c.loop-at.at ≡ Some (fact_of c.index.result.now.fact)
there c = fact_at c.args.files.now.entries c.loop-at.at c.index.result.now c.index.ensures ∙ ap Some (sym c.index.result.now.said)

pub add_fact-requires : goal.add_fact-requires
add_fact-requires c =
    subst (λ (slots : List ℕ). HasKeptLaws slots (fact_of c.index.result.now.fact)) (sym c.loop-at.invariant.same_slots)
    (c.requires.kept (fact_of c.index.result.now.fact) (get_contains (facts_of (files_of c.args.files.now.entries)) c.loop-at.at (fact_of c.index.result.now.fact) (there c)))

pub loop-at-preserved : goal.loop-at-preserved
loop-at-preserved c =
    let facts = facts_of (files_of c.args.files.now.entries) in
    let at = fact_at c.args.files.now.entries c.loop-at.at c.index.result.now c.index.ensures ∙ ap Some (sym c.index.result.now.said) in
    record {
      same_duals = c.add_fact.ensures.duals ∙ c.loop-at.invariant.same_duals;
      same_slots = c.add_fact.ensures.slots ∙ c.loop-at.invariant.same_slots;
      stands = subst (StandsFor c.add_fact.new.closure) (sym (take_next facts c.loop-at.at (fact_of c.index.result.now.fact) at)) (c.add_fact.ensures.stands (take c.loop-at.at facts) c.loop-at.invariant.stands);
    }
