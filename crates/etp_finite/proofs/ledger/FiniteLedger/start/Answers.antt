use Rattle.std.proofs.Common.{◌≡◌, ◌<◌, List, [], length, ap, sym, ◌∙◌, subst, arith}
use Rattle.etp_theory.specs.Trees.{Equation}
use Rattle.etp_laws.specs.Listing.{IsTheList}
use Rattle.etp_laws.specs.LawLists.{AreDuals}
use Rattle.etp_laws.proofs.Unique.{IsTheList-unique}
use Rattle.etp_closure.specs.Closures.{StandsFor}
use Rattle.etp_finite.specs.Files.{File, facts_of}
use Rattle.etp_finite.specs.Accepting.{AreAccepted}
use Rattle.etp_finite.specs.Kept.{files_of}
use Rattle.etp_finite.proofs.ledger.FiniteLedger.start.Goals as goal

pub invariant_of-result : goal.invariant_of-result
invariant_of-result c =
    let none : files_of c.new.result.entries ≡ [] = ap files_of c.new.ensures.empty in
    let duals = c.in_ok-start.ensures.duals ∙ c.duals.ensures.value in
    let own : IsTheList 4 c.args.laws.now.equations = subst (λ k. IsTheList k c.args.laws.now.equations) c.requires c.order-order.ensures.list in
    record {
      few = subst (λ (fs : List File). length fs < 4294967296) (sym none) (omega arith);
      stands = subst (λ (fs : List File). StandsFor c.in_ok-start.field-0 (facts_of fs)) (sym none) c.in_ok-start.ensures.stands;
      duals = λ laws list. subst (λ (es : List Equation). AreDuals es c.in_ok-start.field-0.duals) (IsTheList-unique 4 c.args.laws.now.equations laws own list) (subst (AreDuals c.args.laws.now.equations) (sym duals) c.duals.ensures.exact);
      accepted = λ laws list. subst (AreAccepted laws) (sym none) tt;
    }
