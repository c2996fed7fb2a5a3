-- The body of a valid system is valid, so it has no offence.
use Rattle.std.proofs.Common.{◌≡◌, inl, inr, List, [], refl, sym, subst, arith}
use Rattle.std.specs.Prelude.{IsSome}
use Rattle.std.proofs.lemmas.List.{length-map}
use Rattle.std.proofs.lemmas.List.Elements.{All-nil, All-weaker}
use Rattle.etp_theory.specs.Trees.{Equation}
use Rattle.etp_theory.specs.LawNumbers.{law_numbered}
use Rattle.etp_laws.specs.LawLists.{LawList}
use Rattle.etp_rules.specs.Rules.{rule_of, rules_of}
use Rattle.etp_canonical.specs.Judgements.{LawHolds, LawFails}
use Rattle.etp_items.specs.Bodies.{body_of}
use Rattle.etp_items.specs.declared.body.RulesBody.{RulesBody}
use Rattle.etp_items.specs.declared.body.Body.TheVariants.{Rules}
use Rattle.etp_check.specs.Checks.{IsValidBody}
use Rattle.etp_check.specs.Refusals.{IsCheckRefused}
use Rattle.etp_check.specs.declared.refusal.CheckRefusal.{CheckRefusal}
use Rattle.etp_check.specs.declared.refusal.CheckRefusal.TheVariants.{NoMemory}
use Rattle.etp_check.proofs.Verdicts.{right_or_refused}
use Rattle.etp_complete.specs.Derived.{IsValidSystem}

module _ (laws : List Equation) where
  pub valid : (body : RulesBody) → IsValidSystem laws body → IsValidBody laws (body_of (Rules body)) []
  valid body h =
      let rules = rules_of body.rules in
      let long = length-map body.rules rule_of in
      record {
        listed = record {
          holds_listed = All-weaker (LawHolds laws rules) (λ n. IsSome (law_numbered laws n)) (λ n k. subst IsSome (sym k.listed) refl) body.claims.holds h.judged.holding;
          fails_listed = All-weaker (LawFails laws rules) (λ n. IsSome (law_numbered laws n)) (λ n k. subst IsSome (sym k.found.listed) refl) body.claims.fails h.judged.failing;
        };
        content = record {
          some = omega (arith, h.some, long);
          few = omega (arith, h.few, long);
          small = h.convergent.small;
        };
        numbers = record { as_many = refl; cited_listed = All-nil (λ n. IsSome (law_numbered laws n)) };
        right = (record { in_range = h.in_range; allowed = h.allowed; convergent = h.convergent }, h.judged);
      }

pub accepted : (laws : LawList) (body : RulesBody) (r : CheckRefusal) → IsValidSystem laws.equations body → IsCheckRefused laws (body_of (Rules body)) [] r → r ≡ NoMemory
accepted laws body r h (inl e) = e
accepted laws body r h (inr o) = absurd (right_or_refused laws (body_of (Rules body)) [] r (valid laws.equations body h).right o)
