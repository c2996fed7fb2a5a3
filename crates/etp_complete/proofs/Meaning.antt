-- What the answers of a completion mean.
use Rattle.std.proofs.Common.{◌≡◌, ◌≢◌, ◌<◌, ◌≤◌, ◌⊎◌, inl, inr, List, [], ◌∷◌, length, Some, slice_get, sym, ap, ◌∙◌, subst, arith, length-append}
use Rattle.std.proofs.lemmas.List.{length-map}
use Rattle.std.proofs.lemmas.List.Elements.{All-cons, All-nil}
use Rattle.std.proofs.lemmas.Option.{slice_get_within}
use Rattle.std.specs.Prelude.{All}
use Rattle.etp_theory.specs.Trees.{Tree, Equation}
use Rattle.etp_theory.specs.Derivations.{symmetric, transitive}
use Rattle.etp_theory.specs.Overlaps.{IsConvergent}
use Rattle.etp_theory.specs.RightFacts.{Implies, Refutes}
use Rattle.etp_theory.specs.LawNumbers.{law_numbered}
use Rattle.etp_theory.proofs.Convergent.{refuted_within}
use Rattle.etp_term.specs.Terms.{tree_of}
use Rattle.etp_rules.specs.Rules.{rule_of, rules_of}
use Rattle.etp_rules.specs.Deciding.{weight_in, IsInRange, IsAllowed, AreAllowed}
use Rattle.etp_canonical.specs.Judgements.{LawHolds, LawFails}
use Rattle.etp_items.specs.Bodies as Bodies
use Rattle.etp_items.specs.declared.body.RulesBody.{RulesBody}
use Rattle.etp_complete.specs.Completions.{Problem, weight_of, Orients, forth, back, AreSmall, ComesTo, at_first, by_round}
use Rattle.etp_complete.specs.Answers.{IsDone, IsJoined, EndsWith, IsAnswer, out_of_range, by_run}
use Rattle.etp_complete.specs.Derived.{AreDerived, rules_in, HasDerivedRules, IsValidSystem, IfDone, IfJoined}
use Rattle.etp_complete.specs.declared.answer.Completed.{Completed}
use Rattle.etp_complete.specs.declared.answer.Completed.TheVariants.{Done, Joined, WeightRange, Unorientable, SideTooLarge, TermLimit, StepLimit, Budget}
use Rattle.etp_complete.proofs.Lists.{which}
use Rattle.etp_complete.proofs.FirstSides.{only_form}
use Rattle.etp_complete.proofs.Directions.{left_ops, right_ops}
use Rattle.etp_complete.proofs.Deriving.{of_form, all_derived}

-- the rules of a run

module _ (p : Problem) where
  few_rules : {rules : List Equation} → ComesTo p rules → length rules ≤ 64
  few_rules at_first = omega arith
  few_rules (by_round {rules = rules} comes a) = omega (arith, a.room, ap length a.added, length-append rules (a.rule ∷ []))

  rule_allowed : (l r : Tree) (rule : Equation) → AreSmall l r → Orients (weight_of p) l r rule → IsAllowed (weight_of p) rule
  rule_allowed l r rule small (forth h e) =
      subst (IsAllowed (weight_of p)) (sym e) (record {
        left_small = omega (arith, left_ops l r, small.left);
        right_small = omega (arith, right_ops l r, small.right);
        decreasing = h;
      })
  rule_allowed l r rule small (back n h e) =
      subst (IsAllowed (weight_of p)) (sym e) (record {
        left_small = omega (arith, left_ops r l, small.right);
        right_small = omega (arith, right_ops r l, small.left);
        decreasing = h;
      })

  all_allowed : {rules : List Equation} → ComesTo p rules → AreAllowed (weight_of p) rules
  all_allowed at_first i e h = absurd (let l : i < 0 = slice_get_within [] i e h in omega (arith, l))
  all_allowed (by_round {rules = rules} comes a) i e h =
      go (all_allowed comes) (which rules a.rule i e (ap (λ xs. slice_get xs i) (sym a.added) ∙ h))
    where
      go : AreAllowed (weight_of p) rules → (slice_get rules i ≡ Some e) ⊎ (a.rule ≡ e) → IsAllowed (weight_of p) e
      go d (inl k) = d i e k
      go d (inr q) = subst (IsAllowed (weight_of p)) q (rule_allowed a.left a.right a.rule a.small a.oriented)

  -- a law with two different sides doesn't hold where there are no rules
  some_rules : (rules : List Equation) → LawHolds p.laws rules p.from → ((e : Equation) → law_numbered p.laws p.from ≡ Some e → e.left ≢ e.right) → 1 ≤ length rules
  some_rules [] h differ =
      absurd (differ h.law h.listed (only_form h.law.left h.holds.form h.holds.of_left ∙ sym (only_form h.law.right h.holds.form h.holds.of_right)))
  some_rules (rule ∷ rules) h differ = omega arith

  -- answers

  done_valid : ((e : Equation) → law_numbered p.laws p.from ≡ Some e → e.left ≢ e.right) → (rules : List Equation) → IsInRange (weight_of p) → ComesTo p rules → (body : RulesBody) → IsDone p rules body → IsValidSystem p.laws body
  done_valid differ rules range comes body h =
      let rules_are : rules ≡ rules_of body.rules = sym h.body_is.rules_are in
      let weights : weight_of p ≡ Bodies.weight_of body = ap weight_in (sym h.body_is.weight) in
      let long = length-map body.rules rule_of in
      let holding : All (LawHolds p.laws rules) (p.from ∷ []) = All-cons (LawHolds p.laws rules) p.from [] h.complete.holds (All-nil (LawHolds p.laws rules)) in
      let failing : All (LawFails p.laws rules) (p.target ∷ []) = All-cons (LawFails p.laws rules) p.target [] h.apart (All-nil (LawFails p.laws rules)) in
      record {
        some = omega (arith, some_rules rules h.complete.holds differ, ap length rules_are, long);
        few = omega (arith, few_rules comes, ap length rules_are, long);
        in_range = subst IsInRange weights range;
        allowed = subst (λ w. AreAllowed w (rules_of body.rules)) weights (subst (AreAllowed (weight_of p)) rules_are (all_allowed comes));
        convergent = subst (λ w. IsConvergent w (rules_of body.rules)) weights (subst (IsConvergent (weight_of p)) rules_are h.complete.convergent);
        judged = record {
          holding = subst (λ xs. All (LawHolds p.laws xs) body.claims.holds) rules_are (subst (All (LawHolds p.laws rules)) (sym h.body_is.holds) holding);
          failing = subst (λ xs. All (LawFails p.laws xs) body.claims.fails) rules_are (subst (All (LawFails p.laws rules)) (sym h.body_is.fails) failing);
        };
      }

  done_apart : (rules : List Equation) (body : RulesBody) → IsDone p rules body → Refutes p.laws p.from p.target
  done_apart rules body h =
      let holds = h.complete.holds in
      let fails = h.apart in
      record {
        holding = holds.law;
        failing = fails.found.law;
        holding_listed = holds.listed;
        failing_listed = fails.found.listed;
        apart = λ d. refuted_within (weight_of p) rules h.complete.convergent holds.law fails.found.law holds.holds fails.left_form fails.right_form fails.found.found.0 fails.found.found.1 fails.found.found.2 d;
      }

  joined_implied : (rules given : List Equation) (form : Tree) → ComesTo p rules → IsJoined p rules given form → Implies p.laws p.from p.target
  joined_implied rules given form comes h =
      let law = h.complete.holds.law in
      let d = all_derived p law h.complete.holds.listed comes in
      record {
        hypothesis = law;
        goal = h.one.law;
        hypothesis_listed = h.complete.holds.listed;
        goal_listed = h.one.listed;
        derived = transitive (of_form law rules d h.one.law.left form h.one.of_left) (symmetric (of_form law rules d h.one.law.right form h.one.of_right));
      }

  valid_end : ((e : Equation) → law_numbered p.laws p.from ≡ Some e → e.left ≢ e.right) → (rules : List Equation) → IsInRange (weight_of p) → ComesTo p rules → (c : Completed) → EndsWith p rules c → IfDone c (IsValidSystem p.laws)
  valid_end differ rules range comes (Done body) h = done_valid differ rules range comes body h
  valid_end differ rules range comes (Joined given form) h = tt
  valid_end differ rules range comes (WeightRange which) h = tt
  valid_end differ rules range comes (Unorientable origin l r) h = tt
  valid_end differ rules range comes (SideTooLarge origin l r) h = tt
  valid_end differ rules range comes (TermLimit origin) h = tt
  valid_end differ rules range comes (StepLimit origin) h = tt
  valid_end differ rules range comes (Budget origin) h = tt

  apart_end : (rules : List Equation) (c : Completed) → EndsWith p rules c → IfDone c (λ _. Refutes p.laws p.from p.target)
  apart_end rules (Done body) h = done_apart rules body h
  apart_end rules (Joined given form) h = tt
  apart_end rules (WeightRange which) h = tt
  apart_end rules (Unorientable origin l r) h = tt
  apart_end rules (SideTooLarge origin l r) h = tt
  apart_end rules (TermLimit origin) h = tt
  apart_end rules (StepLimit origin) h = tt
  apart_end rules (Budget origin) h = tt

  joined_end : (rules : List Equation) → ComesTo p rules → (c : Completed) → EndsWith p rules c → IfJoined c (Implies p.laws p.from p.target)
  joined_end rules comes (Done body) h = tt
  joined_end rules comes (Joined given form) h = joined_implied rules (rules_of given) (tree_of form) comes h
  joined_end rules comes (WeightRange which) h = tt
  joined_end rules comes (Unorientable origin l r) h = tt
  joined_end rules comes (SideTooLarge origin l r) h = tt
  joined_end rules comes (TermLimit origin) h = tt
  joined_end rules comes (StepLimit origin) h = tt
  joined_end rules comes (Budget origin) h = tt

  none_derived : (law : Equation) → AreDerived law []
  none_derived law i e h = absurd (let l : i < 0 = slice_get_within [] i e h in omega (arith, l))

  derived_end : (law : Equation) (rules : List Equation) → AreDerived law rules → (c : Completed) → EndsWith p rules c → AreDerived law (rules_in c)
  derived_end law rules d (Done body) h = subst (AreDerived law) (sym h.body_is.rules_are) d
  derived_end law rules d (Joined given form) h = subst (AreDerived law) (sym h.rules_are) d
  derived_end law rules d (WeightRange which) h = none_derived law
  derived_end law rules d (Unorientable origin l r) h = none_derived law
  derived_end law rules d (SideTooLarge origin l r) h = none_derived law
  derived_end law rules d (TermLimit origin) h = none_derived law
  derived_end law rules d (StepLimit origin) h = none_derived law
  derived_end law rules d (Budget origin) h = none_derived law

  pub is_valid : ((e : Equation) → law_numbered p.laws p.from ≡ Some e → e.left ≢ e.right) → (c : Completed) → IsAnswer p c → IfDone c (IsValidSystem p.laws)
  is_valid differ c (out_of_range which e h) = subst (λ x. IfDone x (IsValidSystem p.laws)) (sym e) tt
  is_valid differ c (by_run r) = valid_end differ r.rules r.in_range r.comes c r.ends

  pub is_apart : (c : Completed) → IsAnswer p c → IfDone c (λ _. Refutes p.laws p.from p.target)
  is_apart c (out_of_range which e h) = subst (λ x. IfDone x (λ _. Refutes p.laws p.from p.target)) (sym e) tt
  is_apart c (by_run r) = apart_end r.rules c r.ends

  pub is_joined : (c : Completed) → IsAnswer p c → IfJoined c (Implies p.laws p.from p.target)
  is_joined c (out_of_range which e h) = subst (λ x. IfJoined x (Implies p.laws p.from p.target)) (sym e) tt
  is_joined c (by_run r) = joined_end r.rules r.comes c r.ends

  pub is_derived : (c : Completed) → IsAnswer p c → HasDerivedRules p.laws p.from c
  is_derived c (out_of_range which e h) law listed = subst (λ x. AreDerived law (rules_in x)) (sym e) (none_derived law)
  is_derived c (by_run r) law listed = derived_end law r.rules (all_derived p law listed r.comes) c r.ends
