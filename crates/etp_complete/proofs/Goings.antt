-- How a problem goes on after what is made of two forms, and after a round.
use Rattle.std.proofs.Common.{◌≡◌, ℕ, ◌<◌, ◌≤◌, ◌⊎◌, inl, inr, List, [], ◌∷◌, ◌++◌, length, Some, refl, sym, ap, ◌∙◌, subst, arith, length-append}
use Rattle.etp_theory.specs.Trees.{Tree, ops, Equation}
use Rattle.etp_theory.specs.FailingOverlaps.{two_forms, term_limit, step_limit}
use Rattle.etp_theory.specs.LawNumbers.{law_numbered}
use Rattle.etp_term.specs.Terms.{tree_of}
use Rattle.etp_term.specs.declared.term.Term.{Term}
use Rattle.etp_laws.specs.Listing.{IsTheList}
use Rattle.etp_laws.proofs.SmallLaws.{listed_small}
use Rattle.etp_rules.specs.Rules.{rules_of}
use Rattle.etp_rules.specs.Systems.{IsSystem}
use Rattle.etp_rules.specs.Deciding.{weight_in, IsInRange, IsFirstOut}
use Rattle.etp_rules.specs.declared.rule.Rule.{Rule}
use Rattle.etp_rules.specs.declared.system.RuleSystem.{RuleSystem}
use Rattle.etp_canonical.specs.Judgements.{IsFoundOf}
use Rattle.etp_complete.specs.Completions.{Problem, weight_of, FailsFirst, Orients, rule_limit, side_limit, at_first, by_round}
use Rattle.etp_complete.specs.Answers.{EndsWith, IsAnswer, out_of_range, by_run, on_the_way}
use Rattle.etp_complete.specs.Rounds.{IsGrown, GiveNone, AreLarge, CanRange, IsReached, IsNext, GoesOn}
use Rattle.etp_complete.specs.declared.answer.Origin.{Origin}
use Rattle.etp_complete.specs.declared.answer.Origin.TheVariants.{Law}
use Rattle.etp_complete.specs.declared.answer.Completed.{Completed}
use Rattle.etp_complete.specs.declared.answer.Completed.TheVariants.{WeightRange, Unorientable, SideTooLarge, TermLimit, StepLimit, Budget}
use Rattle.etp_complete.specs.declared.rounds.Round.{Round}
use Rattle.etp_complete.specs.declared.rounds.Round.TheVariants.{Grown, Ended}
use Rattle.etp_complete.proofs.FirstSides.{first_forms}

-- what is made of two forms

module _ (weight : List ℕ) (rules : List Equation) (origin : Origin) (left right : Term) where
  abbrev l : Tree
  l = tree_of left

  abbrev r : Tree
  r = tree_of right

  pub grown : (system : RuleSystem) → IsGrown (weight_in weight) rules l r system → GoesOn weight rules origin l r (Grown system)
  grown system g p same comes fails ranged =
      let weights : weight_in weight ≡ weight_of p = ap weight_in (sym same) in
      let more : rules_of system.rules ≡ rules ++ g.rule ∷ [] = g.system_is.rules_are in (
        record {
          weight_is = g.system_is.weight_is ∙ weights;
          comes = by_round comes (record {
            origin = origin;
            left = l;
            right = r;
            rule = g.rule;
            fails = fails;
            room = g.room;
            small = g.small;
            oriented = subst (λ w. Orients w l r g.rule) weights g.oriented;
            added = more;
          });
        },
        ap length more ∙ length-append rules (g.rule ∷ []),
      )

  pub weighed : (which : ℕ) → IsFirstOut (weight_in weight) which → GoesOn weight rules origin l r (Ended (WeightRange which))
  weighed which h p same comes fails ranged = out_of_range which refl (subst (λ w. IsFirstOut w which) (ap weight_in (sym same)) h)

  in_range : (p : Problem) → p.weight ≡ weight → CanRange (weight_in weight) rules l r → (length rules ≡ rule_limit) ⊎ ((side_limit < ops l) ⊎ (side_limit < ops r)) → IsInRange (weight_of p)
  in_range p same ranged h = subst IsInRange (ap weight_in (sym same)) (ranged h)

  pub full : length rules ≡ rule_limit → GoesOn weight rules origin l r (Ended (Budget origin))
  full h p same comes fails ranged = by_run (record {
    in_range = in_range p same ranged (inl h);
    rules = rules;
    comes = comes;
    ends = record { left = l; right = r; fails = fails; full = h };
  })

  pub large : AreLarge rules l r → GoesOn weight rules origin l r (Ended (SideTooLarge origin left right))
  large h p same comes fails ranged = by_run (record {
    in_range = in_range p same ranged (inr h.large);
    rules = rules;
    comes = comes;
    ends = record { fails = fails; room = h.room; large = h.large };
  })

  pub stuck : GiveNone (weight_in weight) rules l r → GoesOn weight rules origin l r (Ended (Unorientable origin left right))
  stuck h p same comes fails ranged =
      let weights : weight_in weight ≡ weight_of p = ap weight_in (sym same) in
      by_run (record {
        in_range = subst IsInRange weights h.in_range;
        rules = rules;
        comes = comes;
        ends = subst (λ w. GiveNone w rules l r → FailsFirst p rules origin (two_forms l r) → EndsWith p rules (Unorientable origin left right)) refl (λ g f. record {
          fails = f;
          room = g.room;
          small = g.small;
          unorientable = g.unorientable;
        }) (subst (λ w. GiveNone w rules l r) weights h) fails;
      })

-- a round of a system that the run comes to

module _ (p : Problem) (system : RuleSystem) (valid : IsSystem system.weights system.rules) (reached : IsReached p system) where
  abbrev so_far : List Equation
  so_far = rules_of system.rules

  pub range : IsInRange (weight_of p)
  range = subst IsInRange reached.weight_is valid.weight

  pub ended : (c : Completed) → EndsWith p so_far c → IsAnswer p c
  ended c h = by_run (record { in_range = range; rules = so_far; comes = reached.comes; ends = h })

  pub at_term_limit : (origin : Origin) → FailsFirst p so_far origin term_limit → IsAnswer p (TermLimit origin)
  at_term_limit origin h = ended (TermLimit origin) (on_the_way h)

  pub at_step_limit : (origin : Origin) → FailsFirst p so_far origin step_limit → IsAnswer p (StepLimit origin)
  at_step_limit origin h = ended (StepLimit origin) (on_the_way h)

  pub goes_on : (rules : List Rule) → rules ≡ system.rules → (origin : Origin) (left right : Term) (round : Round) → FailsFirst p so_far origin (two_forms (tree_of left) (tree_of right)) → GoesOn p.weight (rules_of rules) origin (tree_of left) (tree_of right) round → IsNext p (length so_far) round
  goes_on rules same origin left right round fails h =
      subst (λ (xs : List Rule). GoesOn p.weight (rules_of xs) origin (tree_of left) (tree_of right) round) same h p refl reached.comes fails (λ k. range)

-- the first round

pub first_goes_on : (p : Problem) (order : ℕ) (law : Equation) (rules : List Rule) (left right : Term) (round : Round) → IsTheList order p.laws → (order ≡ 4) ⊎ (order ≡ 5) → 2 ≤ p.from → law_numbered p.laws p.from ≡ Some law → rules ≡ [] → tree_of left ≡ law.left → tree_of right ≡ law.right → GoesOn p.weight (rules_of rules) (Law p.from) (tree_of left) (tree_of right) round → IsNext p 0 round
first_goes_on p order law rules left right round list known proper listed none l r h =
    let small = listed_small order p.laws p.from law list known listed in
    let found = first_forms order p.laws p.from law list known proper listed in
    let fails = subst (λ s. IsFoundOf p.laws [] p.from (two_forms s (tree_of right))) (sym l) (subst (λ t. IsFoundOf p.laws [] p.from (two_forms law.left t)) (sym r) found) in
    let left_few : ops (tree_of left) ≤ 5 = omega (arith, ap ops l, small.left_ops) in
    let right_few : ops (tree_of right) ≤ 5 = omega (arith, ap ops r, small.right_ops) in
    subst (λ (xs : List Rule). GoesOn p.weight (rules_of xs) (Law p.from) (tree_of left) (tree_of right) round) none h p refl at_first (refl, fails) (λ k. absurd (never left_few right_few k))
  where
    never : ops (tree_of left) ≤ 5 → ops (tree_of right) ≤ 5 → (◌≡◌ {A = ℕ} 0 64) ⊎ ((12 < ops (tree_of left)) ⊎ (12 < ops (tree_of right))) → ⊥
    never a b (inl e) = omega (arith, e)
    never a b (inr (inl h)) = omega (arith, a, h)
    never a b (inr (inr h)) = omega (arith, b, h)
