-- A run ends at one list of rules, and in one way there.
use Rattle.std.proofs.Common.{◌≡◌, ℕ, ◌<◌, ◌⊎◌, inl, inr, List, [], length, refl, sym, ap, ◌∙◌, subst, subst₂, arith}
use Rattle.etp_theory.specs.Trees.{Tree, Equation, ops}
use Rattle.etp_theory.specs.Weights.{AllDecrease}
use Rattle.etp_theory.specs.FailingOverlaps.{Finding, two_forms, term_limit, step_limit}
use Rattle.etp_term.specs.Terms.{tree_of}
use Rattle.etp_term.specs.declared.term.Term.{Term}
use Rattle.etp_rules.specs.Rules.{rules_of}
use Rattle.etp_rules.specs.Deciding.{IsInRange, IsFirstOut}
use Rattle.etp_rules.specs.declared.rule.Rule.{Rule}
use Rattle.etp_rules.specs.declared.deciding.RulesRefusal.TheVariants as Refused
use Rattle.etp_rules.proofs.Refusals as Refusals
use Rattle.etp_items.specs.declared.body.RulesBody.{RulesBody}
use Rattle.etp_pairs.proofs.Terms.{one_term}
use Rattle.etp_canonical.specs.Judgements.{LawFails, IsFoundOf, IsFormOfBoth}
use Rattle.etp_complete.specs.Completions.{Problem, weight_of, FailsFirst, Orients, forth, back, IsUnorientable, AreSmall, rule_limit, side_limit, Adds, ComesTo, IsComplete}
use Rattle.etp_complete.specs.Answers.{IsBodyOf, PassesLimit, on_the_way, in_the_end, EndsWith, IsAnswer, out_of_range, by_run}
use Rattle.etp_complete.specs.declared.answer.Origin.{Origin}
use Rattle.etp_complete.specs.declared.answer.Origin.TheVariants.{Law}
use Rattle.etp_complete.specs.declared.answer.Completed.{Completed}
use Rattle.etp_complete.specs.declared.answer.Completed.TheVariants.{Done, Joined, WeightRange, Unorientable, SideTooLarge, TermLimit, StepLimit, Budget}
use Rattle.etp_completed.proofs.Values.{one_list}
use Rattle.etp_completed.proofs.FirstFailing.{one_found, form_or_found, one_form_of, one_failing, complete_or_fails}
use Rattle.etp_completed.proofs.Rounds.{all_decrease, left_of, right_of, Before, same, round, one_before}

-- why a run ends at these rules: two forms that give no rule, a limit, or nothing that fails
data FormsEnd (p : Problem) (rules : List Equation) (o : Origin) (l r : Tree) (c : Completed) : Type 0 where
  full : length rules ≡ rule_limit → c ≡ Budget o → FormsEnd p rules o l r c
  large : (x y : Term) → tree_of x ≡ l → tree_of y ≡ r → length rules < rule_limit → (side_limit < ops l) ⊎ (side_limit < ops r) → c ≡ SideTooLarge o x y → FormsEnd p rules o l r c
  stuck : (x y : Term) → tree_of x ≡ l → tree_of y ≡ r → length rules < rule_limit → AreSmall l r → IsUnorientable (weight_of p) l r → c ≡ Unorientable o x y → FormsEnd p rules o l r c

data GoalEnds (p : Problem) (rules : List Equation) (c : Completed) : Type 0 where
  goal_wide : IsFoundOf p.laws rules p.target term_limit → c ≡ TermLimit (Law p.target) → GoalEnds p rules c
  goal_long : IsFoundOf p.laws rules p.target step_limit → c ≡ StepLimit (Law p.target) → GoalEnds p rules c
  goal_joined : (given : List Rule) (form : Term) → rules_of given ≡ rules → IsFormOfBoth p.laws rules p.target (tree_of form) → c ≡ Joined given form → GoalEnds p rules c
  goal_apart : (body : RulesBody) → IsBodyOf p rules body → LawFails p.laws rules p.target → c ≡ Done body → GoalEnds p rules c

data Why (p : Problem) (rules : List Equation) (c : Completed) : Type 0 where
  by_forms : (o : Origin) (l r : Tree) → FailsFirst p rules o (two_forms l r) → FormsEnd p rules o l r c → Why p rules c
  by_width : (o : Origin) → FailsFirst p rules o term_limit → c ≡ TermLimit o → Why p rules c
  by_length : (o : Origin) → FailsFirst p rules o step_limit → c ≡ StepLimit o → Why p rules c
  by_goal : IsComplete p rules → GoalEnds p rules c → Why p rules c

module _ (p : Problem) (rules : List Equation) where
  too_wide : (o : Origin) → PassesLimit p rules term_limit o → Why p rules (TermLimit o)
  too_wide o (on_the_way h) = by_width o h refl
  too_wide o (in_the_end e h k) = by_goal h (goal_wide k (ap TermLimit e))

  too_long : (o : Origin) → PassesLimit p rules step_limit o → Why p rules (StepLimit o)
  too_long o (on_the_way h) = by_length o h refl
  too_long o (in_the_end e h k) = by_goal h (goal_long k (ap StepLimit e))

  why : (c : Completed) → EndsWith p rules c → Why p rules c
  why (Done body) h = by_goal h.complete (goal_apart body h.body_is h.apart refl)
  why (Joined given form) h = by_goal h.complete (goal_joined given form h.rules_are h.one refl)
  why (WeightRange which) h = absurd h
  why (Unorientable o l r) h = by_forms o (tree_of l) (tree_of r) h.fails (stuck l r refl refl h.room h.small h.unorientable refl)
  why (SideTooLarge o l r) h = by_forms o (tree_of l) (tree_of r) h.fails (large l r refl refl h.room h.large refl)
  why (TermLimit o) h = too_wide o h
  why (StepLimit o) h = too_long o h
  why (Budget o) h = by_forms o h.left h.right h.fails (full h.full refl)

  large_or_small : (l r : Tree) → (side_limit < ops l) ⊎ (side_limit < ops r) → AreSmall l r → ⊥
  large_or_small l r (inl h) k = omega (arith, h, k.left)
  large_or_small l r (inr h) k = omega (arith, h, k.right)

  terms : (x u y v : Term) (l r : Tree) → tree_of x ≡ l → tree_of u ≡ l → tree_of y ≡ r → tree_of v ≡ r → (x ≡ u) × (y ≡ v)
  terms x u y v l r a b c d = (one_term x u (a ∙ sym b), one_term y v (c ∙ sym d))

  one_forms_end : (o : Origin) (l r : Tree) (c d : Completed) → FormsEnd p rules o l r c → FormsEnd p rules o l r d → c ≡ d
  one_forms_end o l r c d (full h q) (full k s) = q ∙ sym s
  one_forms_end o l r c d (full h q) (large u v a b room k s) = absurd (omega (arith, h, room))
  one_forms_end o l r c d (full h q) (stuck u v a b room k n s) = absurd (omega (arith, h, room))
  one_forms_end o l r c d (large x y a b room h q) (full k s) = absurd (omega (arith, k, room))
  one_forms_end o l r c d (large x y a b room h q) (large u v e f other k s) =
      let t = terms x u y v l r a e b f in
      q ∙ (λ i. SideTooLarge o (t.0 i) (t.1 i)) ∙ sym s
  one_forms_end o l r c d (large x y a b room h q) (stuck u v e f other k n s) = absurd (large_or_small l r h k)
  one_forms_end o l r c d (stuck x y a b room h n q) (full k s) = absurd (omega (arith, k, room))
  one_forms_end o l r c d (stuck x y a b room h n q) (large u v e f other k s) = absurd (large_or_small l r k h)
  one_forms_end o l r c d (stuck x y a b room h n q) (stuck u v e f other k m s) =
      let t = terms x u y v l r a e b f in
      q ∙ (λ i. Unorientable o (t.0 i) (t.1 i)) ∙ sym s

  one_body : (a b : RulesBody) → IsBodyOf p rules a → IsBodyOf p rules b → a ≡ b
  one_body a b h k =
      let weights : a.weight ≡ b.weight = h.weight ∙ sym k.weight in
      let lists : a.rules ≡ b.rules = one_list a.rules b.rules (h.rules_are ∙ sym k.rules_are) in
      let holding : a.claims.holds ≡ b.claims.holds = h.holds ∙ sym k.holds in
      let failing : a.claims.fails ≡ b.claims.fails = h.fails ∙ sym k.fails in
      λ i. record { weight = weights i; rules = lists i; claims = record { holds = holding i; fails = failing i } }

  differ : (f g : Finding) → (f ≡ g → ⊥) → IsFoundOf p.laws rules p.target f → IsFoundOf p.laws rules p.target g → ⊥
  differ f g other h k = other (one_found p.laws rules p.target f g h k)

  one_goal_end : (c d : Completed) → GoalEnds p rules c → GoalEnds p rules d → c ≡ d
  one_goal_end c d (goal_wide h q) (goal_wide k s) = q ∙ sym s
  one_goal_end c d (goal_wide h q) (goal_long k s) = absurd (differ term_limit step_limit (λ e. absurd (cc)) h k)
  one_goal_end c d (goal_wide h q) (goal_joined given form e k s) = absurd (form_or_found p.laws rules p.target (tree_of form) term_limit k h)
  one_goal_end c d (goal_wide h q) (goal_apart body b k s) = absurd (differ term_limit (two_forms k.left_form k.right_form) (λ e. absurd (cc)) h k.found)
  one_goal_end c d (goal_long h q) (goal_wide k s) = absurd (differ step_limit term_limit (λ e. absurd (cc)) h k)
  one_goal_end c d (goal_long h q) (goal_long k s) = q ∙ sym s
  one_goal_end c d (goal_long h q) (goal_joined given form e k s) = absurd (form_or_found p.laws rules p.target (tree_of form) step_limit k h)
  one_goal_end c d (goal_long h q) (goal_apart body b k s) = absurd (differ step_limit (two_forms k.left_form k.right_form) (λ e. absurd (cc)) h k.found)
  one_goal_end c d (goal_joined given form e h q) (goal_wide k s) = absurd (form_or_found p.laws rules p.target (tree_of form) term_limit h k)
  one_goal_end c d (goal_joined given form e h q) (goal_long k s) = absurd (form_or_found p.laws rules p.target (tree_of form) step_limit h k)
  one_goal_end c d (goal_joined given form e h q) (goal_joined others other f k s) =
      let lists : given ≡ others = one_list given others (e ∙ sym f) in
      let forms : form ≡ other = one_term form other (one_form_of p.laws rules p.target (tree_of form) (tree_of other) h k) in
      q ∙ (λ i. Joined (lists i) (forms i)) ∙ sym s
  one_goal_end c d (goal_joined given form e h q) (goal_apart body b k s) = absurd (form_or_found p.laws rules p.target (tree_of form) (two_forms k.left_form k.right_form) h k.found)
  one_goal_end c d (goal_apart body b h q) (goal_wide k s) = absurd (differ (two_forms h.left_form h.right_form) term_limit (λ e. absurd (cc)) h.found k)
  one_goal_end c d (goal_apart body b h q) (goal_long k s) = absurd (differ (two_forms h.left_form h.right_form) step_limit (λ e. absurd (cc)) h.found k)
  one_goal_end c d (goal_apart body b h q) (goal_joined given form e k s) = absurd (form_or_found p.laws rules p.target (tree_of form) (two_forms h.left_form h.right_form) k h.found)
  one_goal_end c d (goal_apart body b h q) (goal_apart other a k s) = q ∙ ap Done (one_body body other b a) ∙ sym s

  module _ (all : AllDecrease (weight_of p) rules) where
    forms_or_limit : (o x : Origin) (l r : Tree) (f : Finding) → (two_forms l r ≡ f → ⊥) → FailsFirst p rules o (two_forms l r) → FailsFirst p rules x f → ⊥
    forms_or_limit o x l r f other h k = other (one_failing p rules all o x (two_forms l r) f h k).findings

    moved : (o x : Origin) (l r u v : Tree) (c : Completed) → FailsFirst p rules o (two_forms l r) → FailsFirst p rules x (two_forms u v) → FormsEnd p rules o l r c → FormsEnd p rules x u v c
    moved o x l r u v c h k e =
        let one = one_failing p rules all o x (two_forms l r) (two_forms u v) h k in
        subst (λ (y : Origin). FormsEnd p rules y u v c) one.origins
        (subst₂ (λ s t. FormsEnd p rules o s t c) (left_of l r u v one.findings) (right_of l r u v one.findings) e)

    one_why : (c d : Completed) → Why p rules c → Why p rules d → c ≡ d
    one_why c d (by_forms o l r h e) (by_forms x u v k f) = one_forms_end x u v c d (moved o x l r u v c h k e) f
    one_why c d (by_forms o l r h e) (by_width x k s) = absurd (forms_or_limit o x l r term_limit (λ q. absurd (cc)) h k)
    one_why c d (by_forms o l r h e) (by_length x k s) = absurd (forms_or_limit o x l r step_limit (λ q. absurd (cc)) h k)
    one_why c d (by_forms o l r h e) (by_goal k f) = absurd (complete_or_fails p rules all o (two_forms l r) k h)
    one_why c d (by_width o h q) (by_forms x u v k f) = absurd (forms_or_limit x o u v term_limit (λ e. absurd (cc)) k h)
    one_why c d (by_width o h q) (by_width x k s) = q ∙ ap TermLimit (one_failing p rules all o x term_limit term_limit h k).origins ∙ sym s
    one_why c d (by_width o h q) (by_length x k s) = absurd (let e = (one_failing p rules all o x term_limit step_limit h k).findings in cc)
    one_why c d (by_width o h q) (by_goal k f) = absurd (complete_or_fails p rules all o term_limit k h)
    one_why c d (by_length o h q) (by_forms x u v k f) = absurd (forms_or_limit x o u v step_limit (λ e. absurd (cc)) k h)
    one_why c d (by_length o h q) (by_width x k s) = absurd (let e = (one_failing p rules all o x step_limit term_limit h k).findings in cc)
    one_why c d (by_length o h q) (by_length x k s) = q ∙ ap StepLimit (one_failing p rules all o x step_limit step_limit h k).origins ∙ sym s
    one_why c d (by_length o h q) (by_goal k f) = absurd (complete_or_fails p rules all o step_limit k h)
    one_why c d (by_goal h e) (by_forms x u v k f) = absurd (complete_or_fails p rules all x (two_forms u v) h k)
    one_why c d (by_goal h e) (by_width x k s) = absurd (complete_or_fails p rules all x term_limit h k)
    one_why c d (by_goal h e) (by_length x k s) = absurd (complete_or_fails p rules all x step_limit h k)
    one_why c d (by_goal h e) (by_goal k f) = one_goal_end c d e f

    -- where a run ends no round adds a rule

    no_rule : (l r : Tree) (rule : Equation) → IsUnorientable (weight_of p) l r → Orients (weight_of p) l r rule → ⊥
    no_rule l r rule n (forth d q) = n.forth d
    no_rule l r rule n (back m d q) = n.back d

    no_round_after : (l r : Tree) (rule : Equation) (o : Origin) (c : Completed) → length rules < rule_limit → AreSmall l r → Orients (weight_of p) l r rule → FormsEnd p rules o l r c → ⊥
    no_round_after l r rule o c room small oriented (full h q) = omega (arith, h, room)
    no_round_after l r rule o c room small oriented (large x y a b other h q) = large_or_small l r h small
    no_round_after l r rule o c room small oriented (stuck x y a b other h n q) = no_rule l r rule n oriented

    ends_or_adds : (c : Completed) (more : List Equation) → Adds p rules more → Why p rules c → ⊥
    ends_or_adds c more a (by_forms o l r h e) =
        no_round_after a.left a.right a.rule a.origin c a.room a.small a.oriented (moved o a.origin l r a.left a.right c h a.fails e)
    ends_or_adds c more a (by_width o h q) = forms_or_limit a.origin o a.left a.right term_limit (λ e. absurd (cc)) a.fails h
    ends_or_adds c more a (by_length o h q) = forms_or_limit a.origin o a.left a.right step_limit (λ e. absurd (cc)) a.fails h
    ends_or_adds c more a (by_goal h e) = complete_or_fails p rules all a.origin (two_forms a.left a.right) h a.fails

module _ (p : Problem) (range : IsInRange (weight_of p)) where
  stays : (c : Completed) {a b : List Equation} → ComesTo p a → EndsWith p a c → Before p a b → a ≡ b
  stays c comes ends same = refl
  stays c {a = a} comes ends (round {b = m} x h) = absurd (ends_or_adds p a (all_decrease p range a comes) c m x (why p a c ends))

  pub one_end : (rules others : List Equation) (a b : Completed) → ComesTo p rules → ComesTo p others → EndsWith p rules a → EndsWith p others b → rules ≡ others
  one_end rules others a b c d e f = go (one_before p range rules others c d)
    where
      go : Before p rules others ⊎ Before p others rules → rules ≡ others
      go (inl h) = stays a c e h
      go (inr h) = sym (stays b d f h)

  one_ending : (rules others : List Equation) (a b : Completed) → ComesTo p rules → ComesTo p others → EndsWith p rules a → EndsWith p others b → a ≡ b
  one_ending rules others a b c d e f =
      let here = one_end rules others a b c d e f in
      one_why p others (all_decrease p range others d) a b (why p others a (subst (λ (xs : List Equation). EndsWith p xs a) here e)) (why p others b f)

-- answers

none_allowed : (p : Problem) (which : ℕ) → IsFirstOut (weight_of p) which → IsInRange (weight_of p) → ⊥
none_allowed p which h range = Refusals.never_both (weight_of p) [] (Refused.WeightRange which) h range (λ i rule k. absurd (cc))

one_which : (p : Problem) (m n : ℕ) → IsFirstOut (weight_of p) m → IsFirstOut (weight_of p) n → m ≡ n
one_which p m n h k =
    let e = Refusals.one_refusal (weight_of p) [] (Refused.WeightRange m) (Refused.WeightRange n) h k in cc

pub one_answer : (p : Problem) (a b : Completed) → IsAnswer p a → IsAnswer p b → a ≡ b
one_answer p a b (out_of_range m q h) (out_of_range n s k) = q ∙ ap WeightRange (one_which p m n h k) ∙ sym s
one_answer p a b (out_of_range m q h) (by_run r) = absurd (none_allowed p m h r.in_range)
one_answer p a b (by_run r) (out_of_range n s k) = absurd (none_allowed p n k r.in_range)
one_answer p a b (by_run r) (by_run s) = one_ending p r.in_range r.rules s.rules a b r.comes s.comes r.ends s.ends
