-- A rule system with one line more.
use Rattle.std.proofs.Common.{◌≡◌, ℕ, ◌+◌, ◌<◌, ◌≤◌, ◌&&◌, Bool, true, false, List, [], ◌∷◌, ◌++◌, length, map, nat_le, nat_lt, slice_index, refl, sym, ap, ◌∙◌, Option, Some, None, IfOk, Result, Ok, Err, length-append}
use Rattle.std.specs.Option.{option_map, is_some}
use Rattle.std.proofs.lemmas.Bool.{lt-ltb, le-ltb}
use Rattle.etp_theory.specs.Trees.{Equation}
use Rattle.etp_rules.specs.Rules.{rule_of, rules_of}
use Rattle.etp_rules.specs.Deciding.{weight_in}
use Rattle.etp_rules.specs.declared.rule.Rule.{Rule}
use Rattle.etp_lines.specs.RulesLines as Systems
use Rattle.etp_lines.specs.RulesLines.{RulesLine, weight, rule, rule_limit, weighed, after_in_rules, has_rule, system_lines}
use Rattle.etp_lines.specs.BodyLines as Lines
use Rattle.etp_lines.specs.BodyLines.{Line, of_proofs, of_tables, of_linear, of_matrices, of_rules, of_claims, Head, opened_head, next_head, rules_line}
use Rattle.etp_lines.proofs.SideLemmas.{map_end}
use Rattle.etp_items.specs.Work.{rules_place_with, rules_place, rules_said_with, rules_said, OpensRules, TakesInRules, weight_told, OpensHead, TakesInHead}
use Rattle.etp_items.specs.declared.rules.work.RulesWork.{RulesWork}
use Rattle.etp_items.specs.declared.magma.MagmaWork.TheVariants.{Rules}

some_none : {A : Type 0} (a : A) → Some a ≡ None → ⊥
some_none a e = cc

true_false : true ≡ false → ⊥
true_false e = cc

none_is : {A : Type 0} (o : Option A) → is_some o ≡ false → o ≡ None
none_is None e = refl
none_is (Some a) e = absurd (true_false e)

-- the weight stands behind the line `rules`
pub weight_taken : (old : RulesWork) (w : List ℕ) → is_some old.weight ≡ false
    → TakesInRules old (weight (slice_index w 0) (slice_index w 1) (slice_index w 2)) (record old { weight = Some w }) true
weight_taken old w unweighed h =
    let said : RulesLine = weight (slice_index w 0) (slice_index w 1) (slice_index w 2) in
    let none : old.weight ≡ None = none_is old.weight unweighed in
    let empty : old.rules ≡ [] = h none in
    record {
      stands = ap (λ (o : Option (List ℕ)). after_in_rules (rules_place_with o (length old.rules)) said) none ∙ ap (λ (rs : List Rule). Some (weighed (length rs))) (sym empty);
      now = λ e. absurd (some_none w e);
      said_is = ap (λ (rs : List Rule). system_lines (weight_in w) (rules_of rs)) empty ∙ ap (λ (o : Option (List ℕ)). rules_said_with o old.rules ++ said ∷ []) (sym none);
    }

-- and no second one
weight_once : (o : Option (List ℕ)) (n i j k : ℕ) → is_some o ≡ true → after_in_rules (rules_place_with o n) (weight i j k) ≡ None
weight_once None n i j k e = absurd (true_false (sym e))
weight_once (Some w) n i j k e = refl

pub weight_shut : (old : RulesWork) (w : List ℕ) → is_some old.weight ≡ true → TakesInRules old (weight (slice_index w 0) (slice_index w 1) (slice_index w 2)) old false
weight_shut old w stands = weight_once old.weight (length old.rules) (slice_index w 0) (slice_index w 1) (slice_index w 2) stands

-- a rule stands behind the weight, and behind fewer than 64 rules
rule_more : (o : Option (List ℕ)) (rs : List Rule) (x : Rule) → is_some o ≡ true → length rs < rule_limit
    → (after_in_rules (rules_place_with o (length rs)) (rule (rule_of x)) ≡ Some (rules_place_with o (length (rs ++ x ∷ []))))
    × (o ≡ None → rs ++ x ∷ [] ≡ []) × (rules_said_with o (rs ++ x ∷ []) ≡ rules_said_with o rs ++ rule (rule_of x) ∷ [])
rule_more None rs x e few = absurd (true_false (sym e))
rule_more (Some w) rs x e few =
    let lt : nat_lt (length rs) 64 ≡ true = lt-ltb (length rs) 64 few in
    let n : length (rs ++ x ∷ []) ≡ length rs + 1 = length-append rs (x ∷ []) in (
      rw (lt, n) refl,
      (λ f. absurd (some_none w f)),
      ap (λ (zs : List RulesLine). Systems.rules ∷ weight (slice_index w 0) (slice_index w 1) (slice_index w 2) ∷ zs)
          (ap (map rule) (map_end rule_of rs x) ∙ map_end rule (rules_of rs) (rule_of x)),
    )

pub rule_taken : (old : RulesWork) (x : Rule) → is_some old.weight ≡ true → length old.rules < rule_limit
    → TakesInRules old (rule (rule_of x)) (record old { rules = old.rules ++ x ∷ [] }) true
rule_taken old x stands few h =
    let more = rule_more old.weight old.rules x stands few in
    record { stands = more.0; now = more.1; said_is = more.2 }

no_weight : (o : Option (List ℕ)) (n : ℕ) (r : Equation) → is_some o ≡ false → after_in_rules (rules_place_with o n) (rule r) ≡ None
no_weight None n r e = refl
no_weight (Some w) n r e = absurd (true_false e)

pub rule_unweighed : (old : RulesWork) (x : Rule) → is_some old.weight ≡ false → TakesInRules old (rule (rule_of x)) old false
rule_unweighed old x e = no_weight old.weight (length old.rules) (rule_of x) e

all_stand : (o : Option (List ℕ)) (n : ℕ) (r : Equation) → rule_limit ≤ n → after_in_rules (rules_place_with o n) (rule r) ≡ None
all_stand None n r past = refl
all_stand (Some w) n r past = let ge : nat_lt n 64 ≡ false = le-ltb n 64 past in rw ge refl

pub rules_full : (old : RulesWork) (x : Rule) → rule_limit ≤ length old.rules → TakesInRules old (rule (rule_of x)) old false
rules_full old x past = all_stand old.weight (length old.rules) (rule_of x) past

pub has_rule_is : (o : Option (List ℕ)) (n : ℕ) → (is_some o && nat_le 1 n) ≡ has_rule (rules_place_with o n)
has_rule_is None n = refl
has_rule_is (Some w) n = refl

-- a rule system opens a magma
pub rules_open : (said : RulesLine) (w : RulesWork) → OpensRules said (Some w) → OpensHead (rules_line said) (Some (Rules w))
rules_open said w t = (
  Lines.rules (rules_place w),
  ap (λ (z : RulesLine). opened_head (rules_line z)) t.0 ∙ ap (λ (o : Option (List ℕ)). Some (Lines.rules (rules_place_with o (length w.rules)))) (sym t.1),
  ((λ e. t.2), refl, ap (λ (z : RulesLine). rules_line z ∷ []) t.0 ∙ ap (λ (o : Option (List ℕ)). map rules_line (rules_said_with o w.rules)) (sym t.1)),
)

-- a magma goes on as its system does
pub rules_take : (old new : RulesWork) (said : RulesLine) (taken : Bool) → TakesInRules old said new taken → TakesInHead (Rules old) (rules_line said) (Rules new) taken
rules_take old new said true t = λ head saids (h, p, s).
    let on = t h in
    record {
      next = Lines.rules (rules_place new);
      stands = ap (λ (z : Head). next_head z (rules_line said)) p ∙ ap (option_map Lines.rules) on.stands;
      has = (on.now, refl, ap (λ z. z ++ rules_line said ∷ []) s ∙ sym (map_end rules_line (rules_said old) said) ∙ ap (map rules_line) (sym on.said_is));
    }
rules_take old new said false t = λ head saids (h, p, s). ap (λ (z : Head). next_head z (rules_line said)) p ∙ ap (option_map Lines.rules) t

pub rules_take_ok : {E : Type 0} (old new : RulesWork) (said : RulesLine) (r : Result Bool E) → IfOk r (TakesInRules old said new) → IfOk r (TakesInHead (Rules old) (rules_line said) (Rules new))
rules_take_ok old new said (Ok taken) t = rules_take old new said taken t
rules_take_ok old new said (Err e) t = tt

-- a line that is none of rules tells no more of them
abbrev pub IsNoRulesLine : Line → Type 0
IsNoRulesLine (of_rules, said) = ⊥
IsNoRulesLine _ = Unit {0}

pub rules_keep : (w : RulesWork) (said : Line) → IsNoRulesLine said → TakesInHead (Rules w) said (Rules w) false
rules_keep w (of_proofs, said) none head saids h = ap (λ (z : Head). next_head z (of_proofs, said)) h.1
rules_keep w (of_tables, said) none head saids h = ap (λ (z : Head). next_head z (of_tables, said)) h.1
rules_keep w (of_linear, said) none head saids h = ap (λ (z : Head). next_head z (of_linear, said)) h.1
rules_keep w (of_matrices, said) none head saids h = ap (λ (z : Head). next_head z (of_matrices, said)) h.1
rules_keep w (of_rules, said) none head saids h = absurd none
rules_keep w (of_claims, said) none head saids h = ap (λ (z : Head). next_head z (of_claims, said)) h.1

-- the lines tell the system where a rule stands
say_with : (o : Option (List ℕ)) (rs : List Rule) → has_rule (rules_place_with o (length rs)) ≡ true → rules_said_with o rs ≡ system_lines (weight_in (weight_told o)) (rules_of rs)
say_with None rs told = absurd (true_false (sym told))
say_with (Some w) rs told = refl

pub rules_say : (w : RulesWork) → has_rule (rules_place w) ≡ true → rules_said w ≡ system_lines (weight_in (weight_told w.weight)) (rules_of w.rules)
rules_say w told = say_with w.weight w.rules told
