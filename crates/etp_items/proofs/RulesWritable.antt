-- A rule system that was read can be written.
use Rattle.std.proofs.Common.{◌≡◌, ℕ, ◌+◌, ◌<◌, ◌≤◌, arith, Bool, true, false, cond, nat_lt, List, [], ◌∷◌, ◌++◌, length, map, refl, sym, ap, subst, Some, None}
use Rattle.std.specs.Option.{option_map}
use Rattle.std.specs.List.{AllByRecursion}
use Rattle.std.proofs.lemmas.Bool.{leb-true, ltb-true}
use Rattle.std.proofs.lemmas.List.Elements.{All-from_recursion}
use Rattle.etp_io.specs.Texts.{LineText}
use Rattle.etp_theory.specs.Trees.{Equation}
use Rattle.etp_theory.specs.Weights.{Weight}
use Rattle.etp_reading.specs.Reading.{Reads}
use Rattle.etp_lines.specs.RulesLines as Systems
use Rattle.etp_lines.specs.RulesLines.{rule, rule_limit, named, weighed, system_lines}
use Rattle.etp_lines.specs.Claims.{holds, fails}
use Rattle.etp_lines.specs.BodyLines as Lines
use Rattle.etp_lines.specs.BodyLines.{Line, Place, opening, in_head, rules_line, claim_line, after, is_complete, bodies}
use Rattle.etp_items.specs.Bodies as Bodies
use Rattle.etp_items.specs.Reading.{SaysModel}
use Rattle.etp_items.specs.Written.{IsWritable, IsWritableRule}
use Rattle.etp_items.proofs.ClaimsRead.{none_some, first_read, claims_read, HeadRead}

-- a rule that stands
pub record RuleStands (n : ℕ) (next : Place) : Type 0 where
  pub few : n < rule_limit
  pub there : next ≡ in_head (Lines.rules (weighed (n + 1)))

rule_then : (few : Bool) (n : ℕ) (next : Place) → nat_lt n rule_limit ≡ few
    → option_map in_head (option_map Lines.rules (cond few (Some (weighed (n + 1))) None)) ≡ Some next → RuleStands n next
rule_then true n next e h = let k : in_head (Lines.rules (weighed (n + 1))) ≡ next = cc in record { few = ltb-true n rule_limit e; there = sym k }
rule_then false n next e h = absurd (none_some next h)

rule_stands : (n : ℕ) (r : Equation) (next : Place) → after (in_head (Lines.rules (weighed n))) (rules_line (rule r)) ≡ Some next → RuleStands n next
rule_stands n r next h = rule_then (nat_lt n rule_limit) n next refl h

-- rules that were read
pub record AreRead (n : ℕ) (rs : List Equation) (rest : List Line) (q : Place) : Type 0 where
  pub behind : List LineText
  pub few : n + length rs ≤ rule_limit
  pub reads : Reads bodies (in_head (Lines.rules (weighed (n + length rs)))) behind rest q

are_read : (n : ℕ) (xs : List LineText) (rs : List Equation) (rest : List Line) (q : Place) → n ≤ rule_limit
    → Reads bodies (in_head (Lines.rules (weighed n))) xs (map rules_line (map rule rs) ++ rest) q → AreRead n rs rest q
are_read n xs [] rest q few h = record {
  behind = xs;
  few = omega (arith, few);
  reads = subst (λ k. Reads bodies (in_head (Lines.rules (weighed k))) xs rest q) (let e : n ≡ n + 0 = omega arith in e) h;
}
are_read n xs (r ∷ rs) rest q few h =
    let f = first_read (in_head (Lines.rules (weighed n))) xs (rules_line (rule r)) (map rules_line (map rule rs) ++ rest) q h in
    let s = rule_stands n r f.next f.stands in
    let on = are_read (n + 1) f.behind rs rest q (omega (arith, s.few)) (subst (λ (z : Place). Reads bodies z f.behind (map rules_line (map rule rs) ++ rest) q) s.there f.reads) in
    record {
      behind = on.behind;
      few = omega (arith, on.few);
      reads = subst (λ k. Reads bodies (in_head (Lines.rules (weighed k))) on.behind rest q) (let e : (n + 1) + length rs ≡ n + length (r ∷ rs) = omega arith in e) on.reads;
    }

-- each of them can be written, and what is behind them
rules_writable : (rs : List Equation) (rest : List Line) → AllByRecursion IsWritable (map rules_line (map rule rs) ++ rest) → AllByRecursion IsWritableRule rs × AllByRecursion IsWritable rest
rules_writable [] rest h = (tt, h)
rules_writable (r ∷ rs) rest h = let on = rules_writable rs rest h.1 in ((h.0, on.0), on.1)

all_behind : (l : Line) (ls : List Line) → AllByRecursion IsWritable (l ∷ ls) → AllByRecursion IsWritable ls
all_behind l ls h = h.1

all_first : (l : Line) (ls : List Line) → AllByRecursion IsWritable (l ∷ ls) → IsWritable l
all_first l ls h = h.0

same_place : (p q : Place) → Some p ≡ Some q → p ≡ q
same_place p q e = cc

pub rules_read : (lines : List LineText) (saids : List Line) (w : Weight) (rs : List Equation) (hs fs : List (List ℕ)) (q : Place) → is_complete q ≡ true
    → SaysModel saids (Bodies.rules w rs) → Reads bodies opening lines (saids ++ map claim_line (map holds hs ++ map fails fs)) q
    → AllByRecursion IsWritable (saids ++ map claim_line (map holds hs ++ map fails fs)) → HeadRead (Bodies.rules w rs) hs fs (map claim_line (map holds hs ++ map fails fs))
rules_read lines saids w rs hs fs q complete says reads writable =
    let rest = map claim_line (map holds hs ++ map fails fs) in
    let rules = map rules_line (map rule rs) ++ rest in
    let weigh = rules_line (Systems.weight w.on_left w.on_right w.added) in
    let whole : saids ++ rest ≡ rules_line Systems.rules ∷ weigh ∷ rules = ap (λ z. z ++ rest) says in
    let f = first_read opening lines (rules_line Systems.rules) (weigh ∷ rules) q (subst (λ (z : List Line). Reads bodies opening lines z q) whole reads) in
    let is_named = same_place (in_head (Lines.rules named)) f.next f.stands in
    let g = first_read (in_head (Lines.rules named)) f.behind weigh rules q (subst (λ (z : Place). Reads bodies z f.behind (weigh ∷ rules) q) (sym is_named) f.reads) in
    let is_weighed = same_place (in_head (Lines.rules (weighed 0))) g.next g.stands in
    let all = are_read 0 g.behind rs rest q (omega arith) (subst (λ (z : Place). Reads bodies z g.behind rules q) (sym is_weighed) g.reads) in
    let claims = claims_read (Lines.rules (weighed (0 + length rs))) all.behind hs fs q complete all.reads in
    let some = leb-true 1 (0 + length rs) claims.told in
    let behind = all_behind (rules_line Systems.rules) (weigh ∷ rules) (subst (AllByRecursion IsWritable) whole writable) in
    let numbers = all_first weigh rules behind in
    let each = rules_writable rs rest (all_behind weigh rules behind) in
    record {
      head = Lines.rules (weighed (0 + length rs));
      writable = record {
        left_small = numbers.0;
        right_small = numbers.1;
        added_small = numbers.2;
        some = omega (arith, some);
        few = omega (arith, all.few);
        each = All-from_recursion IsWritableRule rs each.0;
      };
      claims = claims;
      behind = each.1;
    }
