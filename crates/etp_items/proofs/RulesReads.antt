-- The written lines of a rule system are read back.
use Rattle.std.proofs.Common.{◌≡◌, ℕ, ◌+◌, ◌<◌, ◌≤◌, arith, true, nat_lt, List, [], ◌∷◌, ◌++◌, length, map, refl, subst, Some, All}
use Rattle.std.specs.List.{AllByRecursion}
use Rattle.std.proofs.lemmas.Bool.{lt-ltb}
use Rattle.std.proofs.lemmas.List.Elements.{recursion_from_All}
use Rattle.etp_theory.specs.Trees.{Equation}
use Rattle.etp_theory.specs.Weights.{Weight}
use Rattle.etp_reading.specs.Reading.{Reads}
use Rattle.etp_lines.specs.RulesLines as Systems
use Rattle.etp_lines.specs.RulesLines.{rule, rule_limit, named, weighed, system_lines}
use Rattle.etp_lines.specs.BodyLines as Lines
use Rattle.etp_lines.specs.BodyLines.{Line, Place, opening, in_head, rules_line, after, bodies}
use Rattle.etp_items.specs.Written.{IsWritableRule, IsShortRule, IsWritableSystem}
use Rattle.etp_items.proofs.TextLines.{as_given}
use Rattle.etp_items.proofs.ModelLineBack.{written_any, IsFewLine, reads_one}

rules_few : (rs : List Equation) (rest : List Line) → AllByRecursion IsWritableRule rs → AllByRecursion IsShortRule rs → AllByRecursion IsFewLine rest
    → AllByRecursion IsFewLine (map rules_line (map rule rs) ++ rest)
rules_few [] rest h s k = k
rules_few (r ∷ rs) rest h s k = ((h.0, s.0), rules_few rs rest h.1 s.1 k)

pub system_few : (w : Weight) (rs : List Equation) → IsWritableSystem w rs → All IsShortRule rs → (rest : List Line) → AllByRecursion IsFewLine rest
    → AllByRecursion IsFewLine (map rules_line (system_lines w rs) ++ rest)
system_few w rs h s rest k = (tt, ((h.left_small, h.right_small, h.added_small), rules_few rs rest (recursion_from_All IsWritableRule rs h.each) (recursion_from_All IsShortRule rs s) k))

rule_stands : (n : ℕ) (r : Equation) → n < rule_limit → after (in_head (Lines.rules (weighed n))) (rules_line (rule r)) ≡ Some (in_head (Lines.rules (weighed (n + 1))))
rule_stands n r few = let lt : nat_lt n 64 ≡ true = lt-ltb n 64 few in rw lt refl

read_rules : (n : ℕ) (rs : List Equation) (rest : List Line) (q : Place) → n + length rs ≤ rule_limit → AllByRecursion IsFewLine (map rules_line (map rule rs) ++ rest)
    → Reads bodies (in_head (Lines.rules (weighed (n + length rs)))) (as_given written_any rest) rest q
    → Reads bodies (in_head (Lines.rules (weighed n))) (as_given written_any (map rules_line (map rule rs) ++ rest)) (map rules_line (map rule rs) ++ rest) q
read_rules n [] rest q few small h = subst (λ k. Reads bodies (in_head (Lines.rules (weighed k))) (as_given written_any rest) rest q) (let e : n + 0 ≡ n = omega arith in e) h
read_rules n (r ∷ rs) rest q few small h =
    reads_one (in_head (Lines.rules (weighed n))) (in_head (Lines.rules (weighed (n + 1)))) q (rules_line (rule r)) (map rules_line (map rule rs) ++ rest) small.0
    (rule_stands n r (omega (arith, few)))
    (read_rules (n + 1) rs rest q (omega (arith, few)) small.1
    (subst (λ k. Reads bodies (in_head (Lines.rules (weighed k))) (as_given written_any rest) rest q) (let e : n + length (r ∷ rs) ≡ (n + 1) + length rs = omega arith in e) h))

-- the line of the weight, and the rules
weight_read : (w : Weight) (more : List Line) (q : Place) → AllByRecursion IsFewLine (rules_line (Systems.weight w.on_left w.on_right w.added) ∷ more)
    → Reads bodies (in_head (Lines.rules (weighed 0))) (as_given written_any more) more q
    → Reads bodies (in_head (Lines.rules named)) (as_given written_any (rules_line (Systems.weight w.on_left w.on_right w.added) ∷ more)) (rules_line (Systems.weight w.on_left w.on_right w.added) ∷ more) q
weight_read w more q small h =
    reads_one (in_head (Lines.rules named)) (in_head (Lines.rules (weighed 0))) q (rules_line (Systems.weight w.on_left w.on_right w.added)) more small.0 refl h

all_behind : (l : Line) (ls : List Line) → AllByRecursion IsFewLine (l ∷ ls) → AllByRecursion IsFewLine ls
all_behind l ls h = h.1

pub system_read : (w : Weight) (rs : List Equation) (rest : List Line) (q : Place) → IsWritableSystem w rs → AllByRecursion IsFewLine (map rules_line (system_lines w rs) ++ rest)
    → Reads bodies (in_head (Lines.rules (weighed (length rs)))) (as_given written_any rest) rest q
    → Reads bodies opening (as_given written_any (map rules_line (system_lines w rs) ++ rest)) (map rules_line (system_lines w rs) ++ rest) q
system_read w rs rest q h small claims =
    let weigh = rules_line (Systems.weight w.on_left w.on_right w.added) in
    let rules = map rules_line (map rule rs) ++ rest in
    let behind = all_behind (rules_line Systems.rules) (weigh ∷ rules) small in
    reads_one opening (in_head (Lines.rules named)) q (rules_line Systems.rules) (weigh ∷ rules) tt refl
    (weight_read w rules q behind
    (read_rules 0 rs rest q (omega (arith, h.few)) (all_behind weigh rules behind)
    (subst (λ k. Reads bodies (in_head (Lines.rules (weighed k))) (as_given written_any rest) rest q) (let e : length rs ≡ 0 + length rs = omega arith in e) claims)))
