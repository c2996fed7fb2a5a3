-- The text of a rule system, written line by line.
use Rattle.std.proofs.Common.{◌≡◌, ℕ, ◌+◌, ◌<◌, ◌≤◌, arith, add-one, List, [], ◌∷◌, ◌++◌, length, take, get_or, slice_get, map, codes, sym, ap, ◌∙◌, append_assoc, Some, None, OnOk, Result, Ok, Err}
use Rattle.std.proofs.Math.Seq.{take-suc}
use Rattle.std.proofs.lemmas.List.{take_all}
use Rattle.std.proofs.lemmas.Option.{slice_get_within, slice_get-get_or, get_or_from_slice_get}
use Rattle.etp_theory.specs.Trees.{Equation}
use Rattle.etp_theory.specs.Weights.{Weight}
use Rattle.etp_rules.specs.Rules.{rule_of, rules_of}
use Rattle.etp_rules.specs.declared.rule.Rule.{Rule}
use Rattle.etp_lines.specs.RulesLines.{rule}
use Rattle.etp_lines.proofs.SideLemmas.{map_end}
use Rattle.etp_items.specs.Bodies.{rules}
use Rattle.etp_items.specs.Written.{written_by, written_numbers, written_rules_line, model_text}
use Rattle.etp_items.proofs.NumberLemmas.{written_join}

-- the lines of rules
abbrev pub rules_text : List Rule → List ℕ
rules_text rs = written_by written_rules_line (map rule (rules_of rs))

one_more : (rs : List Rule) (i : ℕ) (r : Rule) → Some r ≡ slice_get rs i → rules_text (take (i + 1) rs) ≡ rules_text (take i rs) ++ written_by written_rules_line (rule (rule_of r) ∷ [])
one_more rs i r h =
    let within : i < length rs = slice_get_within rs i r (sym h) in
    let first : take (i + 1) rs ≡ take i rs ++ r ∷ [] =
    ap (λ (n : ℕ). take n rs) (add-one i) ∙ take-suc rs i r within ∙ ap (λ (x : Rule). take i rs ++ x ∷ []) (get_or_from_slice_get rs i r r (sym h)) in
    ap rules_text first
    ∙ ap (λ (zs : List Equation). written_by written_rules_line (map rule zs)) (map_end rule_of (take i rs) r)
    ∙ ap (written_by written_rules_line) (map_end rule (rules_of (take i rs)) (rule_of r))
    ∙ written_join written_rules_line (map rule (rules_of (take i rs))) (rule (rule_of r) ∷ [])

-- one rule more
pub more_rules : (rs : List Rule) (i : ℕ) (r : Rule) (s t u : List ℕ) → Some r ≡ slice_get rs i → t ≡ s ++ rules_text (take i rs) → u ≡ t ++ written_by written_rules_line (rule (rule_of r) ∷ [])
    → u ≡ s ++ rules_text (take (i + 1) rs)
more_rules rs i r s t u h e f =
    f ∙ ap (λ z. z ++ written_by written_rules_line (rule (rule_of r) ∷ [])) e ∙ append_assoc s (rules_text (take i rs)) (written_by written_rules_line (rule (rule_of r) ∷ []))
    ∙ ap (λ z. s ++ z) (sym (one_more rs i r h))

none_some : {A : Type 0} (a : A) → None ≡ Some a → ⊥
none_some a e = cc

-- a place below the length has a rule
pub not_past : (rs : List Rule) (i : ℕ) → i < length rs → None ≡ slice_get rs i → ⊥
not_past [] i l h = omega (arith, l)
not_past (r ∷ rs) i l h = none_some (get_or (r ∷ rs) i r) (h ∙ slice_get-get_or (r ∷ rs) i r l)

-- all rules
pub all_rules : (rs : List Rule) (i : ℕ) (s t : List ℕ) → length rs ≤ i → t ≡ s ++ rules_text (take i rs) → t ≡ s ++ rules_text rs
all_rules rs i s t h e = e ∙ ap (λ (zs : List Rule). s ++ rules_text zs) (take_all i rs h)

-- the lines of a system
pub system_written : {T E : Type 0} (r : Result T E) (w : Weight) (rs : List Equation) (s t u v : List ℕ) → t ≡ s ++ (codes "rules" ++ 10 ∷ [])
    → u ≡ t ++ written_numbers (codes "weight") (w.on_left ∷ w.on_right ∷ w.added ∷ []) ++ 10 ∷ []
    → OnOk r (v ≡ u ++ written_by written_rules_line (map rule rs)) → OnOk r (v ≡ s ++ model_text (rules w rs))
system_written (Err e) w rs s t u v h a b = tt
system_written (Ok x) w rs s t u v h a b =
    let numbers = written_numbers (codes "weight") (w.on_left ∷ w.on_right ∷ w.added ∷ []) in
    let lines = written_by written_rules_line (map rule rs) in
    b ∙ ap (λ z. z ++ lines) (a ∙ ap (λ z. z ++ numbers ++ 10 ∷ []) h ∙ append_assoc (s ++ (codes "rules" ++ 10 ∷ [])) numbers (10 ∷ []) ∙ append_assoc s ((codes "rules" ++ 10 ∷ [])) (numbers ++ 10 ∷ []))
    ∙ append_assoc s ((codes "rules" ++ 10 ∷ []) ++ (numbers ++ 10 ∷ [])) lines ∙ ap (λ z. s ++ ((codes "rules" ++ 10 ∷ []) ++ z)) (append_assoc numbers (10 ∷ []) lines)
