-- A line of a rule system says one thing, and its first word tells its kind.
use Rattle.std.proofs.Common.{◌≡◌, ℕ, List, [], ◌∷◌, refl, sym, ap, ◌∙◌, arith, length, Some, codes}
use Rattle.std.proofs.lemmas.Option.{same_Some}
use Rattle.etp_theory.specs.Trees.{Tree, Equation}
use Rattle.etp_words.specs.Words.{words_of, behind_word}
use Rattle.etp_words.specs.Numbers.{number_said}
use Rattle.etp_lines.specs.RulesLines.{RulesLine, rules, weight, rule, SaysWeight, SaysRule, SaysRulesLine}
use Rattle.etp_lines.specs.BodyLines.{kind_named, of_rules}
use Rattle.etp_lines.proofs.OneProofLine.{one_side}
use Rattle.etp_lines.proofs.DividedLemmas.{one_division}

-- the first word of a line that says this
abbrev pub first_word : RulesLine → List ℕ
first_word rules = codes "rules"
first_word (weight on_left on_right added) = codes "weight"
first_word (rule r) = codes "rule"

pub begins : (line : List ℕ) (l : RulesLine) → SaysRulesLine line l → (more : List (List ℕ)) × (words_of line ≡ first_word l ∷ more)
begins line rules s = ([], s)
begins line (weight on_left on_right added) s = (s.first ∷ s.second ∷ s.third ∷ [], s.words)
begins line (rule r) s = (s.more, s.words)

pub first_word_kind : (l : RulesLine) → kind_named (first_word l) ≡ Some of_rules
first_word_kind rules = refl
first_word_kind (weight on_left on_right added) = refl
first_word_kind (rule r) = refl

same_number : (v w : List ℕ) (m n : ℕ) → v ≡ w → number_said v ≡ Some m → number_said w ≡ Some n → m ≡ n
same_number v w m n e p q = same_Some m n (sym p ∙ ap number_said e ∙ q)

one_weight : (line : List ℕ) (a b c i j k : ℕ) → SaysWeight line a b c → SaysWeight line i j k → weight a b c ≡ weight i j k
one_weight line a b c i j k p q =
    let e : (codes "weight" ∷ p.first ∷ p.second ∷ p.third ∷ []) ≡ (codes "weight" ∷ q.first ∷ q.second ∷ q.third ∷ []) = sym p.words ∙ q.words in
    let f : p.first ≡ q.first = cc in
    let g : p.second ≡ q.second = cc in
    let h : p.third ≡ q.third = cc in
    ap (λ z. weight z b c) (same_number p.first q.first a i f p.left_said q.left_said)
    ∙ ap (λ z. weight i z c) (same_number p.second q.second b j g p.right_said q.right_said)
    ∙ ap (λ z. weight i j z) (same_number p.third q.third c k h p.added_said q.added_said)

same_rule : (r s : Equation) → r.left ≡ s.left → r.right ≡ s.right → r ≡ s
same_rule r s e f = ap (λ (z : Tree). record { left = z; right = r.right }) e ∙ ap (λ (z : Tree). record { left = s.left; right = z }) f

one_rule : (line : List ℕ) (r s : Equation) → SaysRule line r → SaysRule line s → r ≡ s
one_rule line r s p q =
    let same = one_division (behind_word line) p.left p.right q.left q.right p.divided q.divided in
    same_rule r s (one_side q.left r.left s.left (rw same.0 at p.left_spelled) q.left_spelled)
    (one_side q.right r.right s.right (rw same.1 at p.right_spelled) q.right_spelled)

-- the words of two lines differ in their length
first_length : (line : List ℕ) (l m : RulesLine) → SaysRulesLine line l → SaysRulesLine line m → length (first_word l) ≡ length (first_word m)
first_length line l m s t =
    let p = begins line l s in
    let q = begins line m t in
    let e : (first_word l ∷ p.0) ≡ (first_word m ∷ q.0) = sym p.1 ∙ q.1 in
    let f : first_word l ≡ first_word m = cc in
    ap length f

pub one_rules_line : (line : List ℕ) (l m : RulesLine) → SaysRulesLine line l → SaysRulesLine line m → l ≡ m
one_rules_line line rules rules p q = refl
one_rules_line line rules (weight i j k) p q = absurd (omega (arith, first_length line rules (weight i j k) p q))
one_rules_line line rules (rule s) p q = absurd (omega (arith, first_length line rules (rule s) p q))
one_rules_line line (weight a b c) rules p q = absurd (omega (arith, first_length line (weight a b c) rules p q))
one_rules_line line (weight a b c) (weight i j k) p q = one_weight line a b c i j k p q
one_rules_line line (weight a b c) (rule s) p q = absurd (omega (arith, first_length line (weight a b c) (rule s) p q))
one_rules_line line (rule r) rules p q = absurd (omega (arith, first_length line (rule r) rules p q))
one_rules_line line (rule r) (weight i j k) p q = absurd (omega (arith, first_length line (rule r) (weight i j k) p q))
one_rules_line line (rule r) (rule s) p q = ap rule (one_rule line r s p q)
