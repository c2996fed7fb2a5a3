-- The written line of a rule says the rule.
use Rattle.std.proofs.Common.{◌≡◌, ℕ, ◌≤◌, arith, true, false, not, List, [], ◌∷◌, ◌++◌, codes, length, refl, sym, ap, subst, ◌∙◌, append_assoc}
use Rattle.std.specs.List.{list_all}
use Rattle.std.proofs.lemmas.Bool.{eq-eqb}
use Rattle.etp_theory.specs.Trees.{Tree, Equation, bound, leaves}
use Rattle.etp_words.specs.Words.{words_of}
use Rattle.etp_text.specs.Written.{written_term}
use Rattle.etp_text.specs.Refusals.{side_limit}
use Rattle.etp_lines.specs.Sides.{SpellsSide}
use Rattle.etp_lines.specs.RulesLines.{rule, IsDivided, SaysRule}
use Rattle.etp_items.specs.Written.{written_rules_line, IsWritableRule}
use Rattle.etp_items.proofs.ReadBack.{both, joined, is_text, IsWord, words_front, behind_front}
use Rattle.etp_items.proofs.TermTexts.{is_undashed, term_text, term_undashed, written_side, spells_ahead}

rule_word : IsWord (codes "rule")
rule_word = record { some = omega arith; graph = refl }

head_same : (a b : ℕ) (xs ys : List ℕ) → Path (List ℕ) (a ∷ xs) (b ∷ ys) → a ≡ b
head_same a b xs ys e = cc

tail_same : (a b : ℕ) (xs ys : List ℕ) → Path (List ℕ) (a ∷ xs) (b ∷ ys) → xs ≡ ys
tail_same a b xs ys e = cc

false_true : false ≡ true → ⊥
false_true e = cc

no_dash : (b : ℕ) → is_undashed b ≡ true → b ≡ 45 → ⊥
no_dash b h e = false_true (sym (ap not (eq-eqb b 45 e)) ∙ h)

-- a text without a dash ends before the first dash
before_dash : (left rest before behind : List ℕ) → list_all is_undashed left ≡ true → left ++ rest ≡ before ++ 45 ∷ behind → length left ≤ length before
before_dash [] rest before behind h e = omega arith
before_dash (b ∷ left) rest [] behind h e =
    absurd (no_dash b (both (is_undashed b) (list_all is_undashed left) h).0 (head_same b 45 (left ++ rest) behind e))
before_dash (b ∷ left) rest (c ∷ before) behind h e =
    let on = before_dash left rest before behind (both (is_undashed b) (list_all is_undashed left) h).1 (tail_same b c (left ++ rest) (before ++ 45 ∷ behind) e) in
    omega (arith, on)

-- what stands behind the word of a rule
abbrev pub sides_text : Equation → List ℕ
sides_text r = written_term r.left ++ 32 ∷ (codes "->" ++ 32 ∷ written_term r.right)

left_spelled : (t : Tree) → bound t ≤ 64 → leaves t ≤ side_limit → SpellsSide (32 ∷ (written_term t ++ 32 ∷ [])) t
left_spelled t named few =
    let s = written_side t named few in
    record { spelled = spells_ahead (32 ∷ written_term t) t s.spelled; small = s.small }

sides_divided : (r : Equation) → bound r.left ≤ 64 → IsDivided (32 ∷ sides_text r) (32 ∷ (written_term r.left ++ 32 ∷ [])) (32 ∷ written_term r.right)
sides_divided r named =
    let whole : 32 ∷ sides_text r ≡ (32 ∷ (written_term r.left ++ 32 ∷ [])) ++ (codes "->" ++ 32 ∷ written_term r.right) =
    ap (λ z. 32 ∷ z) (sym (append_assoc (written_term r.left) (32 ∷ []) (codes "->" ++ 32 ∷ written_term r.right))) in
    record {
      whole = whole;
      first = λ before behind e. before_dash (32 ∷ (written_term r.left ++ 32 ∷ [])) (codes "->" ++ 32 ∷ written_term r.right) before (62 ∷ behind)
          (joined is_undashed (written_term r.left) (32 ∷ []) (term_undashed r.left named) refl) (sym whole ∙ e);
    }

pub rule_back : (r : Equation) → IsWritableRule r → SaysRule (written_rules_line (rule r)) r
rule_back r w = record {
  more = words_of (sides_text r);
  left = 32 ∷ (written_term r.left ++ 32 ∷ []);
  right = 32 ∷ written_term r.right;
  words = words_front (codes "rule") (sides_text r) rule_word;
  divided = subst (λ z. IsDivided z (32 ∷ (written_term r.left ++ 32 ∷ [])) (32 ∷ written_term r.right)) (sym (behind_front (codes "rule") (sides_text r) rule_word)) (sides_divided r w.left_named);
  left_spelled = left_spelled r.left w.left_named w.left_few;
  right_spelled = written_side r.right w.right_named w.right_few;
}

pub rule_text : (r : Equation) → IsWritableRule r → list_all is_text (written_rules_line (rule r)) ≡ true
rule_text r w = joined is_text (written_term r.left) (32 ∷ (codes "->" ++ 32 ∷ written_term r.right)) (term_text r.left w.left_named) (term_text r.right w.right_named)
