-- What a line of a rule system says, and where it may stand.
use Rattle.std.specs.Prelude.{◌≡◌, ◌+◌, ◌≤◌, ℕ, Bool, false, List, [], ◌∷◌, ◌++◌, codes, map, length, nat_le, nat_lt, if◌then◌else◌, Option, Some, None}
use Rattle.etp_theory.specs.Trees.{Equation}
use Rattle.etp_theory.specs.Weights.{Weight}
use Rattle.etp_words.specs.Words.{words_of, behind_word}
use Rattle.etp_words.specs.Numbers.{number_said}
use Rattle.etp_lines.specs.Sides.{SpellsSide}

-- what a line of a rule system says
pub data RulesLine : Type 0 where
  -- a rule system begins
  rules : RulesLine
  -- so many times the left part counts, so many times the right part, and so much is added
  weight : ℕ → ℕ → ℕ → RulesLine
  -- what the left side matches may be replaced by the right side
  rule : Equation → RulesLine

-- the word `rules` alone
abbrev pub SaysRules : List ℕ → Type 0
SaysRules line = words_of line ≡ codes "rules" ∷ []

-- `weight` and three numbers
pub record SaysWeight (line : List ℕ) (on_left on_right added : ℕ) : Type 0 where
  pub first : List ℕ
  pub second : List ℕ
  pub third : List ℕ
  pub words : words_of line ≡ codes "weight" ∷ first ∷ second ∷ third ∷ []
  pub left_said : number_said first ≡ Some on_left
  pub right_said : number_said second ≡ Some on_right
  pub added_said : number_said third ≡ Some added

-- the first `->` of the text stands between these two
pub record IsDivided (text left right : List ℕ) : Type 0 where
  pub whole : text ≡ left ++ (codes "->" ++ right)
  pub first : (before behind : List ℕ) → text ≡ before ++ (codes "->" ++ behind)
      → length left ≤ length before

-- `rule`, and behind it two sides with the first `->` between them
pub record SaysRule (line : List ℕ) (r : Equation) : Type 0 where
  pub more : List (List ℕ)
  pub left : List ℕ
  pub right : List ℕ
  pub words : words_of line ≡ codes "rule" ∷ more
  pub divided : IsDivided (behind_word line) left right
  pub left_spelled : SpellsSide left r.left
  pub right_spelled : SpellsSide right r.right

-- the line says this
abbrev pub SaysRulesLine : List ℕ → RulesLine → Type 0
SaysRulesLine line rules = SaysRules line
SaysRulesLine line (weight on_left on_right added) = SaysWeight line on_left on_right added
SaysRulesLine line (rule r) = SaysRule line r

-- the most rules of a system
abbrev pub rule_limit : ℕ
rule_limit = 64

-- how far a rule system has come
pub data RulesPlace : Type 0 where
  -- the line `rules` stands
  named : RulesPlace
  -- the weight and so many rules stand
  weighed : ℕ → RulesPlace

-- a rule system begins with the line `rules`
abbrev pub opened_rules : RulesLine → Option RulesPlace
opened_rules rules = Some named
opened_rules _ = None

-- how far the system has come with one more line, where this line may stand there
abbrev pub after_in_rules : RulesPlace → RulesLine → Option RulesPlace
after_in_rules named (weight on_left on_right added) = Some (weighed 0)
after_in_rules (weighed n) (rule r) = if nat_lt n rule_limit then Some (weighed (n + 1)) else None
after_in_rules _ _ = None

-- a rule stands
abbrev pub has_rule : RulesPlace → Bool
has_rule named = false
has_rule (weighed n) = nat_le 1 n

-- the lines of the rule system of this weight and these rules
abbrev pub system_lines : Weight → List Equation → List RulesLine
system_lines w rs = rules ∷ weight w.on_left w.on_right w.added ∷ map rule rs
