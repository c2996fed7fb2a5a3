-- What ties texts, spellings and refusals together.
use Rattle.std.specs.Prelude.{ℕ, List, ◌≡◌, ◌≢◌, ◌≤◌, ◌+◌, ◌*◌, length}
use Rattle.etp_theory.specs.Trees.{Tree, Equation, bound, leaves}
use Rattle.etp_text.specs.Written.{written_term, written_law}
use Rattle.etp_text.specs.Grammar.{SpellsTerm, SpellsLaw}
use Rattle.etp_text.specs.Refusals.{side_limit, RefusesTerm, RefusesLaw}
use Rattle.etp_text.specs.declared.refusal.TextRefusal.{TextRefusal}
use Rattle.etp_text.specs.declared.refusal.TextRefusal.TheVariants.{NoMemory}

pub record TextTheorems : Type 0 where
  -- a text spells one term, or one law
  pub one_term : (bytes : List ℕ) (s t : Tree) → SpellsTerm bytes s → SpellsTerm bytes t → s ≡ t
  pub one_law : (bytes : List ℕ) (p q : Equation) → SpellsLaw bytes p → SpellsLaw bytes q → p ≡ q
  -- the written form spells what it is written of; the 64 variables are those that have a name
  pub written_term_spells : (t : Tree) → bound t ≤ 64 → SpellsTerm (written_term t) t
  pub written_law_spells : (law : Equation) → bound law.left ≤ 64 → bound law.right ≤ 64
      → SpellsLaw (written_law law) law
  -- the written form of a term takes at most ten bytes for each leaf, less seven
  pub written_term_short : (t : Tree) → bound t ≤ 64 → length (written_term t) + 7 ≤ 10 * leaves t
  -- what is spelled within the limit has no refusal
  pub term_stands : (bytes : List ℕ) (t : Tree) (e : TextRefusal)
      → SpellsTerm bytes t → leaves t ≤ side_limit → RefusesTerm bytes e → e ≡ NoMemory
  pub law_stands : (bytes : List ℕ) (law : Equation) (e : TextRefusal) → SpellsLaw bytes law
      → leaves law.left ≤ side_limit → leaves law.right ≤ side_limit → RefusesLaw bytes e → e ≡ NoMemory
  -- and what has a refusal has one, but for want of memory
  pub one_term_refusal : (bytes : List ℕ) (d e : TextRefusal)
      → RefusesTerm bytes d → RefusesTerm bytes e → d ≢ NoMemory → e ≢ NoMemory → d ≡ e
  pub one_law_refusal : (bytes : List ℕ) (d e : TextRefusal)
      → RefusesLaw bytes d → RefusesLaw bytes e → d ≢ NoMemory → e ≢ NoMemory → d ≡ e
