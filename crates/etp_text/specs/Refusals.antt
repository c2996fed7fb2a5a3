-- Why a text is refused: the first refusal from left to right.
use Rattle.std.specs.Prelude.{ℕ, ◌+◌, ◌<◌, ◌≤◌, ◌≡◌, ◌⊎◌, false, List, [], ◌∷◌, ◌++◌, length, Result, Ok, Err}
use Rattle.etp_theory.specs.Trees.{Tree, Equation, leaves}
use Rattle.etp_words.specs.Words.{is_blank}
use Rattle.etp_text.specs.Grammar.{AreBlanks, StartsWith, Begins, IsSide, IsEquation, SpellsTerm, SpellsLaw}
use Rattle.etp_text.specs.declared.token.Token.{Token}
use Rattle.etp_text.specs.declared.token.Token.TheVariants.{Variable, Unknown}
use Rattle.etp_text.specs.declared.refusal.TextRefusal.{TextRefusal}
use Rattle.etp_text.specs.declared.refusal.TextRefusal.TheVariants.{Syntax, Variable as WrongVariable, TooLarge, NoMemory}

-- a text of the grammar, terms or laws, by its tokens
abbrev pub IsTermText : List Token → Type 0
IsTermText tokens = (term : Tree) × IsSide tokens term

abbrev pub IsLawText : List Token → Type 0
IsLawText tokens = (law : Equation) × IsEquation tokens law

-- some text of the grammar begins with these tokens
abbrev pub IsViable : (List Token → Type 0) → List Token → Type 0
IsViable Text tokens = (more : List Token) × Text (tokens ++ more)

-- what lies before a place: tokens that some text of the grammar begins with, and blanks
pub record Before (Text : List Token → Type 0) (bytes : List ℕ) (at : ℕ) : Type 0 where
  pub tokens : List Token
  pub blanks : List ℕ
  pub rest : List ℕ
  pub tokens_begin : Begins bytes tokens (blanks ++ rest)
  pub viable : IsViable Text tokens
  pub are_blanks : AreBlanks blanks
  pub place : at + length rest ≡ length bytes

-- the text ends right behind its last token, but for blanks, and isn't one of the grammar
pub record EndsEarly (Text : List Token → Type 0) (bytes : List ℕ) (at : ℕ) : Type 0 where
  pub before : Before Text bytes at
  pub behind_token : before.blanks ≡ []
  pub end : AreBlanks before.rest
  pub no_text : Text before.tokens → ⊥

-- a byte that isn't a blank begins no token
pub record BeginsNoToken (Text : List Token → Type 0) (bytes : List ℕ) (at : ℕ) : Type 0 where
  pub before : Before Text bytes at
  pub byte : ℕ
  pub more : List ℕ
  pub is_next : before.rest ≡ byte ∷ more
  pub no_blank : is_blank byte ≡ false
  pub no_token : (token : Token) (rest : List ℕ) → StartsWith before.rest token rest → ⊥

-- as far as the grammar goes an unknown name may stand where a variable may
abbrev pub as_variable : Token → Token
as_variable Unknown = Variable 0
as_variable token = token

-- a token begins that no text of the grammar has after the tokens before it
pub record HasNoPlace (Text : List Token → Type 0) (bytes : List ℕ) (at : ℕ) : Type 0 where
  pub before : Before Text bytes at
  pub token : Token
  pub after : List ℕ
  pub is_next : StartsWith before.rest token after
  pub unviable : IsViable Text (before.tokens ++ as_variable token ∷ []) → ⊥

abbrev pub IsSyntaxAt : (List Token → Type 0) → List ℕ → ℕ → Type 0
IsSyntaxAt Text bytes at = HasNoPlace Text bytes at ⊎ BeginsNoToken Text bytes at ⊎ EndsEarly Text bytes at

-- a name that is none of the 64 variables begins where a variable may stand
pub record IsVariableAt (Text : List Token → Type 0) (bytes : List ℕ) (at : ℕ) : Type 0 where
  pub before : Before Text bytes at
  pub after : List ℕ
  pub is_next : StartsWith before.rest Unknown after
  pub viable : IsViable Text (before.tokens ++ Variable 0 ∷ [])

-- the leaves that a side may have
abbrev pub side_limit : ℕ
side_limit = 255

-- the count of the first side with too many leaves
abbrev pub IsTooLarge : Equation → ℕ → Type 0
IsTooLarge law count =
    ((side_limit < leaves law.left) × (count ≡ leaves law.left))
    ⊎ ((leaves law.left ≤ side_limit) × (side_limit < leaves law.right) × (count ≡ leaves law.right))

-- the refusal is the first one of a term's text
abbrev pub RefusesTerm : List ℕ → TextRefusal → Type 0
RefusesTerm bytes (Syntax at) = IsSyntaxAt IsTermText bytes at
RefusesTerm bytes (WrongVariable at) = IsVariableAt IsTermText bytes at
RefusesTerm bytes (TooLarge count) =
    (term : Tree) × SpellsTerm bytes term × (side_limit < leaves term) × (count ≡ leaves term)
RefusesTerm bytes NoMemory = Unit {0}

-- the refusal is the first one of a law's text
abbrev pub RefusesLaw : List ℕ → TextRefusal → Type 0
RefusesLaw bytes (Syntax at) = IsSyntaxAt IsLawText bytes at
RefusesLaw bytes (WrongVariable at) = IsVariableAt IsLawText bytes at
RefusesLaw bytes (TooLarge count) = (law : Equation) × SpellsLaw bytes law × IsTooLarge law count
RefusesLaw bytes NoMemory = Unit {0}

-- what was given is this value, unless memory ran out
abbrev pub Gives : {X V : Type 0} → (X → V) → V → Result X TextRefusal → Type 0
Gives view value (Ok x) = view x ≡ value
Gives view value (Err e) = e ≡ NoMemory
