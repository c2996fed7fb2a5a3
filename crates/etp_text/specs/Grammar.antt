-- The texts of terms and laws: bytes are tokens with blanks between them, and tokens are sides.
use Rattle.std.specs.Prelude.{ℕ, ◌<◌, ◌≡◌, ◌≢◌, ◌⊎◌, true, false, List, [], ◌∷◌, ◌++◌, codes}
use Rattle.std.specs.List.{AllByRecursion}
use Rattle.std.specs.Char.{is_ascii_alphabetic, is_ascii_alphanumeric}
use Rattle.etp_theory.specs.Trees.{Tree, var, op, Equation}
use Rattle.etp_words.specs.Words.{is_blank}
use Rattle.etp_text.specs.Written.{variable_name}
use Rattle.etp_text.specs.declared.token.Token.{Token}
use Rattle.etp_text.specs.declared.token.Token.TheVariants.{Opening, Closing, Equals, Operator, Variable, Unknown}

abbrev pub AreBlanks : List ℕ → Type 0
AreBlanks = AllByRecursion (λ byte. is_blank byte ≡ true)

-- a letter, and then letters and digits
abbrev pub IsIdentifier : List ℕ → Type 0
IsIdentifier [] = ⊥
IsIdentifier (byte ∷ bytes) =
    (is_ascii_alphabetic byte ≡ true) × AllByRecursion (λ byte. is_ascii_alphanumeric byte ≡ true) bytes

-- the bytes are this token; an identifier is a variable's or that of none of the 64 variables
abbrev pub IsToken : List ℕ → Token → Type 0
IsToken word Opening = word ≡ codes "("
IsToken word Closing = word ≡ codes ")"
IsToken word Equals = word ≡ codes "="
IsToken word Operator = (word ≡ codes "*") ⊎ (word ≡ 226 ∷ 151 ∷ 135 ∷ [])
IsToken word (Variable v) = (v < 64) × (word ≡ variable_name v)
IsToken word Unknown = IsIdentifier word × ((v : ℕ) → v < 64 → word ≢ variable_name v)

-- no letter and no digit is at the front
abbrev pub IsIdentifierOver : List ℕ → Type 0
IsIdentifierOver [] = Unit {0}
IsIdentifierOver (byte ∷ bytes) = is_ascii_alphanumeric byte ≡ false

-- a token may end before these bytes: an identifier has all letters and digits that come
abbrev pub MayEnd : Token → List ℕ → Type 0
MayEnd (Variable v) rest = IsIdentifierOver rest
MayEnd Unknown rest = IsIdentifierOver rest
MayEnd _ rest = Unit {0}

-- the bytes are a token and the rest
pub record StartsWith (bytes : List ℕ) (token : Token) (rest : List ℕ) : Type 0 where
  pub word : List ℕ
  pub is_token : IsToken word token
  pub ends : MayEnd token rest
  pub whole : bytes ≡ word ++ rest

-- the bytes are these tokens, each with blanks before it or with none, and the rest
abbrev pub Begins : List ℕ → List Token → List ℕ → Type 0
Begins bytes [] rest = bytes ≡ rest
Begins bytes (token ∷ tokens) rest =
    (blanks start after : List ℕ) × AreBlanks blanks × (bytes ≡ blanks ++ start)
    × StartsWith start token after × Begins after tokens rest

-- an atom is a variable or a side in parentheses; a side is an atom, or two with an operator between
mutual
  pub data IsAtom : List Token → Tree → Type 0 where
    variable : (v : ℕ) → IsAtom (Variable v ∷ []) (var v)
    enclosed : (ts : List Token) (t : Tree) → IsSide ts t → IsAtom (Opening ∷ (ts ++ Closing ∷ [])) t

  pub data IsSide : List Token → Tree → Type 0 where
    alone : (ts : List Token) (t : Tree) → IsAtom ts t → IsSide ts t
    joined : (ls : List Token) (l : Tree) (rs : List Token) (r : Tree) →
        IsAtom ls l → IsAtom rs r → IsSide (ls ++ Operator ∷ rs) (op l r)

-- two sides with = between them
abbrev pub IsEquation : List Token → Equation → Type 0
IsEquation ts law = (ls rs : List Token) × (ts ≡ ls ++ Equals ∷ rs) × IsSide ls law.left × IsSide rs law.right

-- the bytes are these tokens, with blanks behind them or with none
abbrev pub AreTokens : List ℕ → List Token → Type 0
AreTokens bytes tokens = (rest : List ℕ) × Begins bytes tokens rest × AreBlanks rest

abbrev pub SpellsTerm : List ℕ → Tree → Type 0
SpellsTerm bytes term = (tokens : List Token) × AreTokens bytes tokens × IsSide tokens term

abbrev pub SpellsLaw : List ℕ → Equation → Type 0
SpellsLaw bytes law = (tokens : List Token) × AreTokens bytes tokens × IsEquation tokens law
