-- How the reader goes over a text: one token after another, with what has been read so far.
use Rattle.std.specs.Prelude.{ℕ, ◌+◌, ◌-◌, ◌*◌, ◌≡◌, nat_eq, nat_le, nat_lt, ◌&&◌, Option, None, Some, List, [], ◌∷◌, map, length, Result, Ok, Err, IsSome, if◌then◌else◌}
use Rattle.std.specs.Option.{option_map, option_and_then}
use Rattle.std.specs.Char.{is_ascii_alphabetic, is_ascii_alphanumeric}
use Rattle.etp_theory.specs.Trees.{Tree, var, op}
use Rattle.etp_term.specs.Terms.{tree_of}
use Rattle.etp_text.specs.Grammar.{AreBlanks, Begins}
use Rattle.etp_text.specs.Refusals.{IsTermText, IsLawText, IsSyntaxAt, IsVariableAt}
use Rattle.etp_text.specs.declared.token.Token.{Token}
use Rattle.etp_text.specs.declared.token.Token.TheVariants.{Opening, Closing, Equals, Operator, Variable, Unknown}
use Rattle.etp_text.specs.declared.reading.Grammar.{Grammar}
use Rattle.etp_text.specs.declared.reading.Grammar.TheVariants.{Terms, Laws}
use Rattle.etp_text.specs.declared.reading.Part.{Part}
use Rattle.etp_text.specs.declared.reading.Part.TheVariants.{Wanted, Atom, Pair}
use Rattle.etp_text.specs.declared.reading.Reading.{Reading}
use Rattle.etp_text.specs.declared.refusal.TextRefusal.{TextRefusal}
use Rattle.etp_text.specs.declared.refusal.TextRefusal.TheVariants.{Syntax, Variable as WrongVariable, TooLarge, NoMemory}

-- the letters and digits at the front, and what is behind them
abbrev pub name_at : List ℕ → List ℕ
name_at [] = []
name_at (byte ∷ bytes) = if is_ascii_alphanumeric byte then byte ∷ name_at bytes else []

abbrev pub behind_name : List ℕ → List ℕ
behind_name [] = []
behind_name (byte ∷ bytes) = if is_ascii_alphanumeric byte then behind_name bytes else (byte ∷ bytes)

abbrev pub one_letter : ℕ → Token
one_letter a =
    if nat_eq a 120 then Variable 0 else (if nat_eq a 121 then Variable 1 else (if nat_eq a 122 then Variable 2 else
    (if nat_eq a 119 then Variable 3 else (if nat_eq a 117 then Variable 4 else
    (if nat_eq a 118 then Variable 5 else Unknown)))))

abbrev pub two_bytes : ℕ → ℕ → Token
two_bytes a b = if nat_eq a 118 && nat_le 54 b && nat_le b 57 then Variable (b - 48) else Unknown

abbrev pub small : ℕ → Token
small number = if nat_lt number 64 then Variable number else Unknown

abbrev pub three_bytes : ℕ → ℕ → ℕ → Token
three_bytes a b c =
    if nat_eq a 118 && nat_le 49 b && nat_le b 54 && nat_le 48 c && nat_le c 57
    then small ((b - 48) * 10 + (c - 48)) else Unknown

-- the token that a name is
abbrev pub named : List ℕ → Token
named (a ∷ []) = one_letter a
named (a ∷ b ∷ []) = two_bytes a b
named (a ∷ b ∷ c ∷ []) = three_bytes a b c
named _ = Unknown

-- the sign ◇ behind its first byte
abbrev pub sign_at : List ℕ → Option (Token × List ℕ)
sign_at (a ∷ b ∷ rest) = if nat_eq a 151 && nat_eq b 135 then Some (Operator, rest) else None
sign_at _ = None

-- the token at the front, and what is behind it
abbrev pub token_at : List ℕ → Option (Token × List ℕ)
token_at [] = None
token_at (byte ∷ bytes) =
    if nat_eq byte 40 then Some (Opening, bytes) else (if nat_eq byte 41 then Some (Closing, bytes) else
    (if nat_eq byte 61 then Some (Equals, bytes) else (if nat_eq byte 42 then Some (Operator, bytes) else
    (if nat_eq byte 226 then sign_at bytes else
    (if is_ascii_alphabetic byte then Some (named (byte ∷ name_at bytes), behind_name bytes) else None)))))

-- what stands of a side: an atom is wanted, maybe behind a part and an operator; or an atom stands; or a pair
pub data Stand : Type 0 where
  wanted : Option Tree → Stand
  atom : Tree → Stand
  pair : Tree → Stand

-- the left side of a law, what stands before each open parenthesis from the inside out, and what stands now
pub record State : Type 0 where
  pub left : Option Tree
  pub open_parts : List (Option Tree)
  pub stand : Stand

abbrev pub start : State
start = record { left = None; open_parts = []; stand = wanted None }

-- an atom where one was wanted
abbrev pub placed : Option Tree → Tree → Stand
placed None t = atom t
placed (Some l) t = pair (op l t)

abbrev pub closed : Option Tree → List (Option Tree) → Tree → Option State
closed left [] t = None
closed left (part ∷ parts) t = Some (record { left = left; open_parts = parts; stand = placed part t })

abbrev pub divided : Grammar → Option Tree → List (Option Tree) → Tree → Option State
divided Laws None [] t = Some (record { left = Some t; open_parts = []; stand = wanted None })
divided _ _ _ t = None

-- behind a token that ends a part; = may stand in a law alone
abbrev pub end_from : Grammar → Option Tree → List (Option Tree) → Tree → Token → Option State
end_from grammar left parts t Closing = closed left parts t
end_from grammar left parts t Equals = divided grammar left parts t
end_from grammar left parts t _ = None

-- behind a token where an atom is wanted
abbrev pub begin_from : Option Tree → List (Option Tree) → Option Tree → Token → Option State
begin_from left parts part (Variable v) = Some (record { left = left; open_parts = parts; stand = placed part (var v) })
begin_from left parts part Opening = Some (record { left = left; open_parts = part ∷ parts; stand = wanted None })
begin_from left parts part _ = None

abbrev pub atom_from : Grammar → Option Tree → List (Option Tree) → Tree → Token → Option State
atom_from grammar left parts t Operator = Some (record { left = left; open_parts = parts; stand = wanted (Some t) })
atom_from grammar left parts t token = end_from grammar left parts t token

-- behind one more token
abbrev pub step_from : Grammar → Option Tree → List (Option Tree) → Stand → Token → Option State
step_from grammar left parts (wanted part) token = begin_from left parts part token
step_from grammar left parts (atom t) token = atom_from grammar left parts t token
step_from grammar left parts (pair t) token = end_from grammar left parts t token

abbrev pub step : Grammar → State → Token → Option State
step grammar state token = step_from grammar state.left state.open_parts state.stand token

abbrev pub stand_of : Part → Stand
stand_of (Wanted part) = wanted (option_map tree_of part)
stand_of (Atom t) = atom (tree_of t)
stand_of (Pair t) = pair (tree_of t)

abbrev pub state_of : Reading → State
state_of r =
    record { left = option_map tree_of r.left; open_parts = map (option_map tree_of) r.opened; stand = stand_of r.part }

-- behind all these tokens
abbrev pub run : Grammar → State → List Token → Option State
run grammar state [] = Some state
run grammar state (token ∷ tokens) = option_and_then (λ next. run grammar next tokens) (step grammar state token)

-- the state behind one more token, or the refusal there; `as_if` is the step by a variable in an unknown name's place
abbrev pub Takes : Option State → Option State → Token → ℕ → State → Result Unit TextRefusal → Type 0
Takes next as_if token at state (Ok _) = next ≡ Some state
Takes next as_if token at state (Err (Syntax place)) = (place ≡ at) × (as_if ≡ None)
Takes next as_if token at state (Err (WrongVariable place)) = (place ≡ at) × (token ≡ Unknown) × IsSome as_if
Takes next as_if token at state (Err (TooLarge count)) = ⊥
Takes next as_if token at state (Err NoMemory) = Unit {0}

-- the texts that are read
abbrev pub text_of : Grammar → List Token → Type 0
text_of Laws = IsLawText
text_of Terms = IsTermText

-- the front of the bytes has been read
abbrev pub HasRead : Grammar → List ℕ → List ℕ → State → Type 0
HasRead grammar bytes rest state =
    (tokens : List Token) × Begins bytes tokens rest × (run grammar start tokens ≡ Some state)

-- all of the bytes have been read but blanks, from the place `end` on
abbrev pub HasReadAll : Grammar → List ℕ → State → ℕ → Type 0
HasReadAll grammar bytes state end =
    (rest : List ℕ) × AreBlanks rest × HasRead grammar bytes rest state × (end + length rest ≡ length bytes)

abbrev pub RefusesText : (List Token → Type 0) → List ℕ → TextRefusal → Type 0
RefusesText Text bytes (Syntax at) = IsSyntaxAt Text bytes at
RefusesText Text bytes (WrongVariable at) = IsVariableAt Text bytes at
RefusesText Text bytes (TooLarge count) = ⊥
RefusesText Text bytes NoMemory = Unit {0}

-- the side that stands whole
abbrev pub side_in : List (Option Tree) → Stand → Option Tree
side_in [] (atom t) = Some t
side_in [] (pair t) = Some t
side_in _ _ = None
