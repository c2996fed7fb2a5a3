-- The words of a line.
use Rattle.std.specs.Prelude.{◌≡◌, ℕ, List, [], ◌∷◌, Bool, true, false, not, nat_eq, ◌||◌, if◌then◌else◌}
use Rattle.std.specs.Cmp.Lexicographic.{pointwise}
use Rattle.etp_io.specs.Texts.{begin_first}

-- a space or a tab
abbrev pub is_blank : ℕ → Bool
is_blank byte = nat_eq byte 32 || nat_eq byte 9

-- without the blanks at its front
abbrev pub skip_blanks : List ℕ → List ℕ
skip_blanks [] = []
skip_blanks (byte ∷ bytes) = if is_blank byte then skip_blanks bytes else (byte ∷ bytes)

-- whether a word goes on here
abbrev pub goes_on : List ℕ → Bool
goes_on [] = false
goes_on (b ∷ bytes) = not (is_blank b)

-- the longest runs of bytes that are no blanks
abbrev pub words_of : List ℕ → List (List ℕ)
words_of [] = []
words_of (b ∷ bytes) =
    if is_blank b then words_of bytes else
    (if goes_on bytes then begin_first b (words_of bytes) else (b ∷ []) ∷ words_of bytes)

-- without the bytes at its front that are no blanks
abbrev pub skip_word : List ℕ → List ℕ
skip_word [] = []
skip_word (b ∷ bytes) = if is_blank b then b ∷ bytes else skip_word bytes

-- what stands behind the first word
abbrev pub behind_word : List ℕ → List ℕ
behind_word line = skip_word (skip_blanks line)

-- the line from its second word on
abbrev pub behind_first : List ℕ → List ℕ
behind_first line = skip_blanks (behind_word line)

-- the word is the other one
abbrev pub is_word : List ℕ → List ℕ → Bool
is_word word other = pointwise nat_eq word other

-- the first word begins with `#`
abbrev pub is_comment : List ℕ → Bool
is_comment [] = false
is_comment (b ∷ bytes) = nat_eq b 35

-- a line without words or whose first word begins with `#`
abbrev pub are_blank : List (List ℕ) → Bool
are_blank [] = true
are_blank (word ∷ words) = is_comment word

-- a blank line or a comment, which says nothing
abbrev pub IsBlankLine : List ℕ → Type 0
IsBlankLine line = are_blank (words_of line) ≡ true
