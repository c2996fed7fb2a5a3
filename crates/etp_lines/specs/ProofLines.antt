-- What a line of a proof says, and where it may stand.
use Rattle.std.specs.Prelude.{◌≡◌, ◌+◌, ℕ, Bool, true, false, not, List, [], ◌∷◌, codes, nat_eq, nat_lt, if◌then◌else◌, Option, Some, None}
use Rattle.std.specs.Option.{option_map}
use Rattle.etp_theory.specs.Trees.{Tree}
use Rattle.etp_theory.specs.Positions.{Side, to_left, to_right}
use Rattle.etp_theory.specs.Proofs.{ProofStep}
use Rattle.etp_words.specs.Words.{words_of, behind_word, is_word}
use Rattle.etp_words.specs.Numbers.{number_said}
use Rattle.etp_proof.specs.Names.{IsName}
use Rattle.etp_lines.specs.Sides.{SpellsSide}

-- the two forms of a proof: one by its own lemmas, and one that may cite files
pub data Version : Type 0 where
  plain : Version
  citing : Version

-- the word that begins a proof
abbrev pub version_word : Version → List ℕ
version_word plain = codes "proof"
version_word citing = codes "proof2"

-- what a line of a proof says
pub data ProofLine : Type 0 where
  -- a proof begins, of the second law from the first
  heading : Version → ℕ → ℕ → ProofLine
  cite : List ℕ → ProofLine
  -- a lemma begins at this term
  lemma : Tree → ProofLine
  step : ProofStep → ProofLine

-- a number of a line, or `c` and directly behind it the number of a cite
abbrev pub reference_of : List ℕ → Option (ℕ × Bool)
reference_of [] = None
reference_of (b ∷ bytes) =
    if nat_eq b 99 then option_map (λ n. (n, true)) (number_said bytes) else option_map (λ n. (n, false)) (number_said (b ∷ bytes))

-- `>` reads the equation from left to right, `<` from right to left
abbrev pub reversed_of : List ℕ → Option Bool
reversed_of word = if is_word word (codes ">") then Some false else (if is_word word (codes "<") then Some true else None)

-- `l` is left, `r` right
abbrev pub side_of : ℕ → Option Side
side_of b = if nat_eq b 108 then Some to_left else (if nat_eq b 114 then Some to_right else None)

-- one side and then others, where both are sides
abbrev pub side_then : Option Side → Option (List Side) → Option (List Side)
side_then (Some side) (Some sides) = Some (side ∷ sides)
side_then _ _ = None

-- the sides of the letters, where each is one
abbrev pub sides_of : List ℕ → Option (List Side)
sides_of [] = Some []
sides_of (b ∷ bytes) = side_then (side_of b) (sides_of bytes)

-- `.` is the root; else the letters lead down from the root
abbrev pub position_named : List ℕ → Option (List Side)
position_named word = if is_word word (codes ".") then Some [] else sides_of word

-- the word of the version and two numbers
pub record SaysHeading (line : List ℕ) (version : Version) (hypothesis goal : ℕ) : Type 0 where
  pub first : List ℕ
  pub second : List ℕ
  pub words : words_of line ≡ version_word version ∷ first ∷ second ∷ []
  pub from : number_said first ≡ Some hypothesis
  pub to : number_said second ≡ Some goal

-- `cite` and a name
pub record SaysCite (line name : List ℕ) : Type 0 where
  pub words : words_of line ≡ codes "cite" ∷ name ∷ []
  pub named : IsName name

-- `lemma`, and behind it a term
pub record SaysLemma (line : List ℕ) (start : Tree) : Type 0 where
  pub more : List (List ℕ)
  pub words : words_of line ≡ codes "lemma" ∷ more
  pub term : SpellsSide (behind_word line) start

-- `step`, a reference, a direction, a position, and behind them a term
pub record SaysStep (line : List ℕ) (x : ProofStep) : Type 0 where
  pub reference : List ℕ
  pub direction : List ℕ
  pub position : List ℕ
  pub more : List (List ℕ)
  pub words : words_of line ≡ codes "step" ∷ reference ∷ direction ∷ position ∷ more
  pub by : reference_of reference ≡ Some (x.line, x.cited)
  pub read : reversed_of direction ≡ Some x.reversed
  pub at : position_named position ≡ Some x.position
  pub term : SpellsSide (behind_word (behind_word (behind_word (behind_word line)))) x.to

-- the line says this
abbrev pub SaysProofLine : List ℕ → ProofLine → Type 0
SaysProofLine line (heading version hypothesis goal) = SaysHeading line version hypothesis goal
SaysProofLine line (cite name) = SaysCite line name
SaysProofLine line (lemma start) = SaysLemma line start
SaysProofLine line (step x) = SaysStep line x

-- its law numbers, from left to right
abbrev pub numbers_of_proof_line : ProofLine → List ℕ
numbers_of_proof_line (heading version hypothesis goal) = hypothesis ∷ goal ∷ []
numbers_of_proof_line _ = []

-- the most cites of a proof
abbrev pub cite_limit : ℕ
cite_limit = 64

-- how far a proof has come
pub data ProofPlace : Type 0 where
  -- the heading and so many cites stand
  headed : Version → ℕ → ProofPlace
  -- a lemma stands
  within : Version → ProofPlace

-- only a proof that may cite files has steps by a cite
abbrev pub may_step : Version → Bool → Bool
may_step plain cited = not cited
may_step citing cited = true

-- how far the proof has come with one more line, where this line may stand there
abbrev pub after_in_proof : ProofPlace → ProofLine → Option ProofPlace
after_in_proof (headed citing n) (cite name) = if nat_lt n cite_limit then Some (headed citing (n + 1)) else None
after_in_proof (headed version n) (lemma start) = Some (within version)
after_in_proof (within version) (lemma start) = Some (within version)
after_in_proof (within version) (step x) = if may_step version x.cited then Some (within version) else None
after_in_proof _ _ = None

-- a proof may end behind a lemma or a step
abbrev pub is_complete_proof : ProofPlace → Bool
is_complete_proof (headed version n) = false
is_complete_proof (within version) = true
