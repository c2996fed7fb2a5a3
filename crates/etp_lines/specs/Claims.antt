-- What a line of claims says: laws that are to hold in a model, or that are to fail there.
use Rattle.std.specs.Prelude.{◌≡◌, ◌≢◌, ℕ, Bool, true, false, List, [], ◌∷◌, ◌++◌, codes, map, Option, Some, None}
use Rattle.std.specs.List.{concat}
use Rattle.etp_words.specs.Words.{words_of}
use Rattle.etp_words.specs.Numbers.{number_said}

-- one number and then others, where all are numbers
abbrev pub number_then : Option ℕ → Option (List ℕ) → Option (List ℕ)
number_then (Some number) (Some numbers) = Some (number ∷ numbers)
number_then _ _ = None

-- the numbers that the words are, where each is one
abbrev pub numbers_said : List (List ℕ) → Option (List ℕ)
numbers_said [] = Some []
numbers_said (word ∷ words) = number_then (number_said word) (numbers_said words)

-- a first word, and behind it numbers
pub record SaysNumbers (line first numbers : List ℕ) : Type 0 where
  pub more : List (List ℕ)
  pub words : words_of line ≡ first ∷ more
  pub said : numbers_said more ≡ Some numbers

-- what a line of claims says
pub data ClaimLine : Type 0 where
  -- these laws hold
  holds : List ℕ → ClaimLine
  -- these laws fail
  fails : List ℕ → ClaimLine

-- a claim's word, and behind it one number or more
pub record SaysClaim (line first numbers : List ℕ) : Type 0 where
  pub says : SaysNumbers line first numbers
  pub some : numbers ≢ []

abbrev pub SaysClaimLine : List ℕ → ClaimLine → Type 0
SaysClaimLine line (holds numbers) = SaysClaim line (codes "holds") numbers
SaysClaimLine line (fails numbers) = SaysClaim line (codes "fails") numbers

-- its law numbers, from left to right
abbrev pub numbers_of_claim : ClaimLine → List ℕ
numbers_of_claim (holds numbers) = numbers
numbers_of_claim (fails numbers) = numbers

-- how far claims have come: a line `holds` stands, or then a line `fails`
pub data ClaimPlace : Type 0 where
  holding : ClaimPlace
  failing : ClaimPlace

-- the first line of claims is `holds`
abbrev pub first_claim : ClaimLine → Option ClaimPlace
first_claim (holds numbers) = Some holding
first_claim (fails numbers) = None

-- how far the claims have come with one more line, where this line may stand there
abbrev pub after_claim : ClaimPlace → ClaimLine → Option ClaimPlace
after_claim holding (holds numbers) = Some holding
after_claim holding (fails numbers) = Some failing
after_claim failing (holds numbers) = None
after_claim failing (fails numbers) = Some failing

-- a body may end where laws are to fail
abbrev pub are_complete_claims : ClaimPlace → Bool
are_complete_claims holding = false
are_complete_claims failing = true

-- the laws that are to hold, and those that are to fail, in the order of their lines
pub record Claims : Type 0 where
  pub holds : List ℕ
  pub fails : List ℕ

-- the lines make these claims
pub record SaysClaims (lines : List ClaimLine) (claims : Claims) : Type 0 where
  pub held : List (List ℕ)
  pub failed : List (List ℕ)
  pub whole : lines ≡ map holds held ++ map fails failed
  pub holds_are : claims.holds ≡ concat held
  pub fails_are : claims.fails ≡ concat failed
