-- What a line asks.
use Rattle.std.specs.Prelude.{ℕ, List, [], ◌∷◌, codes, nat_eq, if◌then◌else◌, None, Some}
use Rattle.std.specs.declared.option.Option.{Option}
use Rattle.std.specs.Option.{option_map}
use Rattle.etp_io.specs.Texts.{LineText, whole, too_long}
use Rattle.etp_words.specs.Words.{words_of, behind_first, is_word, is_comment}
use Rattle.etp_words.specs.Numbers.{number_said}

-- what is asked of the laws, of the files that stand and of the answers; it changes none of them
pub data Query : Type 0 where
  law : ℕ → Query
  number : List ℕ → Query
  dual : ℕ → Query
  -- the answer for a pair of laws
  ask : ℕ → ℕ → Query
  -- the answer, and why it is so
  why : ℕ → ℕ → Query
  files : Query
  counts : Query
  -- the answers of a law
  row : ℕ → Query
  -- the laws that are equivalent to a law
  class : ℕ → Query
  classes : Query
  -- the answers among the laws from the first to the last
  csv : ℕ → ℕ → Query
  -- all files, as lines of a session
  ledger : Query
  -- the laws that hold in the table of the name that this word is to be
  profile : List ℕ → Query

pub data Request : Type 0 where
  -- a blank line or a comment, which asks nothing
  blank : Request
  -- a line too long to be looked at
  long : Request
  bad : Request
  -- the order of the session, 4 or 5
  order : ℕ → Request
  -- a file, whose body lines follow; the one word that is to be its name, or none
  file : Option (List ℕ) → Request
  -- a file whose body is on the shelf; the word that is to be its name there and here
  load : List ℕ → Request
  -- the word that is to be the name of the file that is taken out
  withdraw : List ℕ → Request
  query : Query → Request

-- the only word
abbrev pub only_word : List (List ℕ) → Option (List ℕ)
only_word (word ∷ []) = Some word
only_word _ = None

-- the number that is the only word
abbrev pub only_number : List (List ℕ) → Option ℕ
only_number (word ∷ []) = number_said word
only_number _ = None

-- two numbers, where both stand
abbrev pub both : Option ℕ → Option ℕ → Option (ℕ × ℕ)
both (Some e) (Some f) = Some (e, f)
both _ _ = None

-- two numbers that are the only words
abbrev pub only_pair : List (List ℕ) → Option (ℕ × ℕ)
only_pair (first ∷ second ∷ []) = both (number_said first) (number_said second)
only_pair _ = None

-- `number` and a text, which is the rest of the line
abbrev pub number_query : List ℕ → Option Query
number_query [] = None
number_query (b ∷ text) = Some (number (b ∷ text))

-- a query of one word
abbrev pub lone_query : Query → List (List ℕ) → Option Query
lone_query q [] = Some q
lone_query q (word ∷ words) = None

-- the query for a report with this first word and these words behind it
abbrev pub report_query : List ℕ → List (List ℕ) → Option Query
report_query word words =
    if is_word word (codes "row") then option_map row (only_number words) else
    (if is_word word (codes "class") then option_map class (only_number words) else
    (if is_word word (codes "classes") then lone_query classes words else
    (if is_word word (codes "csv") then option_map (λ p. csv p.0 p.1) (only_pair words) else None)))

-- the query with this first word, this text behind it and these words in it
abbrev pub query_of : List ℕ → List ℕ → List (List ℕ) → Option Query
query_of word text words =
    if is_word word (codes "law") then option_map law (only_number words) else
    (if is_word word (codes "number") then number_query text else
    (if is_word word (codes "dual") then option_map dual (only_number words) else
    (if is_word word (codes "ask") then option_map (λ p. ask p.0 p.1) (only_pair words) else
    (if is_word word (codes "why") then option_map (λ p. why p.0 p.1) (only_pair words) else
    (if is_word word (codes "files") then lone_query files words else
    (if is_word word (codes "counts") then lone_query counts words else
    (if is_word word (codes "ledger") then lone_query ledger words else
    (if is_word word (codes "profile") then option_map profile (only_word words) else
    report_query word words))))))))

-- a line that is to be a query
abbrev pub query_request : Option Query → Request
query_request None = bad
query_request (Some q) = query q

-- `order` and a number of value 4 or 5
abbrev pub order_request : Option ℕ → Request
order_request None = bad
order_request (Some n) = if nat_eq n 4 then order 4 else (if nat_eq n 5 then order 5 else bad)

-- `load` and a word
abbrev pub load_request : Option (List ℕ) → Request
load_request None = bad
load_request (Some word) = load word

-- `withdraw` and a word
abbrev pub withdraw_request : Option (List ℕ) → Request
withdraw_request None = bad
withdraw_request (Some word) = withdraw word

-- what the line with these words asks
abbrev pub request_of_words : List ℕ → List (List ℕ) → Request
request_of_words line [] = blank
request_of_words line (word ∷ words) =
    if is_comment word then blank else
    (if is_word word (codes "order") then order_request (only_number words) else
    (if is_word word (codes "file") then file (only_word words) else
    (if is_word word (codes "load") then load_request (only_word words) else
    (if is_word word (codes "withdraw") then withdraw_request (only_word words) else
    query_request (query_of word (behind_first line) words)))))

-- what the line asks
abbrev pub request_of : List ℕ → Request
request_of line = request_of_words line (words_of line)

-- what a line asks, a long one too
abbrev pub asked : LineText → Request
asked too_long = long
asked (whole line) = request_of line
