-- The replies to the question which laws hold in a stored table.
use Rattle.std.specs.Prelude.{◌≡◌, ◌<◌, ◌≤◌, ℕ, List, [], ◌∷◌, ◌++◌, codes, decimal, length, None, Some}
use Rattle.std.specs.declared.option.Option.{Option}
use Rattle.etp_theory.specs.Trees.{Equation}
use Rattle.etp_proof.specs.Names.{IsName}
use Rattle.etp_table.specs.Tables.{Table}
use Rattle.etp_sweep.specs.Profiles.{IsProfile, greatest_size}
use Rattle.etp_items.specs.Bodies.{FileBody, table, linear, matrix, rules, proof, model}
use Rattle.etp_items.specs.Written.{spaced_behind}
use Rattle.etp_ledger.specs.Files.{File, body_named}
use Rattle.etp_print.specs.Texts.{Reply, answered, refused}

-- the table that a file has, where it is of that kind
abbrev pub table_in : FileBody → Option Table
table_in (proof p) = None
table_in (model (table size entries) claims) = Some (record { size = size; entries = entries })
table_in (model (linear l) claims) = None
table_in (model (matrix g) claims) = None
table_in (model (rules w rs) claims) = None

-- the name, how many laws hold, and their numbers
abbrev pub profile_line : List ℕ → List ℕ → List ℕ
profile_line name numbers =
    codes "profile " ++ name ++ codes " " ++ decimal (length numbers) ++ codes ":" ++ spaced_behind numbers ++ 10 ∷ []

-- The reply to `profile` and a word, where these are the laws of at most `order` operations: the rising
-- numbers of exactly the laws that hold in the table of the name. The word may be no name, no file may
-- have it, the file may be of another kind, and its table may be too large.
pub data ProfileReply (order : ℕ) (laws : List Equation) (files : List File) (word : List ℕ) (reply : Reply) : Type 0 where
  no_name : (IsName word → ⊥) → reply ≡ refused (codes "bad line") → ProfileReply order laws files word reply
  unknown_name : IsName word → body_named word files ≡ None
      → reply ≡ refused (codes "no such name " ++ word) → ProfileReply order laws files word reply
  other_kind : (body : FileBody) → IsName word → body_named word files ≡ Some body → table_in body ≡ None
      → reply ≡ refused (codes "not a table " ++ word) → ProfileReply order laws files word reply
  too_large : (body : FileBody) (t : Table) → IsName word → body_named word files ≡ Some body → table_in body ≡ Some t
      → greatest_size order < t.size → reply ≡ refused (codes "profile size " ++ decimal t.size) → ProfileReply order laws files word reply
  profiled : (body : FileBody) (t : Table) (numbers : List ℕ) → IsName word → body_named word files ≡ Some body → table_in body ≡ Some t
      → t.size ≤ greatest_size order → IsProfile laws t numbers
      → reply ≡ answered (profile_line word numbers) → ProfileReply order laws files word reply
