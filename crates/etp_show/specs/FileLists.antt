-- The files that stand, as lines.
use Rattle.std.specs.Prelude.{ℕ, List, [], ◌∷◌, ◌++◌, codes, decimal, length}
use Rattle.etp_lines.specs.Claims.{Claims}
use Rattle.etp_items.specs.Bodies.{FileBody, Model, table, linear, matrix, rules, proof, model}
use Rattle.etp_ledger.specs.Files.{File}

-- how many laws are to hold, and how many are to fail
abbrev pub counts_text : Claims → List ℕ
counts_text claims = decimal (length claims.holds) ++ codes " " ++ decimal (length claims.fails)

-- the word of a magma's kind
abbrev pub model_word : Model → List ℕ
model_word (table size entries) = codes "table"
model_word (linear l) = codes "linear"
model_word (matrix g) = codes "matrix"
model_word (rules w rs) = codes "rules"

-- a file's kind and laws
abbrev pub kind_text : FileBody → List ℕ
kind_text (proof p) = codes "proof " ++ decimal p.hypothesis ++ codes " " ++ decimal p.goal
kind_text (model m claims) = model_word m ++ codes " " ++ counts_text claims

-- a line for each file
abbrev pub file_lines : List File → List ℕ
file_lines [] = []
file_lines (file ∷ files) = file.name ++ codes " " ++ kind_text file.body ++ 10 ∷ file_lines files

abbrev pub files_text : List File → List ℕ
files_text files = file_lines files ++ codes "files " ++ decimal (length files) ++ 10 ∷ []
