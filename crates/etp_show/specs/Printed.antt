-- The files that stand, as the lines of a session that gives them again.
use Rattle.std.specs.Prelude.{ℕ, List, [], ◌∷◌, ◌++◌, codes, nat_eq, if◌then◌else◌}
use Rattle.etp_items.specs.Written.{written_body}
use Rattle.etp_ledger.specs.Files.{File}

-- the lines of a file: its name, its body and `end`
abbrev pub printed_file : File → List ℕ
printed_file file = codes "file " ++ file.name ++ 10 ∷ (written_body file.body ++ codes "end" ++ 10 ∷ [])

-- those of all files, in order
abbrev pub printed : List File → List ℕ
printed [] = []
printed (file ∷ files) = printed_file file ++ printed files

-- the line of a session's order, which is 4 where none stands
abbrev pub order_text : ℕ → List ℕ
order_text order = if nat_eq order 5 then codes "order 5" ++ 10 ∷ [] else []

-- the files of a session of this order
abbrev pub printed_ledger : ℕ → List File → List ℕ
printed_ledger order files = order_text order ++ printed files
