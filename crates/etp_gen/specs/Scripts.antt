-- The script of the files that a seed gives.
use Rattle.std.specs.Prelude.{◌≡◌, ℕ, suc, List, [], ◌∷◌, ◌++◌, codes, decimal, length}
use Rattle.etp_theory.specs.Trees.{Equation}
use Rattle.etp_items.specs.Bodies.{ProofBody, proof}
use Rattle.etp_items.specs.Written.{written_body}
use Rattle.etp_gen.specs.Draws.{start}
use Rattle.etp_gen.specs.Files.{IsGenerated}

-- files one after the other, each from the state after the one before it
abbrev pub AreGenerated : List Equation → ℕ → List ProofBody → ℕ → Type 0
AreGenerated laws s [] after = s ≡ after
AreGenerated laws s (file ∷ files) after =
    (next : ℕ) × IsGenerated laws s file next × AreGenerated laws next files after

-- file k has the name `gk`
abbrev pub file_name : ℕ → List ℕ
file_name k = codes "g" ++ decimal k

-- file k between the line with its name and the line `end`
abbrev pub written_file : ℕ → ProofBody → List ℕ
written_file k file = codes "file " ++ file_name k ++ 10 ∷ (written_body (proof file) ++ codes "end" ++ 10 ∷ [])

-- the files, numbered from k on
abbrev pub written_files : ℕ → List ProofBody → List ℕ
written_files k [] = []
written_files k (file ∷ files) = written_file k file ++ written_files (suc k) files

-- the script: so many files, numbered from 1 on, and the line `counts`
pub record IsScript (laws : List Equation) (count seed : ℕ) (text : List ℕ) : Type 0 where
  pub files : List ProofBody
  pub after : ℕ
  pub many : length files ≡ count
  pub are_generated : AreGenerated laws (start seed) files after
  pub text_is : text ≡ written_files 1 files ++ codes "counts" ++ 10 ∷ []
