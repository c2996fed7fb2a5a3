-- What is known of generated files.
use Rattle.std.specs.Prelude.{◌≡◌, ◌<◌, ◌^◌, ◌≤◌, ℕ, true, List, [], ◌∷◌, ◌++◌, All, length}
use Rattle.etp_theory.specs.Trees.{Equation}
use Rattle.etp_io.specs.Texts.{lines_of}
use Rattle.etp_laws.specs.Listing.{IsTheList}
use Rattle.etp_proof.specs.Names.{IsName}
use Rattle.etp_items.specs.Bodies.{ProofBody, proof}
use Rattle.etp_items.specs.Reading.{IsReadBody}
use Rattle.etp_items.specs.Written.{written_body}
use Rattle.etp_check.specs.Checks.{IsValidBody}
use Rattle.etp_gen.specs.Files.{IsGenerated}
use Rattle.etp_gen.specs.Scripts.{AreGenerated, file_name, IsScript}

pub record GeneratorTheorems : Type 0 where
  -- a generated file is valid: its one step is right and its conclusion is the goal
  pub valid_file : (laws : List Equation) (s after : ℕ) (file : ProofBody)
      → IsGenerated laws s file after → IsValidBody laws (proof file) []
  pub valid_files : (laws : List Equation) (s after : ℕ) (files : List ProofBody)
      → AreGenerated laws s files after → All (λ file. IsValidBody laws (proof file) []) files
  -- a state gives one file, and a seed one script
  pub one_file : (k : ℕ) (laws : List Equation) (s : ℕ) (file other : ProofBody) (after later : ℕ)
      → IsTheList k laws → IsGenerated laws s file after → IsGenerated laws s other later
      → (file ≡ other) × (after ≡ later)
  pub one_script : (k : ℕ) (laws : List Equation) (count seed : ℕ) (text other : List ℕ)
      → IsTheList k laws → IsScript laws count seed text → IsScript laws count seed other → text ≡ other
  -- one more file
  pub one_more : (laws : List Equation) (s between after : ℕ) (files : List ProofBody) (file : ProofBody)
      → AreGenerated laws s files between → IsGenerated laws between file after
      → AreGenerated laws s (files ++ file ∷ []) after
  -- the lines of a file, read, are the file
  pub file_reads : (k : ℕ) (laws : List Equation) (s after : ℕ) (file : ProofBody)
      → IsTheList k laws → k ≤ 5 → length laws < 2 ^ 32 → IsGenerated laws s file after
      → IsReadBody (length laws) (lines_of (written_body (proof file))) true (proof file)
  -- names are names, and no two files have one name
  pub is_name : (k : ℕ) → k < 2 ^ 32 → IsName (file_name k)
  pub one_name : (j k : ℕ) → j < 2 ^ 32 → k < 2 ^ 32 → file_name j ≡ file_name k → j ≡ k
