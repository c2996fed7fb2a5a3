-- The text of generated files.
use Rattle.std.specs.Prelude.{ℕ, List}
use Rattle.etp_theory.specs.Trees.{Equation}
use Rattle.etp_laws.specs.Listing.{IsTheList}
use Rattle.etp_gen.specs.Scripts.{IsScript}

-- the script of so many files from a seed, over the laws of order 4
pub record IsScriptOf (count seed : ℕ) (text : List ℕ) : Type 0 where
  pub laws : List Equation
  pub the_list : IsTheList 4 laws
  pub script : IsScript laws count seed text
