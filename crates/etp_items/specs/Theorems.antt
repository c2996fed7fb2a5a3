-- What ties lines, bodies and refusals together.
use Rattle.std.specs.Prelude.{◌≡◌, ℕ, Bool, true, List, All}
use Rattle.etp_theory.specs.LawNumbers.{IsLaw}
use Rattle.etp_theory.specs.Trees.{Equation}
use Rattle.etp_theory.specs.Proofs.{IsValidProof}
use Rattle.etp_theory.specs.Weights.{Weight}
use Rattle.etp_theory.specs.Overlaps.{HasSmallVariables}
use Rattle.etp_rules.specs.Deciding.{AreAllowed}
use Rattle.etp_io.specs.Texts.{LineText, lines_of}
use Rattle.etp_items.specs.Bodies.{FileBody, ProofBody, proof, rules, model}
use Rattle.etp_words.specs.Words.{IsBlankLine}
use Rattle.etp_lines.specs.Claims.{Claims}
use Rattle.etp_lines.specs.BodyLines.{Line, Says}
use Rattle.etp_items.specs.Reading.{IsBody, IsReadBody, body_numbers, Refuses}
use Rattle.etp_items.specs.Written.{written_body, IsWritableBody, IsShortBody, HasFewLines}
use Rattle.etp_reading.specs.declared.refusal.BodyRefusal.{BodyRefusal}

-- lines, bodies, refusals and the written form
pub record BodyTheorems : Type 0 where
  -- a line says one thing, and a blank line nothing
  pub one_line : (line : List ℕ) (l m : Line) → Says line l → Says line m → l ≡ m
  pub blank_line : (line : List ℕ) (l : Line) → IsBlankLine line → Says line l → ⊥
  -- lines are one body
  pub one_body : (lines : List LineText) (b c : FileBody) → IsBody lines b → IsBody lines c → b ≡ c
  -- and the law numbers of a body that was read are listed
  pub listed_numbers : (count : ℕ) (lines : List LineText) (closed : Bool) (b : FileBody)
      → IsReadBody count lines closed b → All (IsLaw count) (body_numbers b)
  -- lines that are a closed body with listed numbers aren't refused
  pub body_stands : (count : ℕ) (lines : List LineText) (closed : Bool) (b : FileBody) (r : BodyRefusal)
      → IsReadBody count lines closed b → Refuses count lines closed r → ⊥
  -- and lines that are refused have one refusal
  pub one_refusal : (count : ℕ) (lines : List LineText) (closed : Bool) (r s : BodyRefusal)
      → Refuses count lines closed r → Refuses count lines closed s → r ≡ s
  -- what is read can be written, and what is written in short lines is read again
  pub body_writable : (lines : List LineText) (b : FileBody) → IsBody lines b → IsWritableBody b
  pub written_body_reads : (b : FileBody) → IsWritableBody b → IsShortBody b → IsBody (lines_of (written_body b)) b
  -- so it is with its closing and its numbers
  pub written_body_read_again : (count : ℕ) (lines : List LineText) (closed : Bool) (b : FileBody)
      → IsReadBody count lines closed b → IsShortBody b → HasFewLines b
      → IsReadBody count (lines_of (written_body b)) true b
  -- each line of a valid proof is written short, since a position that is in a term is shorter than the term
  pub valid_body_short : (hypothesis goal : Equation) (cites : List Equation) (p : ProofBody)
      → IsValidProof hypothesis goal cites p.lemmas → IsWritableBody (proof p) → IsShortBody (proof p)
  -- and so is each rule of an allowed system, since a side has at most 12 operations
  pub allowed_rules_short : (w : Weight) (rs : List Equation) (claims : Claims)
      → AreAllowed w rs → HasSmallVariables rs → IsShortBody (model (rules w rs) claims)
