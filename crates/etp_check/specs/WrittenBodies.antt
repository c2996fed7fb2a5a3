-- What a right body, and so a valid one, says is kept by its written form.
use Rattle.std.specs.Prelude.{ℕ, Bool, true, List}
use Rattle.etp_theory.specs.Trees.{Equation}
use Rattle.etp_io.specs.Texts.{LineText, lines_of}
use Rattle.etp_items.specs.Bodies.{FileBody}
use Rattle.etp_items.specs.Reading.{IsReadBody}
use Rattle.etp_items.specs.Written.{written_body, IsShortBody, HasFewLines}
use Rattle.etp_check.specs.Checks.{IsRightBody}

pub record WrittenTheorems : Type 0 where
  -- a body that was read and is right is written in lines of at most 4096 bytes
  pub valid_body_short : (laws : List Equation) (cited : List ℕ) (count : ℕ) (lines : List LineText) (closed : Bool)
      (body : FileBody) → IsReadBody count lines closed body → IsRightBody laws body cited → IsShortBody body
  -- and what is written, closed and read again, is the body
  pub valid_body_reads : (laws : List Equation) (cited : List ℕ) (count : ℕ) (lines : List LineText) (closed : Bool)
      (body : FileBody) → IsReadBody count lines closed body → IsRightBody laws body cited
      → HasFewLines body → IsReadBody count (lines_of (written_body body)) true body
