-- Right bodies that were read are written and read again.
use Rattle.std.proofs.Common.{ℕ, Bool, true, List, map}
use Rattle.etp_theory.specs.Trees.{Equation}
use Rattle.etp_io.specs.Texts.{LineText, lines_of}
use Rattle.etp_replay.specs.Validity.{law_at}
use Rattle.etp_items.specs.Bodies.{FileBody, table, linear, matrix, rules, proof, model}
use Rattle.etp_items.specs.Reading.{IsReadBody}
use Rattle.etp_items.specs.Written.{written_body, IsShortBody, HasFewLines}
use Rattle.etp_items.proofs.Writable.{body_writable}
use Rattle.etp_items.proofs.ShortLines as Lines
use Rattle.etp_items.proofs.ShortRules.{allowed_rules_short}
use Rattle.etp_items.proofs.ReadAgain.{written_body_read_again}
use Rattle.etp_check.specs.Checks.{IsRightBody}

pub valid_body_short : (laws : List Equation) (cited : List ℕ) (count : ℕ) (lines : List LineText) (closed : Bool) (body : FileBody)
    → IsReadBody count lines closed body → IsRightBody laws body cited → IsShortBody body
valid_body_short laws cited count lines closed (proof p) read valid =
    Lines.valid_body_short (law_at laws p.hypothesis) (law_at laws p.goal) (map (law_at laws) cited) p valid (body_writable lines (proof p) read.is_body)
valid_body_short laws cited count lines closed (model (table size entries) claims) read valid = tt
valid_body_short laws cited count lines closed (model (linear l) claims) read valid = tt
valid_body_short laws cited count lines closed (model (matrix g) claims) read valid = tt
valid_body_short laws cited count lines closed (model (rules w rs) claims) read valid =
    allowed_rules_short w rs claims valid.0.allowed valid.0.convergent.small

pub valid_body_reads : (laws : List Equation) (cited : List ℕ) (count : ℕ) (lines : List LineText) (closed : Bool) (body : FileBody)
    → IsReadBody count lines closed body → IsRightBody laws body cited → HasFewLines body → IsReadBody count (lines_of (written_body body)) true body
valid_body_reads laws cited count lines closed body read valid few =
    written_body_read_again count lines closed body read (valid_body_short laws cited count lines closed body read valid) few
