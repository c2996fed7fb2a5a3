-- What is written of a body that was read is read again.
use Rattle.std.proofs.Common.{◌≡◌, ℕ, ◌≤◌, arith, Bool, true, List, [], ◌∷◌, length, map, All, refl, ap, ◌∙◌, inl, inr}
use Rattle.etp_theory.specs.LawNumbers.{IsLaw}
use Rattle.etp_io.specs.Texts.{LineText, whole, too_long, lines_of}
use Rattle.etp_reading.specs.Reading.{Reads, AreListed}
use Rattle.etp_items.specs.Bodies.{ProofBody, FileBody, proof, model}
use Rattle.etp_lines.specs.ProofLines.{Version, ProofLine}
use Rattle.etp_lines.specs.BodyLines.{Line, Place, opening, proof_line, bodies}
use Rattle.etp_items.specs.Reading.{proof_lines, SaysBody, IsReadBody, body_numbers}
use Rattle.etp_items.specs.Written.{written_proof_line, version_for, written_body, IsWritableBody, IsShortBody, HasFewLines}
use Rattle.etp_items.proofs.Writable.{body_writable}
use Rattle.etp_items.proofs.TextLines.{given_length}
use Rattle.etp_items.proofs.ModelReads.{model_lines, model_whole_lines, model_says}
use Rattle.etp_items.proofs.ModelListed.{model_numbers, model_listed}
use Rattle.etp_items.proofs.WrittenReads.{proof_given, written_whole, proof_listed, proof_numbers}

length_map : {A B : Type 0} (f : A → B) (xs : List A) → length (map f xs) ≡ length xs
length_map f [] = refl
length_map f (x ∷ xs) = omega (arith, length_map f xs)

-- what lines say has no more lines than were read
said_few : (xs : List LineText) (p q : Place) (saids : List Line) → Reads bodies p xs saids q → length saids ≤ length xs
said_few [] p q saids h = omega (arith, ap length h.0)
said_few (too_long ∷ xs) p q saids h = absurd h
said_few (whole line ∷ xs) p q saids (inl h) = let k = said_few xs p q saids h.1 in omega arith
said_few (whole line ∷ xs) p q saids (inr (said, next, more, says, a, h, e)) = let k = said_few xs next q more h in omega (arith, ap length e)

-- a body's numbers are those of its lines
numbers_said : (count : ℕ) (saids : List Line) (b : FileBody) → SaysBody saids b → AreListed bodies count saids → All (IsLaw count) (body_numbers b)
numbers_said count saids (proof p) (v, e) listed = proof_numbers count v p (rw e at listed)
numbers_said count saids (model m c) s listed = model_numbers count saids m c s listed

pub listed_numbers : (count : ℕ) (lines : List LineText) (closed : Bool) (b : FileBody) → IsReadBody count lines closed b → All (IsLaw count) (body_numbers b)
listed_numbers count lines closed b h = numbers_said count h.is_body.saids b h.is_body.says h.listed

-- the written form has no more lines than were read
written_few : (lines : List LineText) (p : ProofBody) (v : Version) (saids : List Line) (q : Place) → Reads bodies opening lines saids q
    → saids ≡ map proof_line (proof_lines v p) → IsWritableBody (proof p) → IsShortBody (proof p)
    → length (lines_of (written_body (proof p))) ≤ length lines
written_few lines p v saids q reads says writable short =
    let said : List ProofLine = proof_lines (version_for p) p in
    let read = said_few lines opening q saids reads in
    let long = ap length (proof_given p writable short) ∙ given_length written_proof_line said in
    let many = ap length says ∙ length_map proof_line (proof_lines v p) in
    omega (arith, read, long, many)

pub written_body_read_again : (count : ℕ) (lines : List LineText) (closed : Bool) (b : FileBody)
    → IsReadBody count lines closed b → IsShortBody b → HasFewLines b → IsReadBody count (lines_of (written_body b)) true b
written_body_read_again count lines closed (proof p) h short few_lines =
    let w : IsWritableBody (proof p) = body_writable lines (proof p) h.is_body in
    let few = written_few lines p h.is_body.says.0 h.is_body.saids h.is_body.are_whole.come h.is_body.are_whole.reads h.is_body.says.1 w short in
    record {
      is_closed = refl;
      few = omega (arith, few, h.few);
      is_body = record {
        saids = map proof_line (proof_lines (version_for p) p);
        are_whole = written_whole p w short;
        says = (version_for p, refl);
      };
      listed = proof_listed count (version_for p) p (listed_numbers count lines closed (proof p) h);
    }
written_body_read_again count lines closed (model m c) h short few =
    let w = body_writable lines (model m c) h.is_body in
    record {
      is_closed = refl;
      few = few;
      is_body = record { saids = model_lines m c; are_whole = model_whole_lines m c w.0 short w.1; says = model_says m c w.0 };
      listed = model_listed count m c (listed_numbers count lines closed (model m c) h);
    }
