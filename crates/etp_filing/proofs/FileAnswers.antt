-- Replies to files from the parts that give them.
use Rattle.std.proofs.Common.{◌≡◌, ℕ, List, [], ◌∷◌, ◌++◌, sym, ◌∙◌, ap, Option, None, Some, Bool, true, false}
use Rattle.etp_io.specs.Texts.{LineText}
use Rattle.std.specs.Prelude.{is_some, position}
use Rattle.etp_items.specs.declared.reader.BodyReader.{BodyReader}
use Rattle.etp_items.specs.Work.{HasRead}
use Rattle.etp_ledger.specs.Files.{File, is_named, body_named, Stands}
use Rattle.etp_theory.specs.Reach.{Fact}
use Rattle.etp_print.specs.Texts.{refused, refused_file, reply_text}
use Rattle.etp_print.specs.Given.{GivesThen}
use Rattle.etp_desk.specs.States.{Filing}
use Rattle.etp_desk.specs.Desks.{opened_of, Agrees, Leaves}
use Rattle.etp_desk.specs.declared.opened.Opened.{Opened}
use Rattle.etp_desk.proofs.Opening.{kept}
use Rattle.etp_filing.specs.FileReplies.{FileReply, said_text, accepted_with, accepted_line}
use Rattle.etp_filing.specs.Filings.{with_line, IsReading}
use Rattle.etp_filing.proofs.FilingLemmas.{placed-stands, unplaced-free}

-- a file that is refused
pub refuses-file : (o : Opened) (g : Filing) (closed : Bool) (n : ℕ) (text why : List ℕ) (flag : Bool) → Agrees o → g.number ≡ n
    → FileReply (opened_of o) g closed (refused why) o.ledger.files
    → (text ≡ reply_text n (refused why)) × (flag ≡ true)
    → GivesThen g.number text flag (FileReply (opened_of o) g closed) (Leaves o o)
refuses-file o g closed n text why flag a e r h = record {
  reply = refused why;
  files = o.ledger.files;
  is = r;
  stands = kept o a;
  text_is = h.0 ∙ ap (λ k. reply_text k (refused why)) (sym e);
  refused_is = h.1;
}

-- a line more
pub reads-on : (o : Opened) (name : List ℕ) (r s : BodyReader) (g : Filing) (l : LineText)
    → ((lines : List LineText) → HasRead r lines → HasRead s (lines ++ l ∷ [])) → s.tally.count ≡ r.tally.count
    → IsReading o name r g → IsReading o name s (with_line g l)
reads-on o name r s g l pushed count h = record { free = h.free; read = pushed g.lines h.read; count = count ∙ h.count }

-- the name was found
pub found-stands : (name : List ℕ) (files : List File) (place : Option ℕ) (b : Bool) → place ≡ position (is_named name) files → b ≡ is_some place → b ≡ true → Stands files name
found-stands name files (Some k) b e f t = placed-stands name files k (sym e)
found-stands name files None b e f t = let x : false ≡ true = sym f ∙ t in absurd (cc)

-- the name wasn't found
pub found-free : (name : List ℕ) (files : List File) (place : Option ℕ) (b : Bool) → place ≡ position (is_named name) files → b ≡ is_some place → b ≡ false → body_named name files ≡ None
found-free name files (Some k) b e f t = let x : true ≡ false = sym f ∙ t in absurd (cc)
found-free name files None b e f t = unplaced-free name files (sym e)

-- the line of an accepted file
pub accepted-text : (old slice label empty shown name text said : List ℕ) (fact : Fact) → old ≡ [] → slice ≡ label → label ≡ empty ++ shown → empty ≡ [] → shown ≡ name → said ≡ said_text fact
    → text ≡ old ++ accepted_with slice said → text ≡ accepted_line name fact
accepted-text old slice label empty shown name text said fact o s l e n f t =
    let same : slice ≡ name = s ∙ l ∙ ap (λ (x : List ℕ). x ++ shown) e ∙ n in
    t ∙ ap (λ (x : List ℕ). x ++ accepted_with slice said) o ∙ ap (λ (x : List ℕ). accepted_with x said) same ∙ ap (accepted_with name) f

-- the same refusal under the name and the number that are known
pub refusal-text : (n m : ℕ) (slice label empty shown name why text : List ℕ) → m ≡ n → slice ≡ label → label ≡ empty ++ shown → empty ≡ [] → shown ≡ name
    → text ≡ reply_text n (refused_file slice why) → text ≡ reply_text m (refused_file name why)
refusal-text n m slice label empty shown name why text k s l e x t =
    let same : slice ≡ name = s ∙ l ∙ ap (λ (y : List ℕ). y ++ shown) e ∙ x in
    t ∙ ap (λ (y : List ℕ). reply_text n (refused_file y why)) same ∙ ap (λ (i : ℕ). reply_text i (refused_file name why)) (sym k)
