-- The printed files, one by one.
use Rattle.std.proofs.Common.{◌≡◌, ℕ, ◌+◌, ◌<◌, ◌≤◌, List, [], ◌∷◌, ◌++◌, append_assoc, length, take, append-nil, refl, sym, ◌∙◌, ap, subst, Some}
use Rattle.std.specs.Prelude.{slice_get}
use Rattle.etp_items.specs.Bodies.{FileBody, Model, table, linear, matrix, rules, proof, model}
use Rattle.etp_items.specs.Written.{HasSize}
use Rattle.etp_laws.specs.Listing.{IsTheList}
use Rattle.etp_laws.specs.LawLists.{LawList}
use Rattle.etp_check.specs.Checks.{HasContent}
use Rattle.etp_ledger.specs.Files.{File}
use Rattle.etp_ledger.specs.Accepting.{IsValidFor}
use Rattle.etp_ledger.specs.Ledgers.{Entries, IsOver}
use Rattle.etp_show.specs.Printed.{printed_file, printed}
use Rattle.etp_show.proofs.FileLemmas.{take-next}

printed-more : (files : List File) (file : File) → printed (files ++ file ∷ []) ≡ printed files ++ printed_file file
printed-more [] file = append-nil (printed_file file)
printed-more (f ∷ files) file =
    ap (λ (l : List ℕ). printed_file f ++ l) (printed-more files file) ∙ sym (append_assoc (printed_file f) (printed files) (printed_file file))

pub printed-next : (files : List File) (at : ℕ) (file : File) → slice_get files at ≡ Some file → printed (take (at + 1) files) ≡ printed (take at files) ++ printed_file file
printed-next files at file h = ap printed (take-next files at file h) ∙ printed-more (take at files) file

-- what is appended behind a front
pub printed-put : (front text new before put after : List ℕ) → text ≡ front ++ before → new ≡ text ++ put → after ≡ before ++ put → new ≡ front ++ after
printed-put front text new before put after h k l =
    k ∙ ap (λ (x : List ℕ). x ++ put) h ∙ append_assoc front before put ∙ ap (λ (x : List ℕ). front ++ x) (sym l)

-- a body with its content has a size
has_size : (body : FileBody) → HasContent body → HasSize body
has_size (proof p) h = tt
has_size (model (table size entries) claims) h = h.0
has_size (model (linear l) claims) h = tt
has_size (model (matrix g) claims) h = h.at_least
has_size (model (rules w rs) claims) h = tt

pub valid_size : (laws : LawList) (ledger : Entries) (body : FileBody) → IsOver laws ledger → IsValidFor ledger.order ledger.files body → HasSize body
valid_size laws ledger body over valid =
    has_size body (valid laws.equations (subst (λ k. IsTheList k laws.equations) (sym over.same_order) over.list)).valid.content
