-- The lines of files, one by one.
use Rattle.std.proofs.Common.{◌≡◌, ℕ, ◌+◌, ◌<◌, List, [], ◌∷◌, ◌++◌, append_assoc, length, take, get_or, add-one, refl, sym, ◌∙◌, ap, Some}
use Rattle.std.specs.Prelude.{codes, slice_get}
use Rattle.std.proofs.Math.Seq.{take-suc}
use Rattle.std.proofs.lemmas.Option.{slice_get_within, slice_get-get_or}
use Rattle.etp_ledger.specs.Files.{File}
use Rattle.etp_show.specs.FileLists.{file_lines, kind_text}

pub take-next : (files : List File) (at : ℕ) (file : File) → slice_get files at ≡ Some file → take (at + 1) files ≡ take at files ++ file ∷ []
take-next files at file h =
    let inside : at < length files = slice_get_within files at file h in
    let e : Some (get_or files at file) ≡ Some file = sym (slice_get-get_or files at file inside) ∙ h in
    let x : get_or files at file ≡ file = cc in
    rw add-one (take-suc files at file inside ∙ ap (λ (y : File). take at files ++ y ∷ []) x)

-- one line more
pub file_lines-more : (files : List File) (file : File) → file_lines (files ++ file ∷ []) ≡ file_lines files ++ (file.name ++ codes " " ++ kind_text file.body ++ 10 ∷ [])
file_lines-more [] file = refl
file_lines-more (f ∷ files) file =
    ap (λ (l : List ℕ). f.name ++ codes " " ++ kind_text f.body ++ 10 ∷ l) (file_lines-more files file)
    ∙ sym (append_assoc (f.name ++ codes " " ++ kind_text f.body) (10 ∷ file_lines files) (file.name ++ codes " " ++ kind_text file.body ++ 10 ∷ []))

pub file_lines-next : (files : List File) (at : ℕ) (file : File) → slice_get files at ≡ Some file → file_lines (take (at + 1) files) ≡ file_lines (take at files) ++ (file.name ++ codes " " ++ kind_text file.body ++ 10 ∷ [])
file_lines-next files at file h = ap file_lines (take-next files at file h) ∙ file_lines-more (take at files) file
