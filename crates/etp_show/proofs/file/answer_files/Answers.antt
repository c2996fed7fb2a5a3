use Rattle.std.proofs.Common.{◌∙◌, sym, ap, ◌++◌, ◌∷◌, [], List, ℕ}
use Rattle.std.specs.Prelude.{codes}
use Rattle.etp_items.specs.Bodies.{body_of}
use Rattle.etp_show.specs.FileLists.{kind_text}
use Rattle.etp_show.proofs.FileLemmas.{file_lines-next}
use Rattle.etp_show.proofs.file.answer_files.Goals as goal

pub files-preserved : goal.files-preserved
files-preserved c =
    c.in_ok-append_file.ensures
    ∙ ap (λ (x : List ℕ). x ++ (c.in-Some.name.now ++ codes " " ++ kind_text (body_of c.in-Some.body.now) ++ 10 ∷ [])) c.files.invariant
    ∙ sym (file_lines-next c.args.ledger.now.files c.files.at (record { name = c.in-Some.name.now; body = body_of c.in-Some.body.now }) c.in-Some.ensures.file)
