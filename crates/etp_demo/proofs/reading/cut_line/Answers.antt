use Rattle.std.proofs.Common.{◌∷◌, ◌+◌, List, ℕ, drop, take, length, sym, ap, ◌∙◌}
use Rattle.etp_io.specs.Texts.{text_of, lines_of}
use Rattle.etp_demo.proofs.Cutting.{cut_last, cut_first, kept_behind, none_behind}
use Rattle.etp_demo.proofs.reading.cut_line.Goals as goal

pub returns-in-None-clause-lines : goal.returns-in-None-clause-lines
returns-in-None-clause-lines c =
    let bytes = c.args.bytes.now in
    cut_last bytes c.requires c.in-None.ensures ∙ ap (λ (t : List ℕ). text_of 4096 bytes ∷ lines_of t) (sym (none_behind bytes (drop (length bytes) bytes)))

pub returns-in-Some-clause-lines : goal.returns-in-Some-clause-lines
returns-in-Some-clause-lines c =
    let bytes = c.args.bytes.now in
    cut_first bytes c.in-Some.place c.in-Some.ensures
    ∙ ap (λ (t : List ℕ). text_of 4096 (take c.in-Some.place bytes) ∷ lines_of t) (sym (kept_behind (c.in-Some.place + 1) bytes))
