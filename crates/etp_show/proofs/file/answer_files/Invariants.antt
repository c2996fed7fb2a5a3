use Rattle.std.proofs.Common.{◌≡◌, take}
use Rattle.etp_show.specs.FileLists.{file_lines}
use Rattle.etp_show.proofs.file.answer_files.Given as goal

abbrev pub invariant-files : goal.invariant-files
invariant-files l = l.text ≡ file_lines (take l.at l.ledger.files)
