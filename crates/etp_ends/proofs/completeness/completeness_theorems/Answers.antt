use Rattle.std.proofs.Common.{refl}
use Rattle.std.specs.Prelude.{List, [], ◌∷◌, ◌++◌, true}
use Rattle.etp_check.specs.Checks.{fact_said}
use Rattle.etp_ledger.specs.Files.{File}
use Rattle.etp_print.specs.Texts.{answered}
use Rattle.etp_filing.specs.FileReplies.{accepted, accepted_line}
use Rattle.etp_filing.proofs.OneFile.{file_reply-only}
use Rattle.etp_ends.proofs.completeness.completeness_theorems.Goals as goal

pub returns : goal.returns
returns c = record {
  accepted = λ o f name body reply after list valid given.
      file_reply-only o f true list reply (answered (accepted_line name (fact_said body)))
      after (o.files ++ record { name = name; body = body } ∷ []) given
      (accepted name body valid.free valid.read (record { spelled = valid.free.is_name; free = valid.free.free; valid = valid.valid }) refl refl);
}
