use Rattle.etp_reply.proofs.OneReply.{told}
use Rattle.etp_serving.specs.Protocols.{ledger_protocol}
use Rattle.etp_serving.proofs.OneText.{one-text, ledger-one_reply}
use Rattle.etp_serving.proofs.unique.one_text.Goals as goal

pub returns : goal.returns
returns c limit kept = one-text (ledger_protocol (told limit kept)) (ledger-one_reply limit kept)
