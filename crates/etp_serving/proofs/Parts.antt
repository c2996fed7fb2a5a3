-- Bytes that are answered part by part, each part ended by a newline.
use Rattle.std.proofs.Common.{◌≡◌, ℕ, ◌+◌, List, ◌++◌, length, take, ◌∙◌, ap, append-nil}
use Rattle.std.proofs.Math.Seq.{take-append-add}
use Rattle.etp_io.specs.Texts.{NoNewline, to_last_newline}
use Rattle.etp_io.proofs.CallLemmas.{to_last_newline-append, to_last_newline-plain}

-- two parts that end with a newline make one
pub to_last_newline-both : (p q : List ℕ) → to_last_newline p ≡ p → to_last_newline q ≡ q → to_last_newline (p ++ q) ≡ p ++ q
to_last_newline-both p q h k = to_last_newline-append p q h ∙ ap (λ (l : List ℕ). p ++ l) k

-- of the bytes so far, those up to the last newline are the part that was answered
pub to_last_newline-take : (bytes part coming : List ℕ) (n : ℕ) → bytes ≡ part ++ coming → to_last_newline part ≡ part → NoNewline (take n coming) → to_last_newline (take (length part + n) bytes) ≡ part
to_last_newline-take bytes part coming n e h k =
    rw (e, take-append-add part coming n)
    (to_last_newline-append part (take n coming) h ∙ ap (λ (l : List ℕ). part ++ l) (to_last_newline-plain (take n coming) k) ∙ append-nil part)
