-- A text that was written, or a prefix of it, by the status.
use Rattle.std.proofs.Common.{ℕ, List, [], refl, Option, inl, inr}
use Rattle.etp_io.specs.Stream.{AppendsPrefix}
use Rattle.etp_io.proofs.CallLemmas.{Appends-none, IsPrefix-none}
use Rattle.etp_tasks.specs.Writing.{WritesText}

pub writes-no_write : (text : List ℕ) (took0 took : Option (List ℕ)) → AppendsPrefix took0 took text → WritesText text took0 took 4
writes-no_write text took0 took w = record { whole = λ e. absurd (cc); cut = λ _. w; statuses = inr (inl refl) }

pub writes-no_memory : (text : List ℕ) (took0 took : Option (List ℕ)) → AppendsPrefix took0 took text → WritesText text took0 took 5
writes-no_memory text took0 took w = record { whole = λ e. absurd (cc); cut = λ _. w; statuses = inr (inr refl) }

-- nothing of it was written
pub writes-none : (text : List ℕ) (took : Option (List ℕ)) → WritesText text took took 5
writes-none text took = writes-no_memory text took took (record { front = []; appended = Appends-none took; begins = IsPrefix-none text })
