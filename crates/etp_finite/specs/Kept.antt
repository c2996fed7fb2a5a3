-- The files as the ledger keeps them.
use Rattle.std.specs.Prelude.{ℕ, List, map}
use Rattle.std.specs.declared.vec.Vec.{Vec}
use Rattle.etp_finite_body.specs.FiniteBodies.{finite_body_of}
use Rattle.etp_finite.specs.Files.{File}
use Rattle.etp_finite.specs.declared.kept.Kept.{Kept}

abbrev pub file_of : {A : Type 0} → Vec ℕ A × Kept → File
file_of entry = record { name = entry.0.items; body = finite_body_of entry.1.body }

abbrev pub files_of : {A : Type 0} → List (Vec ℕ A × Kept) → List File
files_of = map file_of
