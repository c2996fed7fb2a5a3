-- The laws that a fact names.
use Rattle.std.specs.Prelude.{ℕ, All}
use Rattle.etp_theory.specs.LawNumbers.{IsLaw}
use Rattle.etp_theory.specs.Reach.{Fact, implies, refutes}

-- all laws that the fact names are among so many laws
abbrev pub HasLaws : ℕ → Fact → Type 0
HasLaws count (implies hypothesis goal) = IsLaw count hypothesis × IsLaw count goal
HasLaws count (refutes holds fails) = All (IsLaw count) holds × All (IsLaw count) fails
