-- What a fact of the program says.
use Rattle.etp_theory.specs.Reach.{Fact as Said, implies, refutes}
use Rattle.etp_closure.specs.declared.facts.Fact.{Fact}
use Rattle.etp_closure.specs.declared.facts.Fact.TheVariants.{Implies, Refutes}

-- the same fact, as reach and cover speak of it
abbrev pub fact_of : Fact → Said
fact_of (Implies hypothesis goal) = implies hypothesis goal
fact_of (Refutes holds fails) = refutes holds fails
