-- The facts of the files that stand name laws of the closure.
use Rattle.std.proofs.Common.{ℕ, List, Contains, length}
use Rattle.std.proofs.lemmas.List.Elements.{All-weaker}
use Rattle.etp_theory.specs.LawNumbers.{IsLaw}
use Rattle.etp_theory.specs.Reach.{Fact, implies, refutes}
use Rattle.etp_closure.specs.Closures.{Known, IsKept, StandsFor}
use Rattle.etp_chain.specs.Evidence.{NamesLaws}

pub names_laws : (known : Known) (facts : List Fact) → StandsFor known facts
    → ((law : ℕ) → IsKept known.slots law → IsLaw (length known.duals) law)
    → (fact : Fact) → Contains facts fact → NamesLaws (length known.duals) fact
names_laws known facts stands kept (implies e f) there =
    let h = stands.kept (implies e f) there in (kept e h.0, kept f h.1)
names_laws known facts stands kept (refutes holds fails) there =
    let h = stands.kept (refutes holds fails) there in
    (All-weaker (IsKept known.slots) (IsLaw (length known.duals)) kept holds h.0, All-weaker (IsKept known.slots) (IsLaw (length known.duals)) kept fails h.1)
