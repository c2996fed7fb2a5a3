-- The laws of the facts of a test.
use Rattle.std.proofs.Common.{◌≡◌, ℕ, zero, suc, ◌<◌, List, [], ◌∷◌, All, Contains, subst, slice_index_or, sym, arith}
use Rattle.etp_theory.specs.Reach.{Fact, implies, refutes}
use Rattle.etp_theory.specs.LawNumbers.{IsLaw}
use Rattle.etp_chain.specs.Evidence.{NamesLaws}

law_up_to : (law laws : ℕ) → 0 < law → law < suc laws → IsLaw laws law
law_up_to law laws low high = record { from_one = omega (arith, low); to_last = omega (arith, high) }

one_law : (law laws : ℕ) → IsLaw laws law → All (IsLaw laws) (law ∷ [])
one_law law laws is zero d h = is
one_law law laws is (suc k) d h = absurd (omega (arith, h))

in_two : (P : Fact → Type 0) (x y z : Fact) (k : ℕ) → P x → P y → k < 2 → slice_index_or (x ∷ y ∷ []) k z ≡ z → P z
in_two P x y z zero p q h is = subst P is p
in_two P x y z (suc zero) p q h is = subst P is q
in_two P x y z (suc (suc k)) p q h is = absurd (omega (arith, h))

pub facts_named : (holds fails : List ℕ) → holds ≡ 4 ∷ [] → fails ≡ 2 ∷ []
    → (fact : Fact) → Contains (refutes holds fails ∷ implies 4 3 ∷ []) fact → NamesLaws 5 fact
facts_named holds fails is_holds is_fails fact (k, within, at) =
    let four : IsLaw 5 4 = law_up_to 4 5 (omega arith) (omega arith) in
    let three : IsLaw 5 3 = law_up_to 3 5 (omega arith) (omega arith) in
    let two : IsLaw 5 2 = law_up_to 2 5 (omega arith) (omega arith) in
    let A : List ℕ → Type 0 = All (IsLaw 5) in
    in_two (NamesLaws 5) (refutes holds fails) (implies 4 3) fact k
    (subst A (sym is_holds) (one_law 4 5 four), subst A (sym is_fails) (one_law 2 5 two)) (four, three) within at
