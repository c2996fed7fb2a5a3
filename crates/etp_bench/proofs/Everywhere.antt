-- A closure that keeps every law.
use Rattle.std.proofs.Common.{◌+◌, ◌↔◌, ℕ, List, [], ◌∷◌, ◌++◌, Contains, subst, sym, inl, inr, arith}
use Rattle.std.proofs.lemmas.Bool.{cases_eq}
use Rattle.std.proofs.lemmas.List.Elements.{Contains-push, Contains-append_left}
use Rattle.etp_theory.specs.LawNumbers.{IsLaw}
use Rattle.etp_closure.specs.Closures.{IsKept, IsReserved, in_first}

-- a list of the laws 1 to n, and one law more
pub one_more : (n : ℕ) (laws : List ℕ) → ((law : ℕ) → IsLaw n law → Contains laws law)
    → (law : ℕ) → IsLaw (n + 1) law → Contains (laws ++ (n + 1) ∷ []) law
one_more n laws all law inside =
    elim (cases_eq law (n + 1)) [
      | inl same ↦ subst (Contains (laws ++ (n + 1) ∷ [])) (sym same) (Contains-push laws (n + 1))
      | inr differs ↦
          Contains-append_left laws ((n + 1) ∷ []) law
          (all law (record { from_one = inside.from_one; to_last = omega (arith, inside.to_last, differs) }))
    ]

-- every law is kept once a list of all laws is reserved
pub full_after : (count : ℕ) (duals slots now every : List ℕ)
    → ((law : ℕ) → IsKept now law ↔ IsReserved duals slots every [] law)
    → ((law : ℕ) → IsLaw count law → Contains every law) → (law : ℕ) → IsLaw count law → IsKept now law
full_after count duals slots now every kept all law inside = (kept law).1 (in_first (all law inside))
