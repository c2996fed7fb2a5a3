-- The space of a goal: its variables are those below a number.
use Rattle.std.proofs.Common.{◌≡◌, ◌<◌, ◌≤◌, ◌⊎◌, ℕ, zero, suc, max, List, Some, None, inl, inr, arith, sym, ap, ◌∙◌, subst}
use Rattle.std.specs.List.{All}
use Rattle.std.proofs.lemmas.Bool.{cases_lt}
use Rattle.std.proofs.lemmas.Option.{slice_get_within, get_or_from_slice_get}
use Rattle.std.specs.Option.{unwrap_or}
use Rattle.etp_theory.specs.Trees.{Tree, Equation, Occurs, bound}
use Rattle.etp_theory.specs.LawNumbers.{law_numbered}
use Rattle.etp_theory.proofs.Unifiers.{occurs_bound}
use Rattle.etp_laws.specs.Listing.{Listed, reflexive_law}
use Rattle.etp_laws.specs.LawLists.{HasVariables}
use Rattle.etp_laws.proofs.Variables.{HasVariables-bound}
use Rattle.etp_replay.specs.Validity.{law_at}
use Rattle.etp_search.specs.Spaces.{Space, IsSearchable}

-- the law that stands there
pub law_there : (laws : List Equation) (n : ℕ) (e : Equation) → law_numbered laws n ≡ Some e → law_at laws n ≡ e
law_there laws n e h = ap (λ o. unwrap_or o reflexive_law) h

pub listed_at : (laws : List Equation) (n : ℕ) (e : Equation) → All Listed laws → law_numbered laws n ≡ Some e → Listed e
listed_at laws zero e all h = absurd (let k : None ≡ Some e = h in cc)
listed_at laws (suc k) e all h = subst Listed (get_or_from_slice_get laws k e e h) (all k e (slice_get_within laws k e h))

-- a law has one number of variables
not_less : (e : Equation) (m n : ℕ) → HasVariables e m → HasVariables e n → m < n → ⊥
not_less e m n h k less = let l = (h m).0 ((k m).1 less) in omega (arith, l)

one_number : (e : Equation) (m n : ℕ) → HasVariables e m → HasVariables e n → m ≡ n
one_number e m n h k = go (cases_lt m n) (cases_lt n m)
  where
    go : (m < n) ⊎ (n ≤ m) → (n < m) ⊎ (m ≤ n) → m ≡ n
    go (inl l) q = absurd (not_less e m n h k l)
    go (inr p) (inl l) = absurd (not_less e n m k h l)
    go (inr p) (inr q) = omega (arith, p, q)

-- so many as the greatest one says
pub counted : (laws : List Equation) (n m : ℕ) (e : Equation) → All Listed laws → law_numbered laws n ≡ Some e → HasVariables e m → m ≡ max (bound (law_at laws n).left) (bound (law_at laws n).right)
counted laws n m e all stands h =
    one_number e m (max (bound e.left) (bound e.right)) h (HasVariables-bound e (listed_at laws n e all stands))
    ∙ ap (λ (p : Equation). max (bound p.left) (bound p.right)) (sym (law_there laws n e stands))

below_64 : (t : Tree) (n : ℕ) → bound t ≤ n → n ≤ 6 → (v : ℕ) → Occurs v t → v < 64
below_64 t n small few v h = let l = occurs_bound v t h in omega (arith, small, few, l)

pub searchable : (space : Space) → max (bound space.law.left) (bound space.law.right) ≤ 6 → space.variables ≤ 6 → space.leaves ≤ 6 → IsSearchable space
searchable space law variables leaves = record {
  few_variables = omega (arith, variables);
  few_leaves = omega (arith, leaves);
  left = below_64 space.law.left (max (bound space.law.left) (bound space.law.right)) (omega arith) law;
  right = below_64 space.law.right (max (bound space.law.left) (bound space.law.right)) (omega arith) law;
}
