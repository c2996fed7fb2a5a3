use Rattle.std.proofs.Common.{inl, inr, ◌≡◌, ℕ, ◌+◌, ◌<◌, ◌≤◌, ◌++◌, List, [], ◌∷◌, length, get_or, Contains, sym, suc, zero, arith}
use Rattle.std.proofs.lemmas.List.Elements.{All-contains}
use Rattle.etp_theory.specs.Orders.{law_cmp}
use Rattle.etp_theory.specs.Trees.{Equation, law_ops}
use Rattle.etp_laws.specs.Enumeration.{laws_of, laws_upto}
use Rattle.etp_laws.specs.Listing.{Listed, IsTheList}
use Rattle.etp_theory.proofs.Orders.{law_order}
use Rattle.etp_laws.proofs.Rising.{In, Contains-from_in}
use Rattle.etp_laws.proofs.EnumerationLemmas.{rising_unique, flat_map_range_more}
use Rattle.etp_laws.proofs.TheList.{laws_upto_is}

pub In-from_contains : {X : Type 0} (xs : List X) (x : X) → Contains xs x → In x xs
In-from_contains xs x h = at xs h.0 h.1 h.2
  where
    at : (ys : List _) (k : ℕ) → k < length ys → get_or ys k x ≡ x → In x ys
    at [] k lt e = absurd (omega arith)
    at (y ∷ ys) zero lt e = inl (sym e)
    at (y ∷ ys) (suc k) lt e = inr (at ys k (omega arith) e)

-- the list is determined by its four facts
pub IsTheList-unique : (k : ℕ) (xs ys : List Equation) → IsTheList k xs → IsTheList k ys → xs ≡ ys
IsTheList-unique k xs ys a b =
    rising_unique law_cmp law_order xs ys a.rising b.rising
    (λ p h. let c = Contains-from_in p xs h in In-from_contains ys p (b.complete p (All-contains Listed xs p a.sound c) (All-contains (λ q. law_ops q ≤ k) xs p a.small c)))
    (λ p h. let c = Contains-from_in p ys h in In-from_contains xs p (a.complete p (All-contains Listed ys p b.sound c) (All-contains (λ q. law_ops q ≤ k) ys p b.small c)))

pub IsTheList-is : (k : ℕ) (xs : List Equation) → IsTheList k xs → xs ≡ laws_upto k
IsTheList-is k xs h = IsTheList-unique k xs (laws_upto k) h (laws_upto_is k)

-- the list of one operation more goes on after the list
pub laws_upto_more : (k : ℕ) → laws_upto (k + 1) ≡ laws_upto k ++ laws_of (k + 1)
unfolding laws_upto
laws_upto_more k = flat_map_range_more laws_of (k + 1)
