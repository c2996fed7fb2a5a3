-- The best edge to a law that is nearer, among those from one law, from the last one on.
use Rattle.std.proofs.Common.{◌≡◌, ℕ, suc, ◌-◌, ◌<◌, ◌≤◌, List, Option, Some, None, IfSome, MatchOption, get_or, length, sym, ap, subst, arith, ◌⊎◌, inl, inr}
use Rattle.std.proofs.lemmas.Bool.{cases_order}
use Rattle.etp_chain.specs.Edges.{IsLast}
use Rattle.etp_chain.specs.Searches.{IsNearer, IsBest}

-- the best place at or after a place
pub record IsBestFrom (from to found : List ℕ) (law last place : ℕ) : Type 0 where
  pub after : last ≤ place
  pub within : place < length from
  pub begins : get_or from place 0 ≡ law
  pub nearer : IsNearer found law (get_or to place 0)
  pub least : (other : ℕ) → last ≤ other → other < length from → get_or from other 0 ≡ law → IsNearer found law (get_or to other 0)
      → (get_or to place 0 < get_or to other 0) ⊎ ((get_or to place 0 ≡ get_or to other 0) × (place ≤ other))

abbrev pub NoneFrom : List ℕ → List ℕ → List ℕ → ℕ → ℕ → Type 0
NoneFrom from to found law last = (other : ℕ) → last ≤ other → other < length from → get_or from other 0 ≡ law → ¬ IsNearer found law (get_or to other 0)

abbrev pub BestFrom : List ℕ → List ℕ → List ℕ → ℕ → ℕ → Option ℕ → Type 0
BestFrom from to found law last best = MatchOption best (NoneFrom from to found law last) (IsBestFrom from to found law last)

pub record Looking (from to found : List ℕ) (law last : ℕ) (best : Option ℕ) : Type 0 where
  pub within : last ≤ length from
  pub stands : (place : ℕ) → suc place ≡ last → get_or from place 0 ≡ law
  pub best_is : BestFrom from to found law last best
  pub best_in : IfSome best (λ place. place < length to)

module _ (from to found : List ℕ) (law last before : ℕ) where
  -- an edge from the law that doesn't lead nearer, or to a law above the best one
  none_less : NoneFrom from to found law last → IsLast from law (last - 1) before → ¬ IsNearer found law (get_or to (last - 1) 0)
      → NoneFrom from to found law before
  none_less h b not other above below here near =
      elim (cases_order other (last - 1)) [
        | inl same ↦ let P : ℕ → Type 0 = λ x. IsNearer found law (get_or to x 0) in not (subst P same near)
        | inr (inl lower) ↦ b.no_later other above lower here
        | inr (inr higher) ↦ h other (omega (arith, higher)) below here near
      ]

  best_less : (place : ℕ) → IsBestFrom from to found law last place → IsLast from law (last - 1) before
      → (IsNearer found law (get_or to (last - 1) 0) → get_or to place 0 < get_or to (last - 1) 0)
      → IsBestFrom from to found law before place
  best_less place h b above = record {
    after = omega (arith, h.after, b.within);
    within = h.within;
    begins = h.begins;
    nearer = h.nearer;
    least = λ other from_before below here near.
        elim (cases_order other (last - 1)) [
          | inl same ↦
              let P : ℕ → Type 0 = λ x. IsNearer found law (get_or to x 0) in
              let Q : ℕ → Type 0 = λ x. get_or to place 0 < get_or to x 0 in
              inl (subst Q (sym same) (above (subst P same near)))
          | inr (inl lower) ↦ absurd (b.no_later other from_before lower here)
          | inr (inr higher) ↦ h.least other (omega (arith, higher)) below here near
        ];
  }

  -- an edge that leads nearer, to a law at most the best one
  best_now : (h : (other : ℕ) → last ≤ other → other < length from → get_or from other 0 ≡ law → IsNearer found law (get_or to other 0)
      → get_or to (last - 1) 0 ≤ get_or to other 0)
      → 0 < last → last ≤ length from → get_or from (last - 1) 0 ≡ law → IsLast from law (last - 1) before
      → IsNearer found law (get_or to (last - 1) 0) → IsBestFrom from to found law before (last - 1)
  best_now h some within stands b near = record {
    after = b.within;
    within = omega (arith, some, within);
    begins = stands;
    nearer = near;
    least = λ other from_before below here near_other.
        elim (cases_order other (last - 1)) [
          | inl same ↦ inr (ap (λ x. get_or to x 0) (sym same), omega (arith, same))
          | inr (inl lower) ↦ absurd (b.no_later other from_before lower here)
          | inr (inr higher) ↦
              let at_most = h other (omega (arith, higher)) below here near_other in
              elim (cases_order (get_or to (last - 1) 0) (get_or to other 0)) [
                | inl same ↦ inr (same, omega (arith, higher))
                | inr (inl less) ↦ inl less
                | inr (inr more) ↦ absurd (omega (arith, more, at_most))
              ]
        ];
  }

  pub looks_past : (best : Option ℕ) → Looking from to found law last best → IsLast from law (last - 1) before
      → (IsNearer found law (get_or to (last - 1) 0) → IfSome best (λ place. get_or to (last - 1) 0 ≤ get_or to place 0) → ⊥)
      → Looking from to found law before best
  looks_past None h b not = record {
    within = omega (arith, b.within, h.within);
    stands = b.stands;
    best_is = none_less h.best_is b (λ near. not near tt);
    best_in = h.best_in;
  }
  looks_past (Some place) h b not = record {
    within = omega (arith, b.within, h.within);
    stands = b.stands;
    best_is = best_less place h.best_is b (λ near.
        elim (cases_order (get_or to place 0) (get_or to (last - 1) 0)) [
          | inl same ↦ absurd (not near (omega (arith, same)))
          | inr (inl less) ↦ less
          | inr (inr more) ↦ absurd (not near (omega (arith, more)))
        ]);
    best_in = h.best_in;
  }

  pub looks_at : (best : Option ℕ) → Looking from to found law last best → 0 < last → length to ≡ length from → IsLast from law (last - 1) before
      → IsNearer found law (get_or to (last - 1) 0) → IfSome best (λ place. get_or to (last - 1) 0 ≤ get_or to place 0)
      → Looking from to found law before (Some (last - 1))
  looks_at None h some same b near at_most = record {
    within = omega (arith, b.within, h.within);
    stands = b.stands;
    best_is = best_now (λ other above below here near_other. absurd (h.best_is other above below here near_other)) some h.within (h.stands (last - 1) (omega (arith, some))) b near;
    best_in = omega (arith, some, same, h.within);
  }
  looks_at (Some place) h some same b near at_most = record {
    within = omega (arith, b.within, h.within);
    stands = b.stands;
    best_is = best_now (λ other above below here near_other. elim (h.best_is.least other above below here near_other) [
      | inl less ↦ omega (arith, less, at_most)
      | inr (is, _) ↦ omega (arith, is, at_most)
    ]) some h.within (h.stands (last - 1) (omega (arith, some))) b near;
    best_in = omega (arith, some, same, h.within);
  }

-- all edges were looked at
pub looked_at_all : (from to found : List ℕ) (law : ℕ) (best : Option ℕ) → Looking from to found law 0 best
    → MatchOption best ((place : ℕ) → place < length from → get_or from place 0 ≡ law → ¬ IsNearer found law (get_or to place 0)) (IsBest from to found law)
looked_at_all from to found law None h = λ place below here. h.best_is place (omega arith) below here
looked_at_all from to found law (Some place) h = record {
  within = h.best_is.within;
  begins = h.best_is.begins;
  nearer = h.best_is.nearer;
  least = λ other below here near. h.best_is.least other (omega arith) below here near;
}
