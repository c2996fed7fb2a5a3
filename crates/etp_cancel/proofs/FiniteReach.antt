-- What is reached over right facts is implied, and what is covered is separated.
use Rattle.std.proofs.Common.{◌≡◌, ℕ, List, Some, sym, ◌∙◌, subst, subst₂}
use Rattle.etp_theory.specs.Trees.{Equation, law_dual}
use Rattle.etp_theory.specs.LawNumbers.{law_numbered, dual_number}
use Rattle.etp_theory.specs.Reach.{Fact, implies, refutes, Edge, plain_edge, dual_edge, RefutingPair, plain_pair, dual_pair, Reach, itself, along, Covers}
use Rattle.etp_theory.proofs.Reaching.{reach_then}
use Rattle.etp_cancel.specs.FiniteMagmas.{FiniteImplies, Separates}
use Rattle.etp_cancel.specs.FiniteFacts.{ImpliesFinitely, SeparatesNumbers, AreRightFiniteFacts}
use Rattle.etp_cancel.proofs.Concluding.{chained, same}
use Rattle.etp_cancel.proofs.Turning.{dualised, dual_separated, apart, moved}

module _ (laws : List Equation) (duals : List ℕ) (facts : List Fact) (right : AreRightFiniteFacts laws duals facts) where
  dual_implies : (a b : ℕ) → ImpliesFinitely laws a b → ImpliesFinitely laws (dual_number duals a) (dual_number duals b)
  dual_implies a b h =
      let x = right.dual_numbers a h.hypothesis h.hypothesis_listed in
      let y = right.dual_numbers b h.goal h.goal_listed in
      let from = (same (law_dual h.hypothesis) x.0 x.2).1 in
      let to = (same (law_dual h.goal) y.0 y.2).0 in
      record {
        hypothesis = x.0;
        goal = y.0;
        hypothesis_listed = x.1;
        goal_listed = y.1;
        implied = chained x.0 (law_dual h.hypothesis) y.0 from (chained (law_dual h.hypothesis) (law_dual h.goal) y.0 (dualised h.hypothesis h.goal h.implied) to);
      }

  dual_separates : (a b : ℕ) → SeparatesNumbers laws a b → SeparatesNumbers laws (dual_number duals a) (dual_number duals b)
  dual_separates a b h =
      let x = right.dual_numbers a h.holding h.holding_listed in
      let y = right.dual_numbers b h.failing h.failing_listed in
      let to = (same (law_dual h.holding) x.0 x.2).0 in
      let from = (same (law_dual h.failing) y.0 y.2).1 in
      record {
        holding = x.0;
        failing = y.0;
        holding_listed = x.1;
        failing_listed = y.1;
        apart = moved x.0 (law_dual h.holding) (law_dual h.failing) y.0 (dual_separated h.holding h.failing h.apart) to from;
      }

  edge_implies : (e f : ℕ) → Edge duals facts e f → ImpliesFinitely laws e f
  edge_implies e f (plain_edge h) = right.each (implies e f) h
  edge_implies e f (dual_edge a b h p q) = subst₂ (ImpliesFinitely laws) (sym p) (sym q) (dual_implies a b (right.each (implies a b) h))

  pair_separates : (e f : ℕ) → RefutingPair duals facts e f → SeparatesNumbers laws e f
  pair_separates e f (plain_pair hs fs h p q) = right.each (refutes hs fs) h e f p q
  pair_separates e f (dual_pair hs fs a b h p q r s) = subst₂ (SeparatesNumbers laws) (sym r) (sym s) (dual_separates a b (right.each (refutes hs fs) h a b p q))

  one_law : (n : ℕ) (p q : Equation) → law_numbered laws n ≡ Some p → law_numbered laws n ≡ Some q → p ≡ q
  one_law n p q h k = let e : Some p ≡ Some q = sym h ∙ k in cc

  pub reached : {e f : ℕ} → Reach duals facts e f → (p q : Equation) → law_numbered laws e ≡ Some p → law_numbered laws f ≡ Some q → FiniteImplies p q
  reached (itself e) p q h k = subst (FiniteImplies p) (one_law e p q h k) (λ n times m i. i)
  reached (along {e = e} {f = f} {g = g} d r) p q h k =
      let i = edge_implies e f d in
      let first = subst (λ z. FiniteImplies z i.goal) (one_law e i.hypothesis p i.hypothesis_listed h) i.implied in
      chained p i.goal q first (reached r i.goal q i.goal_listed k)

  pub covered : {e f : ℕ} → Covers duals facts e f → (p q : Equation) → law_numbered laws e ≡ Some p → law_numbered laws f ≡ Some q → Separates p q
  covered c p q h k =
      let i = pair_separates c.holds c.fails c.pair in
      moved p i.holding i.failing q i.apart (reached c.before i.holding p i.holding_listed h) (reached c.after q i.failing k i.failing_listed)

  pub never_both : {e f : ℕ} → Reach duals facts e f → Covers duals facts e f → ⊥
  never_both r c =
      let i = pair_separates c.holds c.fails c.pair in
      let path = reach_then duals facts c.before (reach_then duals facts r c.after) in
      apart i.holding i.failing (reached path i.holding i.failing i.holding_listed i.failing_listed) i.apart
