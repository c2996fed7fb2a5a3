-- The two laws of a pair that follows from right facts are listed.
use Rattle.std.proofs.Common.{◌≡◌, ℕ, List, Some, sym, subst}
use Rattle.etp_theory.specs.Trees.{Equation}
use Rattle.etp_theory.specs.LawNumbers.{law_numbered, dual_number}
use Rattle.etp_theory.specs.Reach.{Fact, implies, refutes, Edge, plain_edge, dual_edge, RefutingPair, plain_pair, dual_pair, Reach, itself, along, Covers}
use Rattle.etp_cancel.specs.FiniteFacts.{AreRightFiniteFacts}

module _ (laws : List Equation) (duals : List ℕ) (facts : List Fact) (right : AreRightFiniteFacts laws duals facts) where
  abbrev HasLaw : ℕ → Type 0
  HasLaw n = (p : Equation) × (law_numbered laws n ≡ Some p)

  dual_listed : (n m : ℕ) → m ≡ dual_number duals n → HasLaw n → HasLaw m
  dual_listed n m e l = let d = right.dual_numbers n l.0 l.1 in subst HasLaw (sym e) (d.0, d.1)

  edge_listed : (e f : ℕ) → Edge duals facts e f → HasLaw e × HasLaw f
  edge_listed e f (plain_edge h) = let i = right.each (implies e f) h in ((i.hypothesis, i.hypothesis_listed), (i.goal, i.goal_listed))
  edge_listed e f (dual_edge a b h p q) =
      let i = right.each (implies a b) h in (dual_listed a e p (i.hypothesis, i.hypothesis_listed), dual_listed b f q (i.goal, i.goal_listed))

  pair_listed : (e f : ℕ) → RefutingPair duals facts e f → HasLaw e × HasLaw f
  pair_listed e f (plain_pair hs fs h p q) = let i = right.each (refutes hs fs) h e f p q in ((i.holding, i.holding_listed), (i.failing, i.failing_listed))
  pair_listed e f (dual_pair hs fs a b h p q r s) =
      let i = right.each (refutes hs fs) h a b p q in (dual_listed a e r (i.holding, i.holding_listed), dual_listed b f s (i.failing, i.failing_listed))

  -- what a listed law reaches is listed, and so is what reaches one
  pub end_listed : {e f : ℕ} → Reach duals facts e f → HasLaw e → HasLaw f
  end_listed (itself e) l = l
  end_listed (along {e = e} {f = f} {g = g} d r) l = end_listed r (edge_listed e f d).1

  start_listed : {e f : ℕ} → Reach duals facts e f → HasLaw f → HasLaw e
  start_listed (itself e) l = l
  start_listed (along {e = e} {f = f} {g = g} d r) l = (edge_listed e f d).0

  pub covered_listed : {e f : ℕ} → Covers duals facts e f → HasLaw e × HasLaw f
  covered_listed c = let ends = pair_listed c.holds c.fails c.pair in (end_listed c.before ends.0, start_listed c.after ends.1)
