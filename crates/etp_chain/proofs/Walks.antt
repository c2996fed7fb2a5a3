-- What gives edges and pairs, walks and distances.
use Rattle.std.proofs.Common.{◌≡◌, ℕ, suc, Bool, true, false, List, Contains, Some, slice_get, refl, sym, ap, ◌∙◌, subst₂, arith}
use Rattle.std.proofs.lemmas.Option.{slice_get_within, get_or_from_slice_get, slice_get-get_or}
use Rattle.etp_theory.specs.Reach.{Fact, implies, refutes, Edge, plain_edge, dual_edge, RefutingPair, plain_pair, dual_pair, Reach, itself, along}
use Rattle.etp_chain.specs.Evidence.{GivesEdge, GivesPair, turn_of, Walk, stays, goes, IsDistance}

-- an item at a place is in the list, and the other way round
pub contains_at : {X : Type 0} (xs : List X) (k : ℕ) (x : X) → slice_get xs k ≡ Some x → Contains xs x
contains_at xs k x h = (k, slice_get_within xs k x h, get_or_from_slice_get xs k x x h)

pub at_contains : {X : Type 0} (xs : List X) (x : X) → Contains xs x → (k : ℕ) × (slice_get xs k ≡ Some x)
at_contains xs x h = (h.0, slice_get-get_or xs h.0 x h.1 ∙ ap Some h.2)

module _ (duals : List ℕ) (facts : List Fact) where
  pub edge_given : (file : ℕ) (dual : Bool) (e f : ℕ) → GivesEdge duals facts file dual e f → Edge duals facts e f
  edge_given file false e f g =
      let P : ℕ → ℕ → Type 0 = Edge duals facts in
      subst₂ P (sym g.from) (sym g.to) (plain_edge (contains_at facts file _ g.said))
  edge_given file true e f g = dual_edge g.hypothesis g.goal (contains_at facts file _ g.said) g.from g.to

  pub edge_giver : (e f : ℕ) → Edge duals facts e f → (file : ℕ) × (dual : Bool) × GivesEdge duals facts file dual e f
  edge_giver e f (plain_edge h) =
      let at = at_contains facts (implies e f) h in
      (at.0, false, record { hypothesis = e; goal = f; said = at.1; from = refl; to = refl })
  edge_giver e f (dual_edge a b h p q) =
      let at = at_contains facts (implies a b) h in
      (at.0, true, record { hypothesis = a; goal = b; said = at.1; from = p; to = q })

  pub pair_given : (file : ℕ) (dual : Bool) (e f : ℕ) → GivesPair duals facts file dual e f → RefutingPair duals facts e f
  pair_given file false e f g =
      let P : ℕ → ℕ → Type 0 = RefutingPair duals facts in
      subst₂ P (sym g.from) (sym g.to) (plain_pair g.all_holds g.all_fails (contains_at facts file _ g.said) g.hold_in g.fail_in)
  pair_given file true e f g =
      dual_pair g.all_holds g.all_fails g.hold g.fail (contains_at facts file _ g.said) g.hold_in g.fail_in g.from g.to

  pub pair_giver : (e f : ℕ) → RefutingPair duals facts e f → (file : ℕ) × (dual : Bool) × GivesPair duals facts file dual e f
  pair_giver e f (plain_pair hs fs h p q) =
      let at = at_contains facts (refutes hs fs) h in
      (at.0, false, record { all_holds = hs; all_fails = fs; said = at.1; hold = e; fail = f; hold_in = p; fail_in = q; from = refl; to = refl })
  pair_giver e f (dual_pair hs fs a b h p q r s) =
      let at = at_contains facts (refutes hs fs) h in
      (at.0, true, record { all_holds = hs; all_fails = fs; said = at.1; hold = a; fail = b; hold_in = p; fail_in = q; from = r; to = s })

  pub walk_reaches : (n e f : ℕ) → Walk duals facts n e f → Reach duals facts e f
  walk_reaches n e f (stays x) = itself x
  walk_reaches n e f (goes d w) = along d (walk_reaches _ _ f w)

  pub reach_walks : (e f : ℕ) → Reach duals facts e f → (n : ℕ) × Walk duals facts n e f
  reach_walks e f (itself x) = (0, stays x)
  reach_walks e f (along d r) = let w = reach_walks _ f r in (suc w.0, goes d w.1)

  pub one_distance : (e f n m : ℕ) → IsDistance duals facts e f n → IsDistance duals facts e f m → n ≡ m
  one_distance e f n m d c = omega (arith, d.least m c.walk, c.least n d.walk)

-- one turn tells the file and whether it is its dual
pub one_turn : (file other : ℕ) (dual turned : Bool) → turn_of file dual ≡ turn_of other turned → (file ≡ other) × (dual ≡ turned)
one_turn file other true true h = (omega (arith, h), refl)
one_turn file other false false h = (omega (arith, h), refl)
one_turn file other true false h = absurd (omega (arith, h))
one_turn file other false true h = absurd (omega (arith, h))
