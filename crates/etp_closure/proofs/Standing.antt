-- For which lists of facts a closure stands after each addition.
use Rattle.std.proofs.Common.{◌≡◌, ℕ, List, [], ◌∷◌, ◌++◌, Contains, All, IsTrue, Bool, false, nat_eq, arith, ◌&&◌, ◌||◌, sym, ◌∙◌, subst, inl, inr, ◌↔◌}
use Rattle.std.specs.List.{list_any}
use Rattle.std.proofs.lemmas.Bool.{eqb-true, eq-eqb}
use Rattle.etp_theory.specs.LawNumbers.{dual_number}
use Rattle.etp_theory.specs.Reach.{Fact, implies, refutes, RefutingPair, Reach, itself, Covers}
use Rattle.etp_closure.specs.Closures.{Known, IsKept, HasKeptLaws, is_reached, is_covered, StandsFor}
use Rattle.etp_closure.specs.Tables.{Links}
use Rattle.etp_closure.proofs.Relations.{Agrees, Joined, Spread, Widened, joined_preorder, joined_agrees, joined_spread, widened_spread}
use Rattle.etp_closure.proofs.Additions.{either, reach_preorder, reach_kept, reach_either, reach_from, pair_before, pair_kept, earlier, reach_before, pair_either, pair_from, spread_covers, covers_spread, reach_none, pair_none}

pub reached_agrees : {known : Known} {facts : List Fact} → StandsFor known facts → Agrees (is_reached known) (Reach known.duals facts)
reached_agrees stands = record {
  sound = λ {x} {y} h. (stands.reached x y).0 h;
  complete = λ {x} {y} p. (stands.reached x y).1 p;
}

pub covered_agrees : {known : Known} {facts : List Fact} → StandsFor known facts
    → Agrees (is_covered known) (Spread (RefutingPair known.duals facts) (Reach known.duals facts))
covered_agrees stands = record {
  sound = λ {x} {y} h. covers_spread ((stands.covered x y).0 h);
  complete = λ {x} {y} p. (stands.covered x y).1 (spread_covers p);
}

kept_too : (slots : List ℕ) (facts : List Fact) (fact : Fact) → ((f : Fact) → Contains facts f → HasKeptLaws slots f) → HasKeptLaws slots fact
    → (f : Fact) → Contains (facts ++ fact ∷ []) f → HasKeptLaws slots f
kept_too slots facts fact all one f among =
    elim (either facts fact f among) [ inl old ↦ all f old | inr new ↦ subst (HasKeptLaws slots) new one ]

-- after the edge and the dual edge of an implication
pub stands_implied : (old new : Known) (facts : List Fact) (a b : ℕ) (r c : ℕ → ℕ → Bool)
    → new.duals ≡ old.duals → new.slots ≡ old.slots → IsKept old.slots a → IsKept old.slots b
    → Links (is_reached old) (is_covered old) r c a b
    → Links r c (is_reached new) (is_covered new) (dual_number old.duals a) (dual_number old.duals b)
    → StandsFor old facts → StandsFor new (facts ++ implies a b ∷ [])
stands_implied old new facts a b r c same_duals same_slots kept_a kept_b plain dual stands =
    let order = reach_preorder old.duals facts in
    let R = Reach old.duals facts in
    let P = RefutingPair old.duals facts in
    let order_more = joined_preorder R a b order in
    let da = dual_number old.duals a in
    let db = dual_number old.duals b in
    let order_most = joined_preorder (Joined R a b) da db order_more in
    let reached = reached_agrees stands in
    let covered = covered_agrees stands in
    let reached_more = joined_agrees R (is_reached old) (is_covered old) r c a b order reached plain in
    let covered_more = joined_spread P R (is_reached old) (is_covered old) r c a b order reached covered plain in
    let reached_most = joined_agrees (Joined R a b) r c (is_reached new) (is_covered new) da db order_more reached_more dual in
    let covered_most = joined_spread P (Joined R a b) r c (is_reached new) (is_covered new) da db order_more reached_more covered_more dual in
    record {
      kept = subst (λ (slots : List ℕ). (f : Fact) → Contains (facts ++ implies a b ∷ []) f → HasKeptLaws slots f) (sym same_slots)
          (kept_too old.slots facts (implies a b) stands.kept (kept_a, kept_b));
      reached = subst (λ (duals : List ℕ). (x y : ℕ) → IsTrue (is_reached new x y) ↔ Reach duals (facts ++ implies a b ∷ []) x y) (sym same_duals)
          (λ x y. (λ h. reach_from a b (reached_most.sound h), λ p. reached_most.complete (reach_either a b order_most p)));
      covered = subst (λ (duals : List ℕ). (x y : ℕ) → IsTrue (is_covered new x y) ↔ Covers duals (facts ++ implies a b ∷ []) x y) (sym same_duals)
          (λ x y. (
            (λ h. let s = covered_most.sound h in
                record { holds = s.first; fails = s.second; pair = pair_kept (λ f among. earlier facts (implies a b) f among) s.pair; before = reach_from a b s.before; after = reach_from a b s.after }),
            (λ v. covered_most.complete (record { first = v.holds; second = v.fails; pair = pair_before a b v.pair; before = reach_either a b order_most v.before; after = reach_either a b order_most v.after })),
          ));
    }

-- after the pairs of a refutation and the pairs of their duals
pub stands_refuted : (old new : Known) (facts : List Fact) (holds fails : List ℕ) (c : ℕ → ℕ → Bool)
    → new.duals ≡ old.duals → new.slots ≡ old.slots → All (IsKept old.slots) holds → All (IsKept old.slots) fails
    → ((x y : ℕ) → is_reached new x y ≡ is_reached old x y)
    → ((x y : ℕ) → c x y ≡ (is_covered old x y || (list_any (λ law. is_reached old law x) holds && list_any (λ law. is_reached old y law) fails)))
    → ((x y : ℕ) → is_covered new x y ≡ (c x y || (list_any (λ law. is_reached old (dual_number old.duals law) x) holds && list_any (λ law. is_reached old y (dual_number old.duals law)) fails)))
    → StandsFor old facts → StandsFor new (facts ++ refutes holds fails ∷ [])
stands_refuted old new facts holds fails c same_duals same_slots kept_holds kept_fails same_r plain dual stands =
    let R = Reach old.duals facts in
    let P = RefutingPair old.duals facts in
    let reached = reached_agrees stands in
    let covered = covered_agrees stands in
    let covered_more = widened_spread P R (is_reached old) (is_covered old) c (λ law. law) holds fails reached covered plain in
    let covered_most = widened_spread (Widened P (λ law. law) holds fails) R (is_reached old) c (is_covered new) (dual_number old.duals) holds fails reached covered_more dual in
    let more = λ (f : Fact) (among : Contains facts f). earlier facts (refutes holds fails) f among in
    record {
      kept = subst (λ (slots : List ℕ). (f : Fact) → Contains (facts ++ refutes holds fails ∷ []) f → HasKeptLaws slots f) (sym same_slots)
          (kept_too old.slots facts (refutes holds fails) stands.kept (kept_holds, kept_fails));
      reached = subst (λ (duals : List ℕ). (x y : ℕ) → IsTrue (is_reached new x y) ↔ Reach duals (facts ++ refutes holds fails ∷ []) x y) (sym same_duals)
          (λ x y. ((λ h. reach_kept more ((stands.reached x y).0 (sym (same_r x y) ∙ h))), (λ p. same_r x y ∙ (stands.reached x y).1 (reach_before holds fails p))));
      covered = subst (λ (duals : List ℕ). (x y : ℕ) → IsTrue (is_covered new x y) ↔ Covers duals (facts ++ refutes holds fails ∷ []) x y) (sym same_duals)
          (λ x y. (
            (λ h. let s = covered_most.sound h in
                record { holds = s.first; fails = s.second; pair = pair_from holds fails s.pair; before = reach_kept more s.before; after = reach_kept more s.after }),
            (λ v. covered_most.complete (record { first = v.holds; second = v.fails; pair = pair_either holds fails v.pair; before = reach_before holds fails v.before; after = reach_before holds fails v.after })),
          ));
    }

-- with other slots, and the same answers
pub stands_same : (old new : Known) (facts : List Fact) → new.duals ≡ old.duals
    → ((law : ℕ) → IsKept old.slots law → IsKept new.slots law)
    → ((x y : ℕ) → is_reached new x y ≡ is_reached old x y) → ((x y : ℕ) → is_covered new x y ≡ is_covered old x y)
    → StandsFor old facts → StandsFor new facts
stands_same old new facts same_duals keeps same_r same_c stands = record {
  kept = λ fact among. has_kept fact (stands.kept fact among);
  reached = subst (λ (duals : List ℕ). (x y : ℕ) → IsTrue (is_reached new x y) ↔ Reach duals facts x y) (sym same_duals)
      (λ x y. ((λ h. (stands.reached x y).0 (sym (same_r x y) ∙ h)), (λ p. same_r x y ∙ (stands.reached x y).1 p)));
  covered = subst (λ (duals : List ℕ). (x y : ℕ) → IsTrue (is_covered new x y) ↔ Covers duals facts x y) (sym same_duals)
      (λ x y. ((λ h. (stands.covered x y).0 (sym (same_c x y) ∙ h)), (λ p. same_c x y ∙ (stands.covered x y).1 p)));
}
  where
    has_kept : (fact : Fact) → HasKeptLaws old.slots fact → HasKeptLaws new.slots fact
    has_kept (implies e f) h = (keeps e h.0, keeps f h.1)
    has_kept (refutes holds fails) h = ((λ k d within. keeps _ (h.0 k d within)), (λ k d within. keeps _ (h.1 k d within)))

-- no facts: each law is reached from itself alone, and no pair is covered
pub stands_empty : (known : Known) → ((x y : ℕ) → is_reached known x y ≡ nat_eq x y) → ((x y : ℕ) → is_covered known x y ≡ false)
    → StandsFor known []
stands_empty known reached covered = record {
  kept = λ fact among. absurd (omega (arith, among.1));
  reached = λ x y. ((λ h. subst (Reach known.duals [] x) (eqb-true x y (sym (reached x y) ∙ h)) (itself x)), (λ p. reached x y ∙ eq-eqb x y (reach_none p)));
  covered = λ x y. ((λ h. (cc (covered x y, h))), (λ v. absurd (pair_none v.pair)));
}
