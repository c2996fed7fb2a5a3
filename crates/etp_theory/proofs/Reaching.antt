-- Reach and cover over a list of facts.
use Rattle.std.proofs.lemmas.List.Elements.{Contains-append_left, Contains-append_cases, Contains-push, Contains-push_cases}
use Rattle.std.proofs.Common.{arith, ◌≡◌, ℕ, ◌⊎◌, inl, inr, List, [], ◌∷◌, ◌++◌, Contains, Some, refl, sym, ap, ◌∙◌, subst, subst₂}
use Rattle.etp_theory.specs.Trees.{Equation, law_dual}
use Rattle.etp_theory.specs.Derivations.{Derives}
use Rattle.etp_theory.specs.Reach.{Fact, implies, refutes, Edge, plain_edge, dual_edge, RefutingPair, plain_pair, dual_pair, Reach, itself, along, Covers}
use Rattle.etp_theory.specs.LawNumbers.{law_numbered, dual_number}
use Rattle.etp_theory.specs.RightFacts.{Implies, Refutes, AreRightFacts}
use Rattle.etp_theory.proofs.Derivations.{derives_itself, chained, dualised, undualised}
use Rattle.etp_theory.proofs.Sameness.{same_derives}

module _ (duals : List ℕ) (facts : List Fact) where
  -- one path after another
  pub reach_then : {e f g : ℕ} → Reach duals facts e f → Reach duals facts f g → Reach duals facts e g
  reach_then (itself e) s = s
  reach_then (along d r) s = along d (reach_then r s)

  pub reach_edge : {e f : ℕ} → Edge duals facts e f → Reach duals facts e f
  reach_edge d = along d (itself _)

  -- what is covered stays so where the first law is implied by one, and the second implies one
  pub covers_wider : {d e f g : ℕ} → Covers duals facts e f → Reach duals facts e d → Reach duals facts g f → Covers duals facts d g
  covers_wider c r s = record { holds = c.holds; fails = c.fails; pair = c.pair; before = reach_then c.before r; after = reach_then s c.after }

module _ (duals : List ℕ) (facts more : List Fact) (wider : (x : Fact) → Contains facts x → Contains more x) where
  -- more facts give more edges, pairs, paths and covers
  pub edge_more : {e f : ℕ} → Edge duals facts e f → Edge duals more e f
  edge_more (plain_edge h) = plain_edge (wider _ h)
  edge_more (dual_edge a b h p q) = dual_edge a b (wider _ h) p q

  pub pair_more : {e f : ℕ} → RefutingPair duals facts e f → RefutingPair duals more e f
  pair_more (plain_pair hs fs h p q) = plain_pair hs fs (wider _ h) p q
  pair_more (dual_pair hs fs a b h p q r s) = dual_pair hs fs a b (wider _ h) p q r s

  pub reach_more : {e f : ℕ} → Reach duals facts e f → Reach duals more e f
  reach_more (itself e) = itself e
  reach_more (along d r) = along (edge_more d) (reach_more r)

  pub covers_more : {e f : ℕ} → Covers duals facts e f → Covers duals more e f
  covers_more c = record { holds = c.holds; fails = c.fails; pair = pair_more c.pair; before = reach_more c.before; after = reach_more c.after }

module _ (laws : List Equation) (duals : List ℕ) (facts : List Fact) (right : AreRightFacts laws duals facts) where
  -- the law of a dual number derives what the dual derives, and is derived by what derives the dual
  dual_implies : (a b : ℕ) → Implies laws a b → Implies laws (dual_number duals a) (dual_number duals b)
  dual_implies a b h =
      let x = right.dual_numbers a h.hypothesis h.hypothesis_listed in
      let y = right.dual_numbers b h.goal h.goal_listed in
      let from = (same_derives (law_dual h.hypothesis) x.0 x.2).1 in
      let to = (same_derives (law_dual h.goal) y.0 y.2).0 in
      record {
        hypothesis = x.0;
        goal = y.0;
        hypothesis_listed = x.1;
        goal_listed = y.1;
        derived = chained x.0 (law_dual h.hypothesis) from (chained (law_dual h.hypothesis) (law_dual h.goal) (dualised h.hypothesis h.derived) to);
      }

  dual_refutes : (a b : ℕ) → Refutes laws a b → Refutes laws (dual_number duals a) (dual_number duals b)
  dual_refutes a b h =
      let x = right.dual_numbers a h.holding h.holding_listed in
      let y = right.dual_numbers b h.failing h.failing_listed in
      let from = (same_derives (law_dual h.holding) x.0 x.2).0 in
      let to = (same_derives (law_dual h.failing) y.0 y.2).1 in
      record {
        holding = x.0;
        failing = y.0;
        holding_listed = x.1;
        failing_listed = y.1;
        apart = λ d. h.apart (undualised h.holding h.failing (chained (law_dual h.holding) x.0 from (chained x.0 y.0 d to)));
      }

  edge_implies : (e f : ℕ) → Edge duals facts e f → Implies laws e f
  edge_implies e f (plain_edge h) = right.each (implies e f) h
  edge_implies e f (dual_edge a b h p q) = subst₂ (Implies laws) (sym p) (sym q) (dual_implies a b (right.each (implies a b) h))

  pair_refutes : (e f : ℕ) → RefutingPair duals facts e f → Refutes laws e f
  pair_refutes e f (plain_pair hs fs h p q) = right.each (refutes hs fs) h e f p q
  pair_refutes e f (dual_pair hs fs a b h p q r s) = subst₂ (Refutes laws) (sym r) (sym s) (dual_refutes a b (right.each (refutes hs fs) h a b p q))

  one_law : (n : ℕ) (p q : Equation) → law_numbered laws n ≡ Some p → law_numbered laws n ≡ Some q → p ≡ q
  one_law n p q h k = let e : Some p ≡ Some q = sym h ∙ k in cc

  pub reach_derives : {e f : ℕ} → Reach duals facts e f → (p q : Equation) → law_numbered laws e ≡ Some p → law_numbered laws f ≡ Some q → Derives p q
  reach_derives (itself e) p q h k = subst (Derives p) (one_law e p q h k) (derives_itself p)
  reach_derives (along {e = e} {f = f} {g = g} d r) p q h k =
      let i = edge_implies e f d in
      let first = subst (λ z. Derives z i.goal) (one_law e i.hypothesis p i.hypothesis_listed h) i.derived in
      chained p i.goal first (reach_derives r i.goal q i.goal_listed k)

  pub covered_apart : {e f : ℕ} → Covers duals facts e f → (p q : Equation) → law_numbered laws e ≡ Some p → law_numbered laws f ≡ Some q → Derives p q → ⊥
  covered_apart {e} {f} c p q h k d =
      let i = pair_refutes c.holds c.fails c.pair in
      let before = reach_derives c.before i.holding p i.holding_listed h in
      let after = reach_derives c.after q i.failing k i.failing_listed in
      i.apart (chained i.holding p before (chained p q d after))

  pub never_both : {e f : ℕ} → Reach duals facts e f → Covers duals facts e f → ⊥
  never_both r c =
      let i = pair_refutes c.holds c.fails c.pair in
      let path = reach_then duals facts c.before (reach_then duals facts r c.after) in
      i.apart (reach_derives path i.holding i.failing i.holding_listed i.failing_listed)

-- the edges and the pairs of two lists of facts are those of the one and those of the other
module _ (duals : List ℕ) (xs ys : List Fact) where
  pub edge_either : {e f : ℕ} → Edge duals (xs ++ ys) e f → Edge duals xs e f ⊎ Edge duals ys e f
  edge_either (plain_edge {e = e} {f = f} h) = go (Contains-append_cases xs ys (implies e f) h)
    where
      go : Contains xs (implies e f) ⊎ Contains ys (implies e f) → Edge duals xs e f ⊎ Edge duals ys e f
      go (inl k) = inl (plain_edge k)
      go (inr k) = inr (plain_edge k)
  edge_either (dual_edge {e = e} {f = f} a b h p q) = go (Contains-append_cases xs ys (implies a b) h)
    where
      go : Contains xs (implies a b) ⊎ Contains ys (implies a b) → Edge duals xs e f ⊎ Edge duals ys e f
      go (inl k) = inl (dual_edge a b k p q)
      go (inr k) = inr (dual_edge a b k p q)

  pub pair_either : {e f : ℕ} → RefutingPair duals (xs ++ ys) e f → RefutingPair duals xs e f ⊎ RefutingPair duals ys e f
  pair_either (plain_pair {e = e} {f = f} hs fs h p q) = go (Contains-append_cases xs ys (refutes hs fs) h)
    where
      go : Contains xs (refutes hs fs) ⊎ Contains ys (refutes hs fs) → RefutingPair duals xs e f ⊎ RefutingPair duals ys e f
      go (inl k) = inl (plain_pair hs fs k p q)
      go (inr k) = inr (plain_pair hs fs k p q)
  pair_either (dual_pair {e = e} {f = f} hs fs a b h p q r s) = go (Contains-append_cases xs ys (refutes hs fs) h)
    where
      go : Contains xs (refutes hs fs) ⊎ Contains ys (refutes hs fs) → RefutingPair duals xs e f ⊎ RefutingPair duals ys e f
      go (inl k) = inl (dual_pair hs fs a b k p q r s)
      go (inr k) = inr (dual_pair hs fs a b k p q r s)

-- a path along edges of any kind
pub data Path (edges : ℕ → ℕ → Type 0) : ℕ → ℕ → Type 0 where
  no_edge : (e : ℕ) → Path edges e e
  one_more : {e f g : ℕ} → edges e f → Path edges f g → Path edges e g

-- with one edge more
abbrev pub WithEdge : (ℕ → ℕ → Type 0) → ℕ → ℕ → ℕ → ℕ → Type 0
WithEdge edges a b e f = edges e f ⊎ ((e ≡ a) × (f ≡ b))

-- a way, or a way to the new edge and a way from it
abbrev pub Joined : (ℕ → ℕ → Type 0) → ℕ → ℕ → ℕ → ℕ → Type 0
Joined ways a b e f = ways e f ⊎ (ways e a × ways b f)

pub path_wider : {edges more : ℕ → ℕ → Type 0} → ((e f : ℕ) → edges e f → more e f) → {e f : ℕ} → Path edges e f → Path more e f
path_wider h (no_edge e) = no_edge e
path_wider h (one_more d r) = one_more (h _ _ d) (path_wider h r)

pub path_then : {edges : ℕ → ℕ → Type 0} {e f g : ℕ} → Path edges e f → Path edges f g → Path edges e g
path_then (no_edge e) s = s
path_then (one_more d r) s = one_more d (path_then r s)

module _ (edges : ℕ → ℕ → Type 0) (a b : ℕ) where
  -- no path needs the new edge twice
  pub path_split : {e f : ℕ} → Path (WithEdge edges a b) e f → Joined (Path edges) a b e f
  path_split (no_edge e) = inl (no_edge e)
  path_split (one_more {e = e} {f = f} {g = g} (inl d) r) = go (path_split r)
    where
      go : Joined (Path edges) a b f g → Joined (Path edges) a b e g
      go (inl p) = inl (one_more d p)
      go (inr p) = inr (one_more d p.0, p.1)
  path_split (one_more {e = e} {f = f} {g = g} (inr q) r) = go (path_split r)
    where
      here : Path edges e a
      here = subst (Path edges e) q.0 (no_edge e)

      go : Joined (Path edges) a b f g → Joined (Path edges) a b e g
      go (inl p) = inr (here, subst (λ z. Path edges z g) q.1 p)
      go (inr p) = inr (here, p.1)

  pub path_joined : {e f : ℕ} → Joined (Path edges) a b e f → Path (WithEdge edges a b) e f
  path_joined (inl p) = path_wider (λ e f d. inl d) p
  path_joined (inr p) = path_then (path_wider (λ e f d. inl d) p.0) (one_more (inr (refl, refl)) (path_wider (λ e f d. inl d) p.1))

pub path_of_reach : (duals : List ℕ) (facts : List Fact) {e f : ℕ} → Reach duals facts e f → Path (Edge duals facts) e f
path_of_reach duals facts (itself e) = no_edge e
path_of_reach duals facts (along d r) = one_more d (path_of_reach duals facts r)

pub reach_of_path : (duals : List ℕ) (facts : List Fact) {e f : ℕ} → Path (Edge duals facts) e f → Reach duals facts e f
reach_of_path duals facts (no_edge e) = itself e
reach_of_path duals facts (one_more d r) = along d (reach_of_path duals facts r)

implies_eq : {a b e f : ℕ} → implies a b ≡ implies e f → (e ≡ a) × (f ≡ b)
implies_eq h = (let q : _ ≡ _ = cc in q, let q : _ ≡ _ = cc in q)

module _ (duals : List ℕ) (facts : List Fact) (a b : ℕ) where
  -- the edges of one more implication: its own and its dual's
  pub edge_split : {e f : ℕ} → Edge duals (facts ++ (implies a b ∷ [])) e f → WithEdge (WithEdge (Edge duals facts) a b) (dual_number duals a) (dual_number duals b) e f
  edge_split (plain_edge {e = e} {f = f} h) = go (Contains-push_cases facts (implies a b) (implies e f) h)
    where
      go : Contains facts (implies e f) ⊎ (implies a b ≡ implies e f) → WithEdge (WithEdge (Edge duals facts) a b) (dual_number duals a) (dual_number duals b) e f
      go (inl k) = inl (inl (plain_edge k))
      go (inr k) = inl (inr (implies_eq k))
  edge_split (dual_edge {e = e} {f = f} c d h p q) = go (Contains-push_cases facts (implies a b) (implies c d) h)
    where
      go : Contains facts (implies c d) ⊎ (implies a b ≡ implies c d) → WithEdge (WithEdge (Edge duals facts) a b) (dual_number duals a) (dual_number duals b) e f
      go (inl k) = inl (inl (dual_edge c d k p q))
      go (inr k) = let z = implies_eq k in inr (p ∙ ap (dual_number duals) z.0, q ∙ ap (dual_number duals) z.1)

  pub edge_joined : {e f : ℕ} → WithEdge (WithEdge (Edge duals facts) a b) (dual_number duals a) (dual_number duals b) e f → Edge duals (facts ++ (implies a b ∷ [])) e f
  edge_joined (inl (inl d)) = edge_more duals facts (facts ++ (implies a b ∷ [])) (λ x. Contains-append_left facts (implies a b ∷ []) x) d
  edge_joined {e} {f} (inl (inr q)) = subst₂ (Edge duals (facts ++ (implies a b ∷ []))) (sym q.0) (sym q.1) (plain_edge (Contains-push facts (implies a b)))
  edge_joined {e} {f} (inr q) = dual_edge a b (Contains-push facts (implies a b)) q.0 q.1

  -- one more implication joins along its own edge, and then along its dual's
  pub reach_split : {e f : ℕ} → Reach duals (facts ++ (implies a b ∷ [])) e f → Joined (Joined (Reach duals facts) a b) (dual_number duals a) (dual_number duals b) e f
  reach_split r = outer (path_split _ (dual_number duals a) (dual_number duals b) (path_wider (λ e f d. edge_split d) (path_of_reach duals (facts ++ (implies a b ∷ [])) r)))
    where
      inner : {e f : ℕ} → Path (WithEdge (Edge duals facts) a b) e f → Joined (Reach duals facts) a b e f
      inner p = elim (path_split (Edge duals facts) a b p) [ inl q ↦ inl (reach_of_path duals facts q) | inr q ↦ inr (reach_of_path duals facts q.0, reach_of_path duals facts q.1) ]

      outer : {e f : ℕ} → Joined (Path (WithEdge (Edge duals facts) a b)) (dual_number duals a) (dual_number duals b) e f → Joined (Joined (Reach duals facts) a b) (dual_number duals a) (dual_number duals b) e f
      outer (inl p) = inl (inner p)
      outer (inr p) = inr (inner p.0, inner p.1)

  pub reach_joined : {e f : ℕ} → Joined (Joined (Reach duals facts) a b) (dual_number duals a) (dual_number duals b) e f → Reach duals (facts ++ (implies a b ∷ [])) e f
  reach_joined j = whole j
    where
      kept : {e f : ℕ} → Reach duals facts e f → Reach duals (facts ++ (implies a b ∷ [])) e f
      kept r = reach_more duals facts (facts ++ (implies a b ∷ [])) (λ x. Contains-append_left facts (implies a b ∷ []) x) r

      inner : {e f : ℕ} → Joined (Reach duals facts) a b e f → Reach duals (facts ++ (implies a b ∷ [])) e f
      inner (inl r) = kept r
      inner (inr r) = reach_then duals _ (kept r.0) (along (edge_joined (inl (inr (refl, refl)))) (kept r.1))

      whole : {e f : ℕ} → Joined (Joined (Reach duals facts) a b) (dual_number duals a) (dual_number duals b) e f → Reach duals (facts ++ (implies a b ∷ [])) e f
      whole (inl k) = inner k
      whole (inr k) = reach_then duals _ (inner k.0) (along (edge_joined (inr (refl, refl))) (inner k.1))

  -- an implication gives no refuting pair
  pub pair_kept : {e f : ℕ} → RefutingPair duals (facts ++ (implies a b ∷ [])) e f → RefutingPair duals facts e f
  pair_kept (plain_pair {e = e} {f = f} hs fs h p q) = go (Contains-push_cases facts (implies a b) (refutes hs fs) h)
    where
      go : Contains facts (refutes hs fs) ⊎ (implies a b ≡ refutes hs fs) → RefutingPair duals facts e f
      go (inl k) = plain_pair hs fs k p q
      go (inr k) = absurd (cc)
  pair_kept (dual_pair {e = e} {f = f} hs fs c d h p q r s) = go (Contains-push_cases facts (implies a b) (refutes hs fs) h)
    where
      go : Contains facts (refutes hs fs) ⊎ (implies a b ≡ refutes hs fs) → RefutingPair duals facts e f
      go (inl k) = dual_pair hs fs c d k p q r s
      go (inr k) = absurd (cc)

module _ (duals : List ℕ) (facts : List Fact) (holds fails : List ℕ) where
  -- a refutation gives no edge
  pub edge_kept : {e f : ℕ} → Edge duals (facts ++ (refutes holds fails ∷ [])) e f → Edge duals facts e f
  edge_kept (plain_edge {e = e} {f = f} h) = go (Contains-push_cases facts (refutes holds fails) (implies e f) h)
    where
      go : Contains facts (implies e f) ⊎ (refutes holds fails ≡ implies e f) → Edge duals facts e f
      go (inl k) = plain_edge k
      go (inr k) = absurd (cc)
  edge_kept (dual_edge {e = e} {f = f} c d h p q) = go (Contains-push_cases facts (refutes holds fails) (implies c d) h)
    where
      go : Contains facts (implies c d) ⊎ (refutes holds fails ≡ implies c d) → Edge duals facts e f
      go (inl k) = dual_edge c d k p q
      go (inr k) = absurd (cc)

  pub reach_kept : {e f : ℕ} → Reach duals (facts ++ (refutes holds fails ∷ [])) e f → Reach duals facts e f
  reach_kept (itself e) = itself e
  reach_kept (along d r) = along (edge_kept d) (reach_kept r)

-- no facts give no edge and no refuting pair
pub reach_nothing : (duals : List ℕ) {e f : ℕ} → Reach duals [] e f → e ≡ f
reach_nothing duals (itself e) = refl
reach_nothing duals (along (plain_edge h) r) = absurd (let l = h.1 in omega arith)
reach_nothing duals (along (dual_edge a b h p q) r) = absurd (let l = h.1 in omega arith)

pub covers_nothing : (duals : List ℕ) {e f : ℕ} → Covers duals [] e f → ⊥
covers_nothing duals c = go c.pair
  where
    go : RefutingPair duals [] c.holds c.fails → ⊥
    go (plain_pair hs fs h p q) = let l = h.1 in omega arith
    go (dual_pair hs fs a b h p q r s) = let l = h.1 in omega arith
