-- An overlap passes or fails, and a system that isn't convergent has a first failing one.
use Rattle.std.proofs.Common.{◌≡◌, ℕ, ◌<◌, ◌⊎◌, inl, inr, ◌↔◌, List, [], ◌∷◌, length, Option, Some, None, slice_get, refl, sym, ap, ap₂, ◌∙◌, subst, subst₂}
use Rattle.std.proofs.lemmas.Option.{slice_get_within}
use Rattle.std.proofs.lemmas.Bool.{cases_eq}
use Rattle.etp_theory.specs.Trees.{Tree, var, op, Equation}
use Rattle.etp_theory.specs.Substitutions.{apply, raise}
use Rattle.etp_theory.specs.Positions.{Side, sub_at, put_at}
use Rattle.etp_theory.specs.Weights.{Weight, AllDecrease}
use Rattle.etp_theory.specs.Forms.{HaveOneForm}
use Rattle.etp_theory.specs.Unifiers.{IsMostGeneral, IsBest, NoUnifier}
use Rattle.etp_theory.specs.Overlaps.{Overlap, outer_part, inner_part, left_result, right_result, HasSmallVariables, IsConvergent, PairPasses, no_unifier, one_form}
use Rattle.etp_theory.specs.FailingOverlaps.{PositionBefore, Place, place, PlaceBefore, by_outer, by_position, by_inner, IsCriticalPair, Finding, IsFinding, finding_under, FailsBy, IsFirstFailing}
use Rattle.etp_theory.proofs.Unifiers.{Mgu, unify, best_of, through}
use Rattle.etp_theory.proofs.General.{general_of_best}
use Rattle.etp_theory.proofs.Renaming.{all_kept, right_through, both_ways, finding_undone}
use Rattle.etp_theory.proofs.Passing.{convergent_of, all_pass}
use Rattle.etp_theory.proofs.Places.{first_below, first_position, total}
use Rattle.etp_theory.proofs.Ends.{looked_at, not_both, one_finding}

module _ (rules : List Equation) where
  -- overlaps at one place are alike

  pub record Alike (o o' : Overlap rules) : Type 0 where
    outer_parts : outer_part o ≡ outer_part o'
    inner_parts : inner_part o ≡ inner_part o'
    lefts : (m : ℕ → Tree) → left_result o m ≡ left_result o' m
    rights : (m : ℕ → Tree) → right_result o m ≡ right_result o' m

  one_rule : (i j : ℕ) (e f : Equation) → slice_get rules i ≡ Some e → slice_get rules j ≡ Some f → i ≡ j → e ≡ f
  one_rule i j e f h k q = let x : Some e ≡ Some f = sym h ∙ ap (slice_get rules) q ∙ k in cc

  one_part : (p q : List Side) (s t u v : Tree) → sub_at p s ≡ Some u → sub_at q t ≡ Some v → p ≡ q → s ≡ t → u ≡ v
  one_part p q s t u v h k e f = let x : Some u ≡ Some v = sym h ∙ ap₂ sub_at e f ∙ k in cc

  pub alike : (o o' : Overlap rules) → o.outer ≡ o'.outer → o.position ≡ o'.position → o.inner ≡ o'.inner → Alike o o'
  alike o o' a b c =
      let outers = one_rule o.outer o'.outer o.outer_rule o'.outer_rule o.outer_listed o'.outer_listed a in
      let inners = one_rule o.inner o'.inner o.inner_rule o'.inner_rule o.inner_listed o'.inner_listed c in
      let lefts : o.outer_rule.left ≡ o'.outer_rule.left = ap (λ (e : Equation). e.left) outers in
      record {
        outer_parts = one_part o.position o'.position o.outer_rule.left o'.outer_rule.left (outer_part o) (outer_part o') o.part o'.part b lefts;
        inner_parts = ap (λ (e : Equation). raise e.left) inners;
        lefts = λ m. ap (λ (e : Equation). apply m e.right) outers;
        rights = λ m. ap (λ p. put_at p (apply m o.outer_rule.left) (apply m (raise o.inner_rule.right))) b
            ∙ ap₂ (put_at o'.position) (ap (apply m) lefts) (ap (λ (e : Equation). apply m (raise e.right)) inners);
      }

  pub passes_alike : (o o' : Overlap rules) → Alike o o' → PairPasses rules o → PairPasses rules o'
  passes_alike o o' a (no_unifier h) = no_unifier (subst₂ NoUnifier a.outer_parts a.inner_parts h)
  passes_alike o o' a (one_form m b h) = one_form m (subst₂ (IsBest m) a.outer_parts a.inner_parts b) (subst₂ (HaveOneForm rules) (a.lefts m) (a.rights m) h)

  pair_alike : (o o' : Overlap rules) (s t : Tree) → Alike o o' → IsCriticalPair o s t → IsCriticalPair o' s t
  pair_alike o o' s t a p = record {
    unifier = p.unifier;
    general = subst₂ (IsMostGeneral p.unifier) a.outer_parts a.inner_parts p.general;
    left = p.left ∙ a.lefts p.unifier;
    right = p.right ∙ a.rights p.unifier;
  }

  -- which places have an overlap

  abbrev IsAt : ℕ → List Side → ℕ → Overlap rules → Type 0
  IsAt i p j o = (o.outer ≡ i) × (o.position ≡ p) × (o.inner ≡ j)

  abbrev There : ℕ → List Side → ℕ → Type 0
  There i p j = ((o : Overlap rules) × IsAt i p j o) ⊎ ((o : Overlap rules) → IsAt i p j o → ⊥)

  outer_is : (i j : ℕ) (p : List Side) (o : Overlap rules) → IsAt i p j o → slice_get rules i ≡ Some o.outer_rule
  outer_is i j p o h = ap (slice_get rules) (sym h.0) ∙ o.outer_listed

  inner_is : (i j : ℕ) (p : List Side) (o : Overlap rules) → IsAt i p j o → slice_get rules j ≡ Some o.inner_rule
  inner_is i j p o h = ap (slice_get rules) (sym h.2) ∙ o.inner_listed

  part_is : (i j : ℕ) (p : List Side) (o : Overlap rules) → IsAt i p j o → (e : Equation) → slice_get rules i ≡ Some e → sub_at p e.left ≡ Some (outer_part o)
  part_is i j p o h e k =
      let same : o.outer_rule ≡ e = one_rule o.outer i o.outer_rule e o.outer_listed k h.0 in
      ap₂ sub_at (sym h.1) (ap (λ (x : Equation). x.left) (sym same)) ∙ o.part

  module _ (i j : ℕ) where
    overlap_of : (p : List Side) (e f : Equation) (x y : Tree) → slice_get rules i ≡ Some e → slice_get rules j ≡ Some f → sub_at p e.left ≡ Some (op x y) → (p ≡ [] → i ≡ j → ⊥) → There i p j
    overlap_of p e f x y h k q apart = inl (record { outer = i; inner = j; outer_rule = e; inner_rule = f; position = p; part_left = x; part_right = y; outer_listed = h; inner_listed = k; part = q; apart = apart }, (refl, refl, refl))

    not_own_root : (p : List Side) (e f : Equation) (x y : Tree) → slice_get rules i ≡ Some e → slice_get rules j ≡ Some f → sub_at p e.left ≡ Some (op x y) → (i ≡ j) ⊎ (i ≡ j → ⊥) → There i p j
    not_own_root p e f x y h k q (inr differ) = overlap_of p e f x y h k q (λ z c. differ c)
    not_own_root [] e f x y h k q (inl same) = inr (λ o a. o.apart a.1 (a.0 ∙ same ∙ sym a.2))
    not_own_root (d ∷ p) e f x y h k q (inl same) = overlap_of (d ∷ p) e f x y h k q (λ z. absurd (cc))

    at_part : (p : List Side) (e f : Equation) → slice_get rules i ≡ Some e → slice_get rules j ≡ Some f → (t : Option Tree) → sub_at p e.left ≡ t → There i p j
    at_part p e f h k None q = inr (λ o a. (let z : None ≡ Some (outer_part o) = sym q ∙ part_is i j p o a e h in cc))
    at_part p e f h k (Some (var v)) q = inr (λ o a. (let z : Some (var v) ≡ Some (outer_part o) = sym q ∙ part_is i j p o a e h in cc))
    at_part p e f h k (Some (op x y)) q = not_own_root p e f x y h k q (cases_eq i j)

    there : (p : List Side) → There i p j
    there p = go (slice_get rules i) refl (slice_get rules j) refl
      where
        go : (a : Option Equation) → slice_get rules i ≡ a → (b : Option Equation) → slice_get rules j ≡ b → There i p j
        go None h b k = inr (λ o a. (let z : None ≡ Some o.outer_rule = sym h ∙ outer_is i j p o a in cc))
        go (Some e) h None k = inr (λ o a. (let z : None ≡ Some o.inner_rule = sym k ∙ inner_is i j p o a in cc))
        go (Some e) h (Some f) k = at_part p e f h k (sub_at p e.left) refl

  -- looking at one overlap, and at one place

  pub record Failure (o : Overlap rules) : Type 0 where
    pub left : Tree
    pub right : Tree
    pub finding : Finding
    pub fails : FailsBy o left right finding

  pair_of : (o : Overlap rules) (p : Mgu (outer_part o) (inner_part o)) → IsCriticalPair o (left_result o p.by) (right_result o p.by)
  pair_of o p = record { unifier = p.by; general = general_of_best _ _ p.by (best_of _ _ p); left = refl; right = refl }

  pub passes_or_fails : (o : Overlap rules) → PairPasses rules o ⊎ Failure o
  passes_or_fails o = go (unify (outer_part o) (inner_part o))
    where
      with_unifier : (p : Mgu (outer_part o) (inner_part o)) → HaveOneForm rules (left_result o p.by) (right_result o p.by) ⊎ ((f : Finding) × IsFinding rules (left_result o p.by) (right_result o p.by) f) → PairPasses rules o ⊎ Failure o
      with_unifier p (inl h) = inl (one_form p.by (best_of _ _ p) h)
      with_unifier p (inr h) = inr (record {
        left = left_result o p.by;
        right = right_result o p.by;
        finding = h.0;
        fails = record { pair = pair_of o p; found = h.1 };
      })

      go : Mgu (outer_part o) (inner_part o) ⊎ NoUnifier (outer_part o) (inner_part o) → PairPasses rules o ⊎ Failure o
      go (inl p) = with_unifier p (looked_at rules (left_result o p.by) (right_result o p.by))
      go (inr h) = inl (no_unifier h)

  abbrev PassesAt : ℕ → List Side → ℕ → Type 0
  PassesAt i p j = (o : Overlap rules) → IsAt i p j o → PairPasses rules o

  abbrev FailsAt : ℕ → List Side → ℕ → Type 0
  FailsAt i p j = (o : Overlap rules) × IsAt i p j o × Failure o

  at_place : (i : ℕ) (p : List Side) (j : ℕ) → PassesAt i p j ⊎ FailsAt i p j
  at_place i p j = go (there i j p)
    where
      one : (o : Overlap rules) → IsAt i p j o → PairPasses rules o ⊎ Failure o → PassesAt i p j ⊎ FailsAt i p j
      one o a (inl h) = inl (λ o' b. passes_alike o o' (alike o o' (a.0 ∙ sym b.0) (a.1 ∙ sym b.1) (a.2 ∙ sym b.2)) h)
      one o a (inr h) = inr (o, a, h)

      go : There i p j → PassesAt i p j ⊎ FailsAt i p j
      go (inl o) = one o.0 o.1 (passes_or_fails o.0)
      go (inr none) = inl (λ o a. absurd (none o a))

  -- looking at all places in order

  listed_below : (i : ℕ) (e : Equation) → slice_get rules i ≡ Some e → i < length rules
  listed_below i e h = slice_get_within rules i e h

  abbrev InnerFails : ℕ → List Side → Type 0
  InnerFails i p = (j : ℕ) × FailsAt i p j × ((k : ℕ) → k < j → PassesAt i p k)

  inners : (i : ℕ) (p : List Side) → ((j : ℕ) → PassesAt i p j) ⊎ InnerFails i p
  inners i p = go (first_below (length rules) (PassesAt i p) (FailsAt i p) (at_place i p))
    where
      go : ((j : ℕ) → j < length rules → PassesAt i p j) ⊎ InnerFails i p → ((j : ℕ) → PassesAt i p j) ⊎ InnerFails i p
      go (inl h) = inl (λ j o a. h j (listed_below j o.inner_rule (inner_is i j p o a)) o a)
      go (inr h) = inr h

  abbrev PositionFails : ℕ → Type 0
  PositionFails i = (p : List Side) × InnerFails i p × ((q : List Side) → PositionBefore q p → (j : ℕ) → PassesAt i q j)

  positions : (i : ℕ) → ((p : List Side) (j : ℕ) → PassesAt i p j) ⊎ PositionFails i
  positions i = go (slice_get rules i) refl
    where
      go : (a : Option Equation) → slice_get rules i ≡ a → ((p : List Side) (j : ℕ) → PassesAt i p j) ⊎ PositionFails i
      go None h = inl (λ p j o a. absurd (let z : None ≡ Some o.outer_rule = sym h ∙ outer_is i j p o a in cc))
      go (Some e) h = first_position e.left (λ p. (j : ℕ) → PassesAt i p j) (InnerFails i) (λ p none j o a. absurd (none o.part_left o.part_right (part_is i j p o a e h))) (inners i)

  abbrev OuterFails : Type 0
  OuterFails = (i : ℕ) × PositionFails i × ((k : ℕ) → k < i → (p : List Side) (j : ℕ) → PassesAt k p j)

  outers : ((o : Overlap rules) → PairPasses rules o) ⊎ OuterFails
  outers = go (first_below (length rules) (λ i. (p : List Side) (j : ℕ) → PassesAt i p j) PositionFails positions)
    where
      go : ((i : ℕ) → i < length rules → (p : List Side) (j : ℕ) → PassesAt i p j) ⊎ OuterFails → ((o : Overlap rules) → PairPasses rules o) ⊎ OuterFails
      go (inl h) = inl (λ o. h o.outer (listed_below o.outer o.outer_rule o.outer_listed) o.position o.inner o (refl, refl, refl))
      go (inr h) = inr h

  abbrev HasFirst : Type 0
  HasFirst = (o : Overlap rules) × (s : Tree) × (t : Tree) × (f : Finding) × IsFirstFailing o s t f

  pub first_failing : ((o : Overlap rules) → PairPasses rules o) ⊎ HasFirst
  first_failing = go outers
    where
      found : (x : OuterFails) → HasFirst
      found x =
          let i = x.0 in
          let positions_before = x.1.2 in
          let p = x.1.0 in
          let inner : InnerFails i p = x.1.1 in
          let o : Overlap rules = inner.1.0 in
          let at : IsAt i p inner.0 o = inner.1.1 in
          let fault : Failure o = inner.1.2 in
          (o, fault.left, fault.right, fault.finding, record { fails = fault.fails; earlier = λ o' h. earlier o' at h })
        where
          earlier : (o' : Overlap rules) → IsAt x.0 x.1.0 x.1.1.0 x.1.1.1.0 → PlaceBefore (place o') (place x.1.1.1.0) → PairPasses rules o'
          earlier o' at (by_outer h) = x.2 o'.outer (subst (λ n. o'.outer < n) at.0 h) o'.position o'.inner o' (refl, refl, refl)
          earlier o' at (by_position e h) = x.1.2 o'.position (subst (PositionBefore o'.position) at.1 h) o'.inner o' (e ∙ at.0, refl, refl)
          earlier o' at (by_inner e q h) = x.1.1.2 o'.inner (subst (λ n. o'.inner < n) at.2 h) o' (e ∙ at.0, q ∙ at.1, refl)

      go : ((o : Overlap rules) → PairPasses rules o) ⊎ OuterFails → ((o : Overlap rules) → PairPasses rules o) ⊎ HasFirst
      go (inl h) = inl h
      go (inr x) = inr (found x)

  -- what decreasing rules give: each critical pair of an overlap tells as much as any other

  module _ (w : Weight) (all : AllDecrease w rules) where
    pub one_pair_tells : (o : Overlap rules) (s t : Tree) → IsCriticalPair o s t → PairPasses rules o ↔ HaveOneForm rules s t
    one_pair_tells o s t p = (forth, λ h. back h (unify (outer_part o) (inner_part o)))
      where
        forth : PairPasses rules o → HaveOneForm rules s t
        forth (no_unifier h) = absurd (h p.unifier p.general.unifies)
        forth (one_form m b h) =
            let k = p.general.factors m b.unifies in
            subst₂ (HaveOneForm rules) (sym p.left) (sym p.right) (both_ways w rules all o m p.unifier p.unifier k.0 (b.absorbed p.unifier p.general.unifies) k.1 h)

        back : HaveOneForm rules s t → Mgu (outer_part o) (inner_part o) ⊎ NoUnifier (outer_part o) (inner_part o) → PairPasses rules o
        back h (inl q) =
            let k = p.general.factors q.by q.unifies in
            one_form q.by (best_of _ _ q) (both_ways w rules all o p.unifier q.by k.0 p.unifier k.1 (q.absorbed p.unifier p.general.unifies) (subst₂ (HaveOneForm rules) p.left p.right h))
        back h (inr none) = absurd (none p.unifier p.general.unifies)

    pub all_pairs_tell : HasSmallVariables rules → ((o : Overlap rules) (s t : Tree) → IsCriticalPair o s t → HaveOneForm rules s t) ↔ IsConvergent w rules
    all_pairs_tell small = (λ h. convergent_of w rules all small (λ o. pass h o (unify (outer_part o) (inner_part o))), λ c o s t p. (one_pair_tells o s t p).0 (all_pass w rules c o))
      where
        pass : ((o : Overlap rules) (s t : Tree) → IsCriticalPair o s t → HaveOneForm rules s t) → (o : Overlap rules) → Mgu (outer_part o) (inner_part o) ⊎ NoUnifier (outer_part o) (inner_part o) → PairPasses rules o
        pass h o (inl p) = one_form p.by (best_of _ _ p) (h o _ _ (pair_of o p))
        pass h o (inr none) = no_unifier none

    fails_or_passes : (o : Overlap rules) (s t : Tree) (f : Finding) → FailsBy o s t f → PairPasses rules o → ⊥
    fails_or_passes o s t f h p = not_both rules s t f ((one_pair_tells o s t h.pair).0 p) h.found

    pub not_convergent : (o : Overlap rules) (s t : Tree) (f : Finding) → FailsBy o s t f → IsConvergent w rules → ⊥
    not_convergent o s t f h c = fails_or_passes o s t f h (all_pass w rules c o)

    pub found : HasSmallVariables rules → IsConvergent w rules ⊎ HasFirst
    found small = go first_failing
      where
        go : ((o : Overlap rules) → PairPasses rules o) ⊎ HasFirst → IsConvergent w rules ⊎ HasFirst
        go (inl h) = inl (convergent_of w rules all small h)
        go (inr h) = inr h

    -- what is found by two critical pairs of one overlap
    one_found : (o : Overlap rules) (s t s' t' : Tree) (f f' : Finding) → FailsBy o s t f → FailsBy o s' t' f' → (k : ℕ → Tree) × (finding_under k f ≡ f')
    one_found o s t s' t' f f' h h' =
        let p = h.pair in
        let p' = h'.pair in
        let k = p.general.factors p'.unifier p'.general.unifies in
        let j = p'.general.factors p.unifier p.general.unifies in
        let left : apply k.0 s ≡ s' = ap (apply k.0) p.left ∙ through p.unifier k.0 p'.unifier k.1 o.outer_rule.right ∙ sym p'.left in
        let right : apply k.0 t ≡ t' = ap (apply k.0) p.right ∙ right_through o p.unifier k.0 p'.unifier k.1 ∙ sym p'.right in
        let left_back : apply j.0 s' ≡ s = ap (apply j.0) p'.left ∙ through p'.unifier j.0 p.unifier j.1 o.outer_rule.right ∙ sym p.left in
        let right_back : apply j.0 t' ≡ t = ap (apply j.0) p'.right ∙ right_through o p'.unifier j.0 p.unifier j.1 ∙ sym p.right in
        let moved = finding_undone rules (all_kept w rules all) k.0 j.0 s t f (ap (apply j.0) left ∙ left_back) (ap (apply j.0) right ∙ right_back) h.found in
        (k.0, one_finding rules s' t' (finding_under k.0 f) f' (subst₂ (λ x y. IsFinding rules x y (finding_under k.0 f)) left right moved) h'.found)

    one_place : (o o' : Overlap rules) (s t s' t' : Tree) (f f' : Finding) → IsFirstFailing o s t f → IsFirstFailing o' s' t' f' → place o ≡ place o'
    one_place o o' s t s' t' f f' h h' = go (total (place o) (place o'))
      where
        go : (place o ≡ place o') ⊎ (PlaceBefore (place o) (place o') ⊎ PlaceBefore (place o') (place o)) → place o ≡ place o'
        go (inl e) = e
        go (inr (inl b)) = absurd (fails_or_passes o s t f h.fails (h'.earlier o b))
        go (inr (inr b)) = absurd (fails_or_passes o' s' t' f' h'.fails (h.earlier o' b))

    pub only_first : (o o' : Overlap rules) (s t s' t' : Tree) (f f' : Finding) → IsFirstFailing o s t f → IsFirstFailing o' s' t' f' → (place o ≡ place o') × ((k : ℕ → Tree) × (finding_under k f ≡ f'))
    only_first o o' s t s' t' f f' h h' =
        let e = one_place o o' s t s' t' f f' h h' in
        let a = alike o' o (sym (ap (λ (x : Place). x.outer) e)) (sym (ap (λ (x : Place). x.position) e)) (sym (ap (λ (x : Place). x.inner) e)) in
        let there : FailsBy o s' t' f' = record { pair = pair_alike o' o s' t' a h'.fails.pair; found = h'.fails.found } in
        (e, one_found o s t s' t' f f' h.fails there)
