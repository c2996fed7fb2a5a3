-- Whether a step leads from one term to another, and its first place, by the parts of both terms.
use Rattle.std.proofs.Common.{◌≡◌, ◌⊎◌, ℕ, Bool, true, false, true≢false, List, [], ◌∷◌, ◌++◌, Some, None, refl, inl, inr, sym, ap, ◌∙◌, subst, append_assoc}
use Rattle.etp_theory.specs.Trees.{Tree, var, op, Equation, exchanged}
use Rattle.etp_theory.specs.Substitutions.{Partial, total}
use Rattle.etp_theory.specs.Positions.{Side, to_left, to_right}
use Rattle.etp_theory.specs.Proofs.{as_read, IsStepBy}
use Rattle.etp_match.specs.Bindings.{partial_of}
use Rattle.etp_match.specs.Matching.{Before, Extends, IsExtendedTo, NoneMatches}
use Rattle.etp_match.specs.declared.subst.Binding.{Binding}
use Rattle.etp_match.proofs.Extending.{extends_on, still_matched}
use Rattle.etp_search.specs.Spaces.{IsStepOf}
use Rattle.etp_search.specs.Shortest.{IsFirstPlace}
use Rattle.etp_search.specs.Leading.{IsRootStep, IsPlacedBelow}
use Rattle.etp_search.proofs.Stepping.{root_step, step_root, step_left, step_right, left_step, right_step, step_cases, Stepped, forwards, backwards, in_left, in_right, op_left, op_right}

-- an answer that is never wrongly false
pub decided : (b : Bool) (P : Type 0) → (b ≡ false → P → ⊥) → P → b ≡ true
decided true P f p = refl
decided false P f p = absurd (f refl p)

-- both sides matched, one after the other
module _ (e : Equation) (s t : Tree) (bindings : List Binding) (none : bindings ≡ []) where
  nothing : (m : ℕ → Tree) → Extends (partial_of bindings) m
  nothing m v u h = absurd (let k : None ≡ Some u = sym (ap (λ (bs : List Binding). (partial_of bs).value v) none) ∙ h in cc)

  pub no_left : NoneMatches e.left s (partial_of bindings) → IsRootStep e s t → ⊥
  no_left h r = h r.by (nothing r.by) r.before

  module _ (mid : Partial) (left : IsExtendedTo e.left s (partial_of bindings) mid) where
    pub no_right : NoneMatches e.right t mid → IsRootStep e s t → ⊥
    no_right h r = h r.by (extends_on e.left s (partial_of bindings) mid left r.by (nothing r.by) r.before) r.after

    pub both_fit : (later : Partial) → IsExtendedTo e.right t mid later → IsRootStep e s t
    both_fit later right = record { by = total later; before = still_matched e.left s e.right t (partial_of bindings) mid later left right; after = right.matched }

-- neither from left to right nor from right to left
pub neither : (law : Equation) (s t : Tree) → (IsRootStep law s t → ⊥) → (IsRootStep (exchanged law) s t → ⊥) → (r : Bool) → IsRootStep (as_read r law) s t → ⊥
neither law s t on back false k = on k
neither law s t on back true k = back k

-- at the root
pub first_root : (law : Equation) (s t : Tree) → IsRootStep law s t → IsFirstPlace law s t [] false
first_root law s t k = record { right = root_step law s t k; first = λ p r h j. h; forwards = λ h j. true≢false (sym h) }

pub first_back : (law : Equation) (s t : Tree) → (IsRootStep law s t → ⊥) → IsRootStep (exchanged law) s t → IsFirstPlace law s t [] true
first_back law s t on k = record { right = root_step (exchanged law) s t k; first = λ p r h j. h; forwards = λ h j. on (step_root law s t j) }

pub placed_step : (law : Equation) (s t : Tree) (p : List Side) (r : Bool) → IsFirstPlace law s t p r → IsStepOf law s t
placed_step law s t p r h = record { position = p; reversed = r; right = h.right }

module _ (law : Equation) (s t : Tree) (none : (r : Bool) → IsRootStep (as_read r law) s t → ⊥) where
  -- from or to a variable there are steps at the root alone
  pub no_variable : (v : ℕ) → s ≡ var v → IsStepOf law s t → ⊥
  no_variable v e h = go (step_cases law s t h)
    where
      go : Stepped law s t → ⊥
      go (forwards k) = none false k
      go (backwards k) = none true k
      go (in_left x y q k) = let z : var v ≡ op x y = sym e ∙ q in cc
      go (in_right x y q k) = let z : var v ≡ op x y = sym e ∙ q in cc

  pub no_to_variable : (v : ℕ) → t ≡ var v → IsStepOf law s t → ⊥
  no_to_variable v e h = go (step_cases law s t h)
    where
      go : Stepped law s t → ⊥
      go (forwards k) = none false k
      go (backwards k) = none true k
      go (in_left x y q k) = let z : var v ≡ op k.to y = sym e ∙ k.is in cc
      go (in_right x y q k) = let z : var v ≡ op x k.to = sym e ∙ k.is in cc

  -- the first place isn't the root
  no_root : (r : Bool) → IsStepBy (as_read r law) [] s t → ⊥
  no_root r k = none r (step_root (as_read r law) s t k)

  module _ (a b c d : Tree) (hs : s ≡ op a b) (ht : t ≡ op c d) where
    from_left : (r : Bool) (p : List Side) → IsStepBy (as_read r law) (to_left ∷ p) s t → (b ≡ d) × IsStepBy (as_read r law) p a c
    from_left r p k =
        let m = step_left (as_read r law) p a b t (subst (λ u. IsStepBy (as_read r law) (to_left ∷ p) u t) hs k) in
        let same : op m.0 b ≡ op c d = sym m.2 ∙ ht in
        (op_right same, subst (λ u. IsStepBy (as_read r law) p a u) (op_left same) m.1)

    from_right : (r : Bool) (p : List Side) → IsStepBy (as_read r law) (to_right ∷ p) s t → (a ≡ c) × IsStepBy (as_read r law) p b d
    from_right r p k =
        let m = step_right (as_read r law) p a b t (subst (λ u. IsStepBy (as_read r law) (to_right ∷ p) u t) hs k) in
        let same : op a m.0 ≡ op c d = sym m.2 ∙ ht in
        (op_left same, subst (λ u. IsStepBy (as_read r law) p b u) (op_right same) m.1)

    to_root : (r : Bool) (p : List Side) → b ≡ d → IsStepBy (as_read r law) p a c → IsStepBy (as_read r law) (to_left ∷ p) s t
    to_root r p same k =
        subst (λ u. IsStepBy (as_read r law) (to_left ∷ p) u t) (sym hs)
        (subst (λ u. IsStepBy (as_read r law) (to_left ∷ p) (op a b) u) (ap (op c) same ∙ sym ht) (left_step (as_read r law) p a b c k))

    to_root_right : (r : Bool) (p : List Side) → a ≡ c → IsStepBy (as_read r law) p b d → IsStepBy (as_read r law) (to_right ∷ p) s t
    to_root_right r p same k =
        subst (λ u. IsStepBy (as_read r law) (to_right ∷ p) u t) (sym hs)
        (subst (λ u. IsStepBy (as_read r law) (to_right ∷ p) (op a b) u) (ap (λ l. op l d) same ∙ sym ht) (right_step (as_read r law) p a b d k))

    -- a step between operations is one in a part
    pub parts_step : IsStepOf law s t → ((b ≡ d) × IsStepOf law a c) ⊎ ((a ≡ c) × IsStepOf law b d)
    parts_step h = go h.position h.right
      where
        go : (p : List Side) → IsStepBy (as_read h.reversed law) p s t → ((b ≡ d) × IsStepOf law a c) ⊎ ((a ≡ c) × IsStepOf law b d)
        go [] k = absurd (no_root h.reversed k)
        go (to_left ∷ p) k = let m = from_left h.reversed p k in inl (m.0, record { position = p; reversed = h.reversed; right = m.1 })
        go (to_right ∷ p) k = let m = from_right h.reversed p k in inr (m.0, record { position = p; reversed = h.reversed; right = m.1 })

    pub left_part : b ≡ d → IsStepOf law a c → IsStepOf law s t
    left_part same h = record { position = to_left ∷ h.position; reversed = h.reversed; right = to_root h.reversed h.position same h.right }

    pub right_part : a ≡ c → IsStepOf law b d → IsStepOf law s t
    right_part same h = record { position = to_right ∷ h.position; reversed = h.reversed; right = to_root_right h.reversed h.position same h.right }

    -- where none is in the left parts, it is in the right parts
    pub not_by_left : ((b ≡ d) × IsStepOf law a c → ⊥) → IsStepOf law s t → (a ≡ c) × IsStepOf law b d
    not_by_left never h = go (parts_step h)
      where
        go : ((b ≡ d) × IsStepOf law a c) ⊎ ((a ≡ c) × IsStepOf law b d) → (a ≡ c) × IsStepOf law b d
        go (inl k) = absurd (never k)
        go (inr k) = k

    pub first_left : (p : List Side) (r : Bool) → b ≡ d → IsFirstPlace law a c p r → IsFirstPlace law s t (to_left ∷ p) r
    first_left p r same place = record {
      right = to_root r p same place.right;
      first = first;
      forwards = λ q k. place.forwards q (from_left false p k).1;
    }
      where
        first : (q : List Side) (o : Bool) → Before q (to_left ∷ p) → IsStepBy (as_read o law) q s t → ⊥
        first [] o h k = no_root o k
        first (to_left ∷ q) o h k = place.first q o h (from_left o q k).1
        first (to_right ∷ q) o h k = h

    pub first_right : (p : List Side) (r : Bool) → ((b ≡ d) × IsStepOf law a c → ⊥) → a ≡ c → IsFirstPlace law b d p r → IsFirstPlace law s t (to_right ∷ p) r
    first_right p r never same place = record {
      right = to_root_right r p same place.right;
      first = first;
      forwards = λ q k. place.forwards q (from_right false p k).1;
    }
      where
        first : (q : List Side) (o : Bool) → Before q (to_right ∷ p) → IsStepBy (as_read o law) q s t → ⊥
        first [] o h k = no_root o k
        first (to_left ∷ q) o h k = let m = from_left o q k in never (m.0, record { position = q; reversed = o; right = m.1 })
        first (to_right ∷ q) o h k = place.first q o h (from_right o q k).1

-- the position goes on from above to below
pub placed_on : (law : Equation) (s t a c : Tree) (above mid below : List Side) (side : Side) (r : Bool) → mid ≡ above ++ side ∷ [] → ((p : List Side) → IsFirstPlace law a c p r → IsFirstPlace law s t (side ∷ p) r) → IsPlacedBelow law a c mid below r → IsPlacedBelow law s t above below r
placed_on law s t a c above mid below side r e on h = record {
  rest = side ∷ h.rest;
  on = h.on ∙ ap (λ (p : List Side). p ++ h.rest) e ∙ append_assoc above (side ∷ []) h.rest;
  first = on h.rest h.first;
}

pub placed_whole : (law : Equation) (s t u : Tree) (above below : List Side) (r : Bool) → above ≡ [] → u ≡ t → IsPlacedBelow law s t above below r → IsFirstPlace law s u below r
placed_whole law s t u above below r none same h =
    subst (λ v. IsFirstPlace law s v below r) (sym same)
    (subst (λ (p : List Side). IsFirstPlace law s t p r) (sym (h.on ∙ ap (λ (p : List Side). p ++ h.rest) none)) h.first)
