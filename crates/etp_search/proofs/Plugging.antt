-- The terms that an equation makes of the term in the hole are those that a term with slots becomes.
use Rattle.std.proofs.Common.{◌≡◌, ◌≢◌, ◌<◌, ◌≤◌, ◌+◌, ◌-◌, ◌⊎◌, ℕ, true, false, cond, ltb, List, [], Option, Some, None, refl, inl, inr, arith, sym, ap, ◌∙◌, subst}
use Rattle.std.proofs.lemmas.Bool.{cases_eq}
use Rattle.etp_theory.specs.Trees.{Tree, var, op, Occurs, Equation}
use Rattle.etp_theory.specs.Substitutions.{apply, then_apply, Partial, total, value_or}
use Rattle.etp_theory.proofs.Trees.{composed, identity}
use Rattle.etp_theory.proofs.Matching.{apply_agree, agree_of_apply}
use Rattle.etp_theory.proofs.Unifiers.{instance_occurs, occurs_dec}
use Rattle.etp_match.specs.Bindings.{partial_of}
use Rattle.etp_match.specs.Matching.{IsExtendedTo, NoneMatches}
use Rattle.etp_match.specs.declared.subst.Binding.{Binding}
use Rattle.etp_search.specs.Spaces.{Space}
use Rattle.etp_search.specs.Filling.{at_one, IsOpen, FillsSlots, IsFilled}
use Rattle.etp_search.specs.Plugging.{IsBelow, plugged, IsContext, value_or_slot, IsReplacedBy}
use Rattle.etp_search.proofs.Opening.{at_one_same, at_one_other, occurs_applied}

-- what stands in a term with a plugged hole
pub occurs_plugged : (x : ℕ) (w : Tree) (y : ℕ) (t : Tree) → Occurs y (apply (at_one x w) t) → Occurs y w ⊎ (Occurs y t × (y ≢ x))
occurs_plugged x w y (var v) k = go (cases_eq v x)
  where
    go : (v ≡ x) ⊎ (v ≢ x) → Occurs y w ⊎ (Occurs y (var v) × (y ≢ x))
    go (inl e) = inl (subst (Occurs y) (at_one_same x w v e) k)
    go (inr e) = let h : v ≡ y = subst (Occurs y) (at_one_other x w v e) k in inr (h, λ q. e (h ∙ q))
occurs_plugged x w y (op l r) (inl k) = left (occurs_plugged x w y l k)
  where
    left : Occurs y w ⊎ (Occurs y l × (y ≢ x)) → Occurs y w ⊎ ((Occurs y l ⊎ Occurs y r) × (y ≢ x))
    left (inl h) = inl h
    left (inr h) = inr (inl h.0, h.1)
occurs_plugged x w y (op l r) (inr k) = right (occurs_plugged x w y r k)
  where
    right : Occurs y w ⊎ (Occurs y r × (y ≢ x)) → Occurs y w ⊎ ((Occurs y l ⊎ Occurs y r) × (y ≢ x))
    right (inl h) = inl h
    right (inr h) = inr (inr h.0, h.1)

-- terms for slots keep a term without them
pub kept_below : (s : ℕ → Tree) → FillsSlots s → (t : Tree) → IsBelow 64 t → apply s t ≡ t
kept_below s fills t below = apply_agree s var t (λ v h. fills v (below v h)) ∙ identity t

module _ (m : ℕ) (few : m ≤ 64) (context : Tree) (at : IsContext m context) where
  -- terms for slots go into the hole
  pub plugged_filled : (s : ℕ → Tree) (w : Tree) → FillsSlots s → apply s (plugged context w) ≡ plugged context (apply s w)
  plugged_filled s w fills = composed (at_one 255 w) s context ∙ apply_agree (then_apply (at_one 255 w) s) (at_one 255 (apply s w)) context (λ y h. go y (at y h) (cases_eq y 255))
    where
      go : (y : ℕ) → (y < m) ⊎ (y ≡ 255) → (y ≡ 255) ⊎ (y ≢ 255) → apply s (at_one 255 w y) ≡ at_one 255 (apply s w) y
      go y k (inl e) = ap (apply s) (at_one_same 255 w y e) ∙ sym (at_one_same 255 (apply s w) y e)
      go y (inl k) (inr e) = ap (apply s) (at_one_other 255 w y e) ∙ fills y (omega (arith, k, few)) ∙ sym (at_one_other 255 (apply s w) y e)
      go y (inr k) (inr e) = absurd (e k)

-- the reading's left side matched onto a term
module _ (e : Equation) (s : Tree) (earlier later : Partial) (none : (v : ℕ) → earlier.value v ≡ None) (fits : IsExtendedTo e.left s earlier later) where
  -- a variable with a value stands in the left side
  pub valued : (v : ℕ) (w : Tree) → later.value v ≡ Some w → Occurs v e.left
  valued v w h = go (occurs_dec v e.left)
    where
      some_none : None ≡ Some w → ⊥
      some_none k = cc

      go : Occurs v e.left ⊎ (Occurs v e.left → ⊥) → Occurs v e.left
      go (inl k) = k
      go (inr k) = absurd (some_none (sym (none v) ∙ sym (fits.others v k) ∙ h))

  -- which is part of the term
  pub valued_within : (v : ℕ) (w : Tree) → later.value v ≡ Some w → (y : ℕ) → Occurs y w → Occurs y s
  valued_within v w h y k =
      subst (Occurs y) fits.matched (occurs_applied (total later) v y e.left (valued v w h) (subst (Occurs y) (sym (ap (λ o. value_or o (var v)) h)) k))

  -- and which any substitution that matches has
  pub valued_same : (by : ℕ → Tree) → apply by e.left ≡ s → (v : ℕ) (w : Tree) → later.value v ≡ Some w → by v ≡ w
  valued_same by is v w h = agree_of_apply by (total later) e.left (is ∙ sym fits.matched) v (valued v w h) ∙ ap (λ o. value_or o (var v)) h

  pub left_kept : apply (value_or_slot later) e.left ≡ s
  left_kept = apply_agree (value_or_slot later) (total later) e.left (λ v h. let g = fits.given v h in ap (λ o. value_or o (var (v + 64))) g.1 ∙ sym (ap (λ o. value_or o (var v)) g.1)) ∙ fits.matched

  module _ (space : Space) (few : space.variables ≤ 64) (below : IsBelow space.variables s) (context : Tree) (at : IsContext space.variables context) where
    small : IsBelow 64 s
    small v h = let k = below v h in omega (arith, k, few)

    pub filled_replaced : (t : Tree) → IsFilled space (plugged context (apply (value_or_slot later) e.right)) t → IsReplacedBy space e context s t
    filled_replaced t f = record {
      within = f.within;
      by = then_apply (value_or_slot later) f.by;
      before = sym (composed (value_or_slot later) f.by e.left) ∙ ap (apply f.by) left_kept ∙ kept_below f.by f.fills s small;
      becomes = sym (ap (plugged context) (composed (value_or_slot later) f.by e.right)) ∙ sym (plugged_filled space.variables few context at f.by (apply (value_or_slot later) e.right) f.fills) ∙ f.becomes;
    }

    -- the terms for the slots, from a substitution
    abbrev for_slots : (ℕ → Tree) → ℕ → Tree
    for_slots by v = cond (ltb v 64) (var v) (by (v - 64))

    pub replaced_filled : (t : Tree) → IsReplacedBy space e context s t → IsFilled space (plugged context (apply (value_or_slot later) e.right)) t
    replaced_filled t r = record {
      within = r.within;
      by = for_slots r.by;
      fills = fills;
      becomes = plugged_filled space.variables few context at (for_slots r.by) (apply (value_or_slot later) e.right) fills ∙ ap (plugged context) inside ∙ r.becomes;
    }
      where
        below_64 : (v : ℕ) → v < 64 → ltb v 64 ≡ true
        below_64 v h = grind arith

        past_64 : (v : ℕ) → ltb (v + 64) 64 ≡ false
        past_64 v = grind arith

        fills : FillsSlots (for_slots r.by)
        fills v h = ap (λ b. cond b (var v) (r.by (v - 64))) (below_64 v h)

        slot : (v : ℕ) → for_slots r.by (v + 64) ≡ r.by v
        slot v = ap (λ b. cond b (var (v + 64)) (r.by (v + 64 - 64))) (past_64 v) ∙ ap r.by (omega arith)

        each : (v : ℕ) (o : Option Tree) → later.value v ≡ o → apply (for_slots r.by) (value_or o (var (v + 64))) ≡ r.by v
        each v None h = slot v
        each v (Some w) h = kept_below (for_slots r.by) fills w (λ y k. small y (valued_within v w h y k)) ∙ sym (valued_same r.by r.before v w h)

        inside : apply (for_slots r.by) (apply (value_or_slot later) e.right) ≡ apply r.by e.right
        inside = composed (value_or_slot later) (for_slots r.by) e.right ∙ apply_agree (then_apply (value_or_slot later) (for_slots r.by)) r.by e.right (λ v h. each v (later.value v) refl)

    -- its variables and slots
    pub plugged_open : IsBelow 64 e.right → IsOpen space.variables 128 (plugged context (apply (value_or_slot later) e.right))
    plugged_open right y h = go (occurs_plugged 255 (apply (value_or_slot later) e.right) y context h)
      where
        value : (z : ℕ) → Occurs z e.right → (o : Option Tree) → later.value z ≡ o → Occurs y (value_or o (var (z + 64))) → (y < space.variables) ⊎ ((64 ≤ y) × (y < 128))
        value z k None q i = let b = right z k in let j : z + 64 ≡ y = i in inr (omega (arith, j), omega (arith, j, b))
        value z k (Some w) q i = inl (below y (valued_within z w q y i))

        inner : Occurs y (apply (value_or_slot later) e.right) → (y < space.variables) ⊎ ((64 ≤ y) × (y < 128))
        inner i = let z = instance_occurs (value_or_slot later) y e.right i in value z.0 z.1 (later.value z.0) refl z.2

        outer : (y < space.variables) ⊎ (y ≡ 255) → y ≢ 255 → (y < space.variables) ⊎ ((64 ≤ y) × (y < 128))
        outer (inl k) ne = inl k
        outer (inr k) ne = absurd (ne k)

        go : Occurs y (apply (value_or_slot later) e.right) ⊎ (Occurs y context × (y ≢ 255)) → (y < space.variables) ⊎ ((64 ≤ y) × (y < 128))
        go (inl i) = inner i
        go (inr i) = outer (at y i.0) i.1

-- where nothing matches, nothing is made
pub unmatched : (space : Space) (e : Equation) (s context : Tree) (bindings : List Binding) → bindings ≡ [] → NoneMatches e.left s (partial_of bindings) → (t : Tree) → IsReplacedBy space e context s t → ⊥
unmatched space e s context bindings empty none t r = none r.by (λ v u h. absurd (some_none u (sym (ap (λ (bs : List Binding). (partial_of bs).value v) empty) ∙ h))) r.before
  where
    some_none : (u : Tree) → None ≡ Some u → ⊥
    some_none u k = cc
