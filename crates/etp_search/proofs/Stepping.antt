-- A step from an operation is one at the root, or one from a part; and so for what it makes in a hole.
use Rattle.std.proofs.Common.{◌≡◌, ◌≢◌, ◌<◌, ◌≤◌, ◌⊎◌, ℕ, Bool, true, false, List, [], ◌∷◌, Some, None, refl, inl, inr, arith, sym, ap, ◌∙◌, subst, length, Contains}
use Rattle.std.proofs.lemmas.Bool.{cases_eq}
use Rattle.std.proofs.lemmas.Option.{same_Some}
use Rattle.etp_theory.specs.Trees.{Tree, var, op, Occurs, Equation, exchanged}
use Rattle.etp_theory.specs.Substitutions.{apply, then_apply}
use Rattle.etp_theory.specs.Positions.{Side, to_left, to_right}
use Rattle.etp_theory.specs.Proofs.{as_read, IsStepBy}
use Rattle.etp_theory.proofs.Trees.{composed, identity}
use Rattle.etp_theory.proofs.Matching.{apply_agree}
use Rattle.etp_search.specs.Spaces.{Space, IsSearchTerm, IsStepOf, AreNeighbours}
use Rattle.etp_search.specs.Filling.{at_one}
use Rattle.etp_search.specs.Leading.{IsRootStep}
use Rattle.etp_search.specs.Plugging.{IsBelow, plugged, IsContext, IsReplacedBy, IsSteppedTo}
use Rattle.etp_search.proofs.Opening.{at_one_same, at_one_other}
use Rattle.etp_search.specs.Sets.{IsJoined}
use Rattle.etp_search.proofs.Joining.{joined_both, joined_same}
use Rattle.etp_search.proofs.Plugging.{occurs_plugged}

left_of : Tree → Tree
left_of (var v) = var v
left_of (op l r) = l

right_of : Tree → Tree
right_of (var v) = var v
right_of (op l r) = r

-- steps by an equation at the root and in the parts

pub root_step : (e : Equation) (s t : Tree) → IsRootStep e s t → IsStepBy e [] s t
root_step e s t h = record { by = h.by; before = ap Some (sym h.before); after = ap Some (sym h.after); outside = λ u. refl }

pub step_root : (e : Equation) (s t : Tree) → IsStepBy e [] s t → IsRootStep e s t
step_root e s t h = record { by = h.by; before = sym (same_Some _ _ h.before); after = sym (same_Some _ _ h.after) }

pub step_left : (e : Equation) (p : List Side) (a b t : Tree) → IsStepBy e (to_left ∷ p) (op a b) t → (c : Tree) × IsStepBy e p a c × (t ≡ op c b)
unfolding left_of right_of
step_left e p a b (var v) h = let k = h.after in absurd (let n : None ≡ Some (apply h.by e.right) = k in cc)
step_left e p a b (op c d) h = (c, record { by = h.by; before = h.before; after = h.after; outside = λ u. ap left_of (h.outside u) }, ap (op c) (sym (ap right_of (h.outside c))))

pub step_right : (e : Equation) (p : List Side) (a b t : Tree) → IsStepBy e (to_right ∷ p) (op a b) t → (d : Tree) × IsStepBy e p b d × (t ≡ op a d)
unfolding left_of right_of
step_right e p a b (var v) h = let k = h.after in absurd (let n : None ≡ Some (apply h.by e.right) = k in cc)
step_right e p a b (op c d) h = (d, record { by = h.by; before = h.before; after = h.after; outside = λ u. ap right_of (h.outside u) }, ap (λ l. op l d) (sym (ap left_of (h.outside d))))

pub left_step : (e : Equation) (p : List Side) (a b c : Tree) → IsStepBy e p a c → IsStepBy e (to_left ∷ p) (op a b) (op c b)
left_step e p a b c h = record { by = h.by; before = h.before; after = h.after; outside = λ u. ap (λ l. op l b) (h.outside u) }

pub right_step : (e : Equation) (p : List Side) (a b d : Tree) → IsStepBy e p b d → IsStepBy e (to_right ∷ p) (op a b) (op a d)
right_step e p a b d h = record { by = h.by; before = h.before; after = h.after; outside = λ u. ap (op a) (h.outside u) }

-- steps by a law, read both ways

pub record IsLeftStep (law : Equation) (a b t : Tree) : Type 0 where
  pub to : Tree
  pub step : IsStepOf law a to
  pub is : t ≡ op to b

pub record IsRightPartStep (law : Equation) (a b t : Tree) : Type 0 where
  pub to : Tree
  pub step : IsStepOf law b to
  pub is : t ≡ op a to

pub data Stepped (law : Equation) (s t : Tree) : Type 0 where
  forwards : IsRootStep law s t → Stepped law s t
  backwards : IsRootStep (exchanged law) s t → Stepped law s t
  in_left : (a b : Tree) → s ≡ op a b → IsLeftStep law a b t → Stepped law s t
  in_right : (a b : Tree) → s ≡ op a b → IsRightPartStep law a b t → Stepped law s t

pub step_cases : (law : Equation) (s t : Tree) → IsStepOf law s t → Stepped law s t
step_cases law s t h = go h.position h.reversed s h.right
  where
    go : (p : List Side) (r : Bool) (s : Tree) → IsStepBy (as_read r law) p s t → Stepped law s t
    go [] false s k = forwards (step_root law s t k)
    go [] true s k = backwards (step_root (exchanged law) s t k)
    go (to_left ∷ p) r (var v) k = absurd (let n : None ≡ Some (apply k.by (as_read r law).left) = k.before in cc)
    go (to_left ∷ p) r (op a b) k = let m = step_left (as_read r law) p a b t k in in_left a b refl (record { to = m.0; step = record { position = p; reversed = r; right = m.1 }; is = m.2 })
    go (to_right ∷ p) r (var v) k = absurd (let n : None ≡ Some (apply k.by (as_read r law).left) = k.before in cc)
    go (to_right ∷ p) r (op a b) k = let m = step_right (as_read r law) p a b t k in in_right a b refl (record { to = m.0; step = record { position = p; reversed = r; right = m.1 }; is = m.2 })

-- a step at the root of what is in the hole
pub replaced_stepped : (space : Space) (context s t : Tree) → IsReplacedBy space space.law context s t ⊎ IsReplacedBy space (exchanged space.law) context s t → IsSteppedTo space context s t
replaced_stepped space context s t (inl r) = record {
  within = r.within;
  next = apply r.by space.law.right;
  step = record { position = []; reversed = false; right = root_step space.law s (apply r.by space.law.right) (record { by = r.by; before = r.before; after = refl }) };
  becomes = r.becomes;
}
replaced_stepped space context s t (inr r) = record {
  within = r.within;
  next = apply r.by space.law.left;
  step = record { position = []; reversed = true; right = root_step (exchanged space.law) s (apply r.by space.law.left) (record { by = r.by; before = r.before; after = refl }) };
  becomes = r.becomes;
}

pub root_replaced : (space : Space) (e : Equation) (context s n t : Tree) → IsSearchTerm space t → IsRootStep e s n → plugged context n ≡ t → IsReplacedBy space e context s t
root_replaced space e context s n t within h becomes = record { within = within; by = h.by; before = h.before; becomes = ap (plugged context) h.after ∙ becomes }

-- the hole moved into a part
module _ (m : ℕ) (few : m ≤ 64) (context : Tree) (at : IsContext m context) where
  pub moved_left : (b c : Tree) → IsBelow m b → plugged (plugged context (op (var 255) b)) c ≡ plugged context (op c b)
  moved_left b c below = composed (at_one 255 (op (var 255) b)) (at_one 255 c) context ∙ apply_agree (then_apply (at_one 255 (op (var 255) b)) (at_one 255 c)) (at_one 255 (op c b)) context (λ y h. go y (cases_eq y 255))
    where
      whole : apply (at_one 255 c) b ≡ b
      whole = apply_agree (at_one 255 c) var b (λ v h. at_one_other 255 c v (λ e. let k = below v h in omega (arith, k, few, e))) ∙ identity b

      go : (y : ℕ) → (y ≡ 255) ⊎ (y ≢ 255) → apply (at_one 255 c) (at_one 255 (op (var 255) b) y) ≡ at_one 255 (op c b) y
      go y (inl e) = ap (apply (at_one 255 c)) (at_one_same 255 (op (var 255) b) y e) ∙ (λ i. op (at_one_same 255 c 255 refl i) (whole i)) ∙ sym (at_one_same 255 (op c b) y e)
      go y (inr e) = ap (apply (at_one 255 c)) (at_one_other 255 (op (var 255) b) y e) ∙ at_one_other 255 c y e ∙ sym (at_one_other 255 (op c b) y e)

  pub moved_right : (a c : Tree) → IsBelow m a → plugged (plugged context (op a (var 255))) c ≡ plugged context (op a c)
  moved_right a c below = composed (at_one 255 (op a (var 255))) (at_one 255 c) context ∙ apply_agree (then_apply (at_one 255 (op a (var 255))) (at_one 255 c)) (at_one 255 (op a c)) context (λ y h. go y (cases_eq y 255))
    where
      whole : apply (at_one 255 c) a ≡ a
      whole = apply_agree (at_one 255 c) var a (λ v h. at_one_other 255 c v (λ e. let k = below v h in omega (arith, k, few, e))) ∙ identity a

      go : (y : ℕ) → (y ≡ 255) ⊎ (y ≢ 255) → apply (at_one 255 c) (at_one 255 (op a (var 255)) y) ≡ at_one 255 (op a c) y
      go y (inl e) = ap (apply (at_one 255 c)) (at_one_same 255 (op a (var 255)) y e) ∙ (λ i. op (whole i) (at_one_same 255 c 255 refl i)) ∙ sym (at_one_same 255 (op a c) y e)
      go y (inr e) = ap (apply (at_one 255 c)) (at_one_other 255 (op a (var 255)) y e) ∙ at_one_other 255 c y e ∙ sym (at_one_other 255 (op a c) y e)

  outside : (w : Tree) → ((y : ℕ) → Occurs y w → (y < m) ⊎ (y ≡ 255)) → IsContext m (plugged context w)
  outside w inside y h = go (occurs_plugged 255 w y context h)
    where
      go : Occurs y w ⊎ (Occurs y context × (y ≢ 255)) → (y < m) ⊎ (y ≡ 255)
      go (inl k) = inside y k
      go (inr k) = at y k.0

  pub context_left : (b : Tree) → IsBelow m b → IsContext m (plugged context (op (var 255) b))
  context_left b below = outside (op (var 255) b) inside
    where
      inside : (y : ℕ) → Occurs y (op (var 255) b) → (y < m) ⊎ (y ≡ 255)
      inside y (inl k) = inr (sym k)
      inside y (inr k) = inl (below y k)

  pub context_right : (a : Tree) → IsBelow m a → IsContext m (plugged context (op a (var 255)))
  context_right a below = outside (op a (var 255)) inside
    where
      inside : (y : ℕ) → Occurs y (op a (var 255)) → (y < m) ⊎ (y ≡ 255)
      inside y (inl k) = inl (below y k)
      inside y (inr k) = inr (sym k)

-- what the steps make of a variable in the hole, and of an operation
module _ (space : Space) (most : ℕ) (context : Tree) (old one two : List Tree) (s : Tree)
    (first : IsJoined (IsReplacedBy space space.law context s) most old one)
    (second : IsJoined (IsReplacedBy space (exchanged space.law) context s) most one two) where
  pub joined_roots : IsJoined (λ t. IsReplacedBy space space.law context s t ⊎ IsReplacedBy space (exchanged space.law) context s t) most old two
  joined_roots = joined_both (IsReplacedBy space space.law context s) (IsReplacedBy space (exchanged space.law) context s) (λ t. IsReplacedBy space space.law context s t ⊎ IsReplacedBy space (exchanged space.law) context s t) most old one two first second (λ t h. h) (λ t h. h)

  pub joined_variable : (v : ℕ) → s ≡ var v → IsJoined (IsSteppedTo space context s) most old two
  joined_variable v is = joined_same (λ t. IsReplacedBy space space.law context s t ⊎ IsReplacedBy space (exchanged space.law) context s t) (IsSteppedTo space context s) most old two joined_roots (replaced_stepped space context s) (λ t h. go t h (step_cases space.law s h.next h.step))
    where
      no_op : (a b : Tree) → s ≡ op a b → ⊥
      no_op a b e = let k : var v ≡ op a b = sym is ∙ e in cc

      go : (t : Tree) (h : IsSteppedTo space context s t) → Stepped space.law s h.next → IsReplacedBy space space.law context s t ⊎ IsReplacedBy space (exchanged space.law) context s t
      go t h (forwards k) = inl (root_replaced space space.law context s h.next t h.within k h.becomes)
      go t h (backwards k) = inr (root_replaced space (exchanged space.law) context s h.next t h.within k h.becomes)
      go t h (in_left a b e k) = absurd (no_op a b e)
      go t h (in_right a b e k) = absurd (no_op a b e)

  module _ (three four : List Tree) (few : space.variables ≤ 64) (at : IsContext space.variables context) (a b : Tree) (is : s ≡ op a b) (below : IsBelow space.variables s)
      (lefts : Tree) (is_left : lefts ≡ plugged context (op (var 255) b)) (rights : Tree) (is_right : rights ≡ plugged context (op a (var 255)))
      (third : IsJoined (IsSteppedTo space lefts a) most two three)
      (fourth : IsJoined (IsSteppedTo space rights b) most three four) where
    below_left : IsBelow space.variables a
    below_left v h = below v (subst (Occurs v) (sym is) (inl h))

    below_right : IsBelow space.variables b
    below_right v h = below v (subst (Occurs v) (sym is) (inr h))

    abbrev Roots : Tree → Type 0
    Roots t = IsReplacedBy space space.law context s t ⊎ IsReplacedBy space (exchanged space.law) context s t

    abbrev Parts : Tree → Type 0
    Parts t = IsSteppedTo space lefts a t ⊎ IsSteppedTo space rights b t

    from_left : (t : Tree) → IsSteppedTo space lefts a t → IsSteppedTo space context s t
    from_left t h = record {
      within = h.within;
      next = op h.next b;
      step = record { position = to_left ∷ h.step.position; reversed = h.step.reversed; right = subst (λ u. IsStepBy (as_read h.step.reversed space.law) (to_left ∷ h.step.position) u (op h.next b)) (sym is) (left_step (as_read h.step.reversed space.law) h.step.position a b h.next h.step.right) };
      becomes = sym (moved_left space.variables few context at b h.next below_right) ∙ ap (λ r. plugged r h.next) (sym is_left) ∙ h.becomes;
    }

    from_right : (t : Tree) → IsSteppedTo space rights b t → IsSteppedTo space context s t
    from_right t h = record {
      within = h.within;
      next = op a h.next;
      step = record { position = to_right ∷ h.step.position; reversed = h.step.reversed; right = subst (λ u. IsStepBy (as_read h.step.reversed space.law) (to_right ∷ h.step.position) u (op a h.next)) (sym is) (right_step (as_read h.step.reversed space.law) h.step.position a b h.next h.step.right) };
      becomes = sym (moved_right space.variables few context at a h.next below_left) ∙ ap (λ r. plugged r h.next) (sym is_right) ∙ h.becomes;
    }

    all_ways : (t : Tree) → Roots t ⊎ Parts t → IsSteppedTo space context s t
    all_ways t (inl h) = replaced_stepped space context s t h
    all_ways t (inr (inl h)) = from_left t h
    all_ways t (inr (inr h)) = from_right t h

    same_parts : (c d : Tree) → s ≡ op c d → (c ≡ a) × (d ≡ b)
    unfolding left_of right_of
    same_parts c d e = let k : op c d ≡ op a b = sym e ∙ is in (ap left_of k, ap right_of k)

    by_left : (t : Tree) (h : IsSteppedTo space context s t) (c d : Tree) → (c ≡ a) × (d ≡ b) → IsLeftStep space.law c d h.next → IsSteppedTo space lefts a t
    by_left t h c d e k = record {
      within = h.within;
      next = k.to;
      step = subst (λ u. IsStepOf space.law u k.to) e.0 k.step;
      becomes = ap (λ r. plugged r k.to) is_left ∙ moved_left space.variables few context at b k.to below_right ∙ ap (plugged context) (sym (k.is ∙ ap (op k.to) e.1)) ∙ h.becomes;
    }

    by_right : (t : Tree) (h : IsSteppedTo space context s t) (c d : Tree) → (c ≡ a) × (d ≡ b) → IsRightPartStep space.law c d h.next → IsSteppedTo space rights b t
    by_right t h c d e k = record {
      within = h.within;
      next = k.to;
      step = subst (λ u. IsStepOf space.law u k.to) e.1 k.step;
      becomes = ap (λ r. plugged r k.to) is_right ∙ moved_right space.variables few context at a k.to below_left ∙ ap (plugged context) (sym (k.is ∙ ap (λ l. op l k.to) e.0)) ∙ h.becomes;
    }

    which : (t : Tree) (h : IsSteppedTo space context s t) → Stepped space.law s h.next → Roots t ⊎ Parts t
    which t h (forwards k) = inl (inl (root_replaced space space.law context s h.next t h.within k h.becomes))
    which t h (backwards k) = inl (inr (root_replaced space (exchanged space.law) context s h.next t h.within k h.becomes))
    which t h (in_left c d e k) = inr (inl (by_left t h c d (same_parts c d e) k))
    which t h (in_right c d e k) = inr (inr (by_right t h c d (same_parts c d e) k))

    pub joined_operation : IsJoined (IsSteppedTo space context s) most old four
    joined_operation =
        joined_both Roots Parts (IsSteppedTo space context s) most old two four joined_roots
        (joined_both (IsSteppedTo space lefts a) (IsSteppedTo space rights b) Parts most two three four third fourth (λ t h. h) (λ t h. h))
        all_ways (λ t h. which t h (step_cases space.law s h.next h.step))

-- the whole term in the hole
pub joined_neighbours : (space : Space) (most : ℕ) (s : Tree) (old new : List Tree) (context : Tree) → context ≡ var 255 → IsSearchTerm space s → IsJoined (IsSteppedTo space context s) most old new → IsJoined (AreNeighbours space s) most old new
joined_neighbours space most s old new context is within joined = joined_same (IsSteppedTo space context s) (AreNeighbours space s) most old new joined to from
  where
    whole : (n : Tree) → plugged context n ≡ n
    whole n = ap (λ r. plugged r n) is ∙ at_one_same 255 n 255 refl

    to : (t : Tree) → IsSteppedTo space context s t → AreNeighbours space s t
    to t h = record { from = within; to = h.within; step = subst (λ u. IsStepOf space.law s u) (sym (whole h.next) ∙ h.becomes) h.step }

    from : (t : Tree) → AreNeighbours space s t → IsSteppedTo space context s t
    from t h = record { within = h.to; next = t; step = h.step; becomes = whole t }

-- nothing but the neighbours, and all of them
pub exactly : (P : Tree → Type 0) (most : ℕ) (new : List Tree) → length new ≤ most → IsJoined P most [] new → (t : Tree) → (Contains new t → P t) × (P t → Contains new t)
exactly P most new few joined t = (λ h. joined.only t (subst (λ (ts : List Tree). Contains ts t) joined.behind h), every joined.all)
  where
    every : (most < length new) ⊎ ((t : Tree) → P t → Contains new t) → P t → Contains new t
    every (inl h) p = absurd (omega (arith, h, few))
    every (inr f) p = f t p

pub op_left : {a b c d : Tree} → op a b ≡ op c d → a ≡ c
unfolding left_of
op_left e = ap left_of e

pub op_right : {a b c d : Tree} → op a b ≡ op c d → b ≡ d
unfolding right_of
op_right e = ap right_of e
