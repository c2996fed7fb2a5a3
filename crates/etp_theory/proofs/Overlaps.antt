use Rattle.std.proofs.Common.{◌≡◌, ◌≢◌, ℕ, ◌<◌, ◌≤◌, ◌+◌, ◌-◌, ◌*◌, ◌⊎◌, inl, inr, Bool, true, false, cond, eqb, ltb, List, [], ◌∷◌, Some, slice_get, refl, sym, ap, ap₂, ◌∙◌, subst, subst₂, arith, eqb-true, eq-eqb, lt-ltb, le-ltb}
use Rattle.std.proofs.lemmas.Bool.{cases_eq}
use Rattle.std.proofs.lemmas.Option.{same_Some}
use Rattle.etp_theory.specs.Trees.{Tree, var, op, bound, Occurs, Equation}
use Rattle.etp_theory.specs.Substitutions.{apply, raise}
use Rattle.etp_theory.specs.Positions.{Side, to_left, to_right, sub_at, put_at}
use Rattle.etp_theory.specs.Rewriting.{Step, at_root, in_left, in_right, Steps, stop, Joinable, IsLocallyConfluent}
use Rattle.etp_theory.specs.Weights.{Weight, coefficient, IsDecreasing, AllDecrease}
use Rattle.etp_theory.specs.Overlaps.{Overlap, PairsJoin, HasSmallVariables}
use Rattle.etp_theory.proofs.Rewriting.{one, then, steps_both, steps_pointwise, join_swapped, join_left, join_right}
use Rattle.etp_theory.proofs.Matching.{apply_agree, agree_of_apply}

-- a step of an operation, by cases
pub data OpStep (rules : List Equation) (x y b : Tree) : Type 0 where
  op_root : (i : ℕ) (e : Equation) (m : ℕ → Tree) → slice_get rules i ≡ Some e → op x y ≡ apply m e.left → b ≡ apply m e.right → OpStep rules x y b
  op_left : (x' : Tree) → Step rules x x' → b ≡ op x' y → OpStep rules x y b
  op_right : (y' : Tree) → Step rules y y' → b ≡ op x y' → OpStep rules x y b

-- where a step of an instance stands: in a variable's value, or at a part of the pattern
pub data Where (rules : List Equation) (m : ℕ → Tree) (l b : Tree) : Type 0 where
  in_variable : (n : ℕ → Tree) → ((v : ℕ) → Steps rules (m v) (n v)) → Steps rules b (apply n l) → Where rules m l b
  at_part : (p : List Side) (i : ℕ) (e : Equation) (k : ℕ → Tree) (x y : Tree) → slice_get rules i ≡ Some e → sub_at p l ≡ Some (op x y) → apply m (op x y) ≡ apply k e.left → b ≡ put_at p (apply m l) (apply k e.right) → Where rules m l b

-- a variable that occurs on the right occurs on the left
no_or_occurs : (w : Weight) (v : ℕ) (t : Tree) → (coefficient w t v ≡ 0) ⊎ Occurs v t
no_or_occurs w v (var x) = go (eqb x v) refl
  where
    go : (b : Bool) → eqb x v ≡ b → (◌≡◌ {A = ℕ} (cond b 1 0) 0) ⊎ (x ≡ v)
    go true e = inr (eqb-true x v e)
    go false e = inl refl
no_or_occurs w v (op a b) = go (no_or_occurs w v a) (no_or_occurs w v b)
  where
    go : (coefficient w a v ≡ 0) ⊎ Occurs v a → (coefficient w b v ≡ 0) ⊎ Occurs v b → (coefficient w (op a b) v ≡ 0) ⊎ Occurs v (op a b)
    go (inl h) (inl k) = inl (ap₂ (λ x y. w.on_left * x + w.on_right * y) h k ∙ omega arith)
    go (inl h) (inr k) = inr (inr k)
    go (inr h) k = inr (inl h)

product_pos : (a x k : ℕ) → 0 < a → 0 < x → 0 < a * x + k
product_pos a x k h h' = grind arith

occurs_pos : (w : Weight) (v : ℕ) (t : Tree) → 0 < w.on_left → 0 < w.on_right → Occurs v t → 0 < coefficient w t v
occurs_pos w v (var x) l r o = subst (λ b. 0 < cond b 1 0) (sym (eq-eqb x v o)) (omega arith)
occurs_pos w v (op a b) l r (inl o) = product_pos w.on_left (coefficient w a v) (w.on_right * coefficient w b v) l (occurs_pos w v a l r o)
occurs_pos w v (op a b) l r (inr o) = omega (arith, product_pos w.on_right (coefficient w b v) (w.on_left * coefficient w a v) r (occurs_pos w v b l r o))

pub kept_variables : (w : Weight) (e : Equation) → 0 < w.on_left → 0 < w.on_right → IsDecreasing w e → (v : ℕ) → Occurs v e.right → Occurs v e.left
kept_variables w e l r d v o = go (no_or_occurs w v e.left)
  where
    go : (coefficient w e.left v ≡ 0) ⊎ Occurs v e.left → Occurs v e.left
    go (inl h) = absurd (omega (arith, occurs_pos w v e.right l r o, d.coefficients v))
    go (inr h) = h

-- the two rules' substitutions in one
abbrev pub merged : (ℕ → Tree) → (ℕ → Tree) → ℕ → Tree
merged m k v = cond (ltb v 64) (m v) (k (v - 64))

merged_low : (m k : ℕ → Tree) (t : Tree) → bound t ≤ 64 → apply (merged m k) t ≡ apply m t
merged_low m k (var v) h = ap (λ b. cond b (m v) (k (v - 64))) (lt-ltb v 64 h)
merged_low m k (op a b) h = ap₂ op (merged_low m k a (omega arith)) (merged_low m k b (omega arith))

merged_high : (m k : ℕ → Tree) (t : Tree) → apply (merged m k) (raise t) ≡ apply k t
merged_high m k (var v) =
    ap (λ b. cond b (m (v + 64)) (k (v + 64 - 64))) (le-ltb (v + 64) 64 (omega arith))
    ∙ ap k (omega arith)
merged_high m k (op a b) = ap₂ op (merged_high m k a) (merged_high m k b)

bound_part : (p : List Side) (t u : Tree) → sub_at p t ≡ Some u → bound u ≤ bound t
bound_part [] t u h = subst (λ x. bound x ≤ bound t) (same_Some _ _ h) (omega arith)
bound_part (to_left ∷ p) (var x) u h = absurd (cc)
bound_part (to_left ∷ p) (op l r) u h = omega (arith, bound_part p l u h)
bound_part (to_right ∷ p) (var x) u h = absurd (cc)
bound_part (to_right ∷ p) (op l r) u h = omega (arith, bound_part p r u h)

module _ (rules : List Equation) where
  split_op : {s b : Tree} → Step rules s b → (x y : Tree) → s ≡ op x y → OpStep rules x y b
  split_op (at_root i e m g h k) x y q = op_root i e m g (sym q ∙ h) k
  split_op (in_left {a = a} {b = b} c d) x y q =
      let e : a ≡ x = cc in
      let f : c ≡ y = cc in
      op_left b (subst (λ z. Step rules z b) e d) (ap (op b) f)
  split_op (in_right {a = a} {b = b} c d) x y q =
      let e : a ≡ y = cc in
      let f : c ≡ x = cc in
      op_right b (subst (λ z. Step rules z b) e d) (ap (λ z. op z b) f)

  changed : (m : ℕ → Tree) (x : ℕ) (b : Tree) → ℕ → Tree
  changed m x b v = cond (eqb v x) b (m v)

  changed_at : (m : ℕ → Tree) (x : ℕ) (b : Tree) → changed m x b x ≡ b
  unfolding changed
  changed_at m x b = ap (λ c. cond c b (m x)) (eq-eqb x x refl)

  changed_steps : (m : ℕ → Tree) (x : ℕ) (b : Tree) → Step rules (m x) b → (v : ℕ) → Steps rules (m v) (changed m x b v)
  unfolding changed
  changed_steps m x b d v = go (eqb v x) refl
    where
      go : (c : Bool) → eqb v x ≡ c → Steps rules (m v) (cond c b (m v))
      go true e = one rules (subst (λ z. Step rules (m z) b) (sym (eqb-true v x e)) d)
      go false e = stop (m v)

  left_where : (m : ℕ → Tree) (l r b x' : Tree) → b ≡ op x' (apply m r) → Where rules m l x' → Where rules m (op l r) b
  left_where m l r b x' q (in_variable n hs st) = in_variable n hs (subst (λ z. Steps rules z (apply n (op l r))) (sym q) (steps_both rules st (steps_pointwise rules m n hs r)))
  left_where m l r b x' q (at_part p i e k x y g h u t) = at_part (to_left ∷ p) i e k x y g h u (q ∙ ap (λ z. op z (apply m r)) t)

  right_where : (m : ℕ → Tree) (l r b x' : Tree) → b ≡ op (apply m l) x' → Where rules m r x' → Where rules m (op l r) b
  right_where m l r b x' q (in_variable n hs st) = in_variable n hs (subst (λ z. Steps rules z (apply n (op l r))) (sym q) (steps_both rules (steps_pointwise rules m n hs l) st))
  right_where m l r b x' q (at_part p i e k x y g h u t) = at_part (to_right ∷ p) i e k x y g h u (q ∙ ap (λ z. op (apply m l) z) t)

  op_where : (m : ℕ → Tree) (l r b : Tree) → ((x' : Tree) → Step rules (apply m l) x' → Where rules m l x') → ((x' : Tree) → Step rules (apply m r) x' → Where rules m r x') → OpStep rules (apply m l) (apply m r) b → Where rules m (op l r) b
  op_where m l r b f g (op_root i e k h u t) = at_part [] i e k l r h refl u t
  op_where m l r b f g (op_left x' d q) = left_where m l r b x' q (f x' d)
  op_where m l r b f g (op_right x' d q) = right_where m l r b x' q (g x' d)

  pub inside : (m : ℕ → Tree) (l b : Tree) → Step rules (apply m l) b → Where rules m l b
  inside m (var x) b d = in_variable (changed m x b) (changed_steps m x b d) (subst (λ z. Steps rules b z) (sym (changed_at m x b)) (stop b))
  inside m (op l r) b d = op_where m l r b (inside m l) (inside m r) (split_op d (apply m l) (apply m r) refl)

  module _ (w : Weight) (all : AllDecrease w rules) (small : HasSmallVariables rules) (pairs : PairsJoin rules) where
    overlap_case : (i : ℕ) (e : Equation) (m : ℕ → Tree) → slice_get rules i ≡ Some e → (p : List Side) (j : ℕ) (e' : Equation) (k : ℕ → Tree) (x y : Tree) → slice_get rules j ≡ Some e' → sub_at p e.left ≡ Some (op x y) → apply m (op x y) ≡ apply k e'.left → (p ≡ [] → i ≡ j → ⊥) → Joinable rules (apply m e.right) (put_at p (apply m e.left) (apply k e'.right))
    overlap_case i e m g p j e' k x y g' h u a =
        let o : Overlap rules = record { outer = i; inner = j; outer_rule = e; inner_rule = e'; position = p; part_left = x; part_right = y; outer_listed = g; inner_listed = g'; part = h; apart = a } in
        let s = small i e g in
        let below : bound (op x y) ≤ 64 = omega (arith, bound_part p e.left (op x y) h, s.0) in
        let unified : apply (merged m k) (op x y) ≡ apply (merged m k) (raise e'.left) = merged_low m k (op x y) below ∙ u ∙ sym (merged_high m k e'.left) in
        let j' = pairs o (merged m k) unified in
        let l = merged_low m k e.left s.0 in
        let r = merged_high m k e'.right in
        subst₂ (Joinable rules) (merged_low m k e.right s.1) (ap₂ (put_at p) l r) j'

    same_case : (i j : ℕ) (e e' : Equation) (m k : ℕ → Tree) → slice_get rules i ≡ Some e → slice_get rules j ≡ Some e' → i ≡ j → apply m e.left ≡ apply k e'.left → apply m e.right ≡ apply k e'.right
    same_case i j e e' m k g g' q u =
        let f : e ≡ e' = cc in
        let u' : apply m e.left ≡ apply k e.left = u ∙ ap (λ (z : Equation). apply k z.left) (sym f) in
        let t = agree_of_apply m k e.left u' in
        apply_agree m k e.right (λ v o. t v (kept_variables w e all.left_counts all.right_counts (all.each i e g) v o)) ∙ ap (λ (z : Equation). apply k z.right) f

    part_case : (i : ℕ) (e : Equation) (m : ℕ → Tree) → slice_get rules i ≡ Some e → (p : List Side) (j : ℕ) (e' : Equation) (k : ℕ → Tree) (x y : Tree) → slice_get rules j ≡ Some e' → sub_at p e.left ≡ Some (op x y) → apply m (op x y) ≡ apply k e'.left → (i ≡ j) ⊎ (i ≢ j) → Joinable rules (apply m e.right) (put_at p (apply m e.left) (apply k e'.right))
    part_case i e m g [] j e' k x y g' h u (inl q) =
        let u' : apply m e.left ≡ apply k e'.left = ap (apply m) (same_Some _ _ h) ∙ u in
        let r = same_case i j e e' m k g g' q u' in
        record { meet = apply m e.right; from_left = stop (apply m e.right); from_right = subst (λ z. Steps rules z (apply m e.right)) r (stop (apply m e.right)) }
    part_case i e m g [] j e' k x y g' h u (inr q) = overlap_case i e m g [] j e' k x y g' h u (λ a b. q b)
    part_case i e m g (s ∷ p) j e' k x y g' h u c = overlap_case i e m g (s ∷ p) j e' k x y g' h u (λ a b. cc)

    where_case : (i : ℕ) (e : Equation) (m : ℕ → Tree) (b : Tree) → slice_get rules i ≡ Some e → Where rules m e.left b → Joinable rules (apply m e.right) b
    where_case i e m b g (in_variable n hs st) = record {
      meet = apply n e.right;
      from_left = steps_pointwise rules m n hs e.right;
      from_right = then rules st (one rules (at_root i e n g refl refl));
    }
    where_case i e m b g (at_part p j e' k x y g' h u t) = subst (Joinable rules (apply m e.right)) (sym t) (part_case i e m g p j e' k x y g' h u (cases_eq i j))

    root_case : (i : ℕ) (e : Equation) (m : ℕ → Tree) (s a b : Tree) → slice_get rules i ≡ Some e → s ≡ apply m e.left → a ≡ apply m e.right → Step rules s b → Joinable rules a b
    root_case i e m s a b g h k d = subst (λ z. Joinable rules z b) (sym k) (where_case i e m b g (inside m e.left b (subst (λ z. Step rules z b) h d)))

    locally : {s a b : Tree} → Step rules s a → Step rules s b → Joinable rules a b
    locally {s} {a} {b} (at_root i e m g h k) d = root_case i e m s a b g h k d
    locally {a = a} {b = b} (in_left {a = a1} {b = b1} c d) (at_root i e m g h k) = join_swapped rules (root_case i e m (op a1 c) b a g h k (in_left c d))
    locally (in_left c d) (in_left c' d') = join_left rules c (locally d d')
    locally (in_left {a = a1} {b = b1} c d) (in_right {a = a2} {b = b2} c' d') = record { meet = op b1 b2; from_left = one rules (in_right b1 d'); from_right = one rules (in_left b2 d) }
    locally {a = a} {b = b} (in_right {a = a1} {b = b1} c d) (at_root i e m g h k) = join_swapped rules (root_case i e m (op c a1) b a g h k (in_right c d))
    locally (in_right {a = a1} {b = b1} c d) (in_left {a = a2} {b = b2} c' d') = record { meet = op b2 b1; from_left = one rules (in_left b1 d'); from_right = one rules (in_right b2 d) }
    locally (in_right c d) (in_right c' d') = join_right rules c (locally d d')

    pub critical_pairs : IsLocallyConfluent rules
    critical_pairs s a b d d' = locally d d'
