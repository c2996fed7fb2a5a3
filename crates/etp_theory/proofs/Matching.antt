use Rattle.std.proofs.Common.{◌≡◌, ℕ, zero, suc, ◌⊎◌, inl, inr, Bool, true, false, cond, eqb, List, [], ◌∷◌, Option, Some, None, slice_get, refl, sym, ap, ap₂, ◌∙◌, subst, eqb-true, eq-eqb}
use Rattle.etp_theory.specs.Trees.{Tree, var, op, Occurs, Equation}
use Rattle.etp_theory.specs.Substitutions.{apply, value_or}
use Rattle.etp_theory.specs.Rewriting.{Step, at_root, in_left, in_right}
use Rattle.etp_theory.specs.Strategy.{same, first_some, within, read, matcher, try_rule, try_rules, next}

and_true : (x y : Bool) → cond x y false ≡ true → (x ≡ true) × (y ≡ true)
and_true true y h = (refl, h)
and_true false y h = absurd (cc)

pub same_eq : (s t : Tree) → same s t ≡ true → s ≡ t
same_eq (var x) (var y) h = ap var (eqb-true x y h)
same_eq (var x) (op c d) h = absurd (cc)
same_eq (op a b) (var y) h = absurd (cc)
same_eq (op a b) (op c d) h = let k = and_true (same a c) (same b d) h in ap₂ op (same_eq a c k.0) (same_eq b d k.1)

pub same_refl : (t : Tree) → same t t ≡ true
same_refl (var x) = eq-eqb x x refl
same_refl (op a b) = ap₂ (λ x y. cond x y false) (same_refl a) (same_refl b)

pub apply_agree : (m n : ℕ → Tree) (t : Tree) → ((v : ℕ) → Occurs v t → m v ≡ n v) → apply m t ≡ apply n t
apply_agree m n (var x) h = h x refl
apply_agree m n (op a b) h = ap₂ op (apply_agree m n a (λ v o. h v (inl o))) (apply_agree m n b (λ v o. h v (inr o)))

pub agree_of_apply : (m n : ℕ → Tree) (t : Tree) → apply m t ≡ apply n t → (v : ℕ) → Occurs v t → m v ≡ n v
agree_of_apply m n (var x) h v o = subst (λ y. m y ≡ n y) o h
agree_of_apply m n (op a b) h v (inl o) = agree_of_apply m n a (cc) v o
agree_of_apply m n (op a b) h v (inr o) = agree_of_apply m n b (cc) v o

read_var : (n : ℕ → Tree) (x v : ℕ) (b : Bool) → eqb x v ≡ b → (cond b (Some (n x)) None ≡ None) ⊎ (cond b (Some (n x)) None ≡ Some (n v))
read_var n x v true e = inr (ap (λ y. Some (n y)) (eqb-true x v e))
read_var n x v false e = inl refl

first_known : (u : Tree) (a b : Option Tree) → (a ≡ None) ⊎ (a ≡ Some u) → (b ≡ None) ⊎ (b ≡ Some u) → (first_some a b ≡ None) ⊎ (first_some a b ≡ Some u)
first_known u None b h k = k
first_known u (Some x) b (inl h) k = absurd (cc)
first_known u (Some x) b (inr h) k = inr h

read_known : (n : ℕ → Tree) (l : Tree) (v : ℕ) → (read l (apply n l) v ≡ None) ⊎ (read l (apply n l) v ≡ Some (n v))
read_known n (var x) v = read_var n x v (eqb x v) refl
read_known n (op a b) v = first_known (n v) (read a (apply n a) v) (read b (apply n b) v) (read_known n a v) (read_known n b v)

first_right : (u : Tree) (a b : Option Tree) → (a ≡ None) ⊎ (a ≡ Some u) → b ≡ Some u → first_some a b ≡ Some u
first_right u None b h k = k
first_right u (Some x) b (inl h) k = absurd (cc)
first_right u (Some x) b (inr h) k = h

pub read_found : (n : ℕ → Tree) (l : Tree) (v : ℕ) → Occurs v l → read l (apply n l) v ≡ Some (n v)
read_found n (var x) v o = ap (λ b. cond b (Some (n x)) None) (eq-eqb x v o) ∙ ap (λ y. Some (n y)) o
read_found n (op a b) v (inl o) = ap (λ z. first_some z (read b (apply n b) v)) (read_found n a v o)
read_found n (op a b) v (inr o) = first_right (n v) (read a (apply n a) v) (read b (apply n b) v) (read_known n a v) (read_found n b v o)

pub matcher_found : (n : ℕ → Tree) (l : Tree) → apply (matcher l (apply n l)) l ≡ apply n l
matcher_found n l = apply_agree (matcher l (apply n l)) n l (λ v o. ap (λ z. value_or z (var v)) (read_found n l v o))

pub rule_some : (e : Equation) (t u : Tree) (b : Bool) → same (apply (matcher e.left t) e.left) t ≡ b → cond b (Some (apply (matcher e.left t) e.right)) None ≡ Some u → (t ≡ apply (matcher e.left t) e.left) × (u ≡ apply (matcher e.left t) e.right)
rule_some e t u true h k = (sym (same_eq _ _ h), cc)
rule_some e t u false h k = absurd (cc)

pub rule_none : (e : Equation) (t : Tree) (n : ℕ → Tree) → t ≡ apply n e.left → same (apply (matcher e.left t) e.left) t ≡ true
rule_none e t n h = subst (λ x. same (apply (matcher e.left x) e.left) x ≡ true) (sym h) (ap (λ z. same z (apply n e.left)) (matcher_found n e.left) ∙ same_refl (apply n e.left))

pub record RootStep (rules : List Equation) (t u : Tree) : Type 0 where
  pub number : ℕ
  pub rule : Equation
  pub by : ℕ → Tree
  pub listed : slice_get rules number ≡ Some rule
  pub here : t ≡ apply by rule.left
  pub there : u ≡ apply by rule.right

rules_some : (e : Equation) (rest : List Equation) (t u : Tree) (o : Option Tree) → try_rule e t ≡ o → first_some o (try_rules rest t) ≡ Some u → (try_rules rest t ≡ Some u → RootStep rest t u) → RootStep (e ∷ rest) t u
rules_some e rest t u None h k i = let r = i k in record { number = suc r.number; rule = r.rule; by = r.by; listed = r.listed; here = r.here; there = r.there }
rules_some e rest t u (Some x) h k i =
    let r = rule_some e t u (same (apply (matcher e.left t) e.left) t) refl (h ∙ k) in
    record { number = zero; rule = e; by = matcher e.left t; listed = refl; here = r.0; there = r.1 }

pub try_rules_some : (rules : List Equation) (t u : Tree) → try_rules rules t ≡ Some u → RootStep rules t u
try_rules_some [] t u h = absurd (cc)
try_rules_some (e ∷ rest) t u h = rules_some e rest t u (try_rule e t) refl h (try_rules_some rest t u)

first_none : (a b : Option Tree) → first_some a b ≡ None → (a ≡ None) × (b ≡ None)
first_none None b h = (refl, h)
first_none (Some x) b h = absurd (cc)

within_none : (f : Tree → Tree) (a : Option Tree) → within f a ≡ None → a ≡ None
within_none f None h = refl
within_none f (Some x) h = absurd (cc)

pub try_rules_none : (rules : List Equation) (t : Tree) → try_rules rules t ≡ None → (i : ℕ) (e : Equation) (n : ℕ → Tree) → slice_get rules i ≡ Some e → t ≡ apply n e.left → ⊥
try_rules_none [] t h i e n g k = cc
try_rules_none (e' ∷ rest) t h zero e n g k =
    let q = first_none (try_rule e' t) (try_rules rest t) h in
    let same' : e' ≡ e = cc in
    let b = rule_none e' t n (subst (λ (x : Equation). t ≡ apply n x.left) (sym same') k) in
    let c : Some (apply (matcher e'.left t) e'.right) ≡ None = sym (ap (λ z. cond z (Some (apply (matcher e'.left t) e'.right)) None) b) ∙ q.0 in
    cc
try_rules_none (e' ∷ rest) t h (suc i) e n g k = try_rules_none rest t (first_none (try_rule e' t) (try_rules rest t) h).1 i e n g k

module _ (rules : List Equation) where
  root_step : (t u : Tree) → try_rules rules t ≡ Some u → Step rules t u
  root_step t u h = let r = try_rules_some rules t u h in at_root r.number r.rule r.by r.listed r.here r.there

  step_op : (l r t : Tree) (a b : Option Tree) → next rules l ≡ a → next rules r ≡ b → ((x : Tree) → next rules l ≡ Some x → Step rules l x) → ((x : Tree) → next rules r ≡ Some x → Step rules r x) →
      first_some (within (λ x. op x r) a) (first_some (within (λ x. op l x) b) (try_rules rules (op l r))) ≡ Some t → Step rules (op l r) t
  step_op l r t (Some x) b e f i j h = subst (Step rules (op l r)) (let q : op x r ≡ t = cc in q) (in_left r (i x e))
  step_op l r t None (Some x) e f i j h = subst (Step rules (op l r)) (let q : op l x ≡ t = cc in q) (in_right l (j x f))
  step_op l r t None None e f i j h = root_step (op l r) t h

  pub next_some : (s t : Tree) → next rules s ≡ Some t → Step rules s t
  next_some (var v) t h = root_step (var v) t h
  next_some (op l r) t h = step_op l r t (next rules l) (next rules r) refl refl (next_some l) (next_some r) h

  root_none : (s : Tree) → next rules s ≡ None → try_rules rules s ≡ None
  root_none (var v) h = h
  root_none (op l r) h = (first_none (within (λ x. op l x) (next rules r)) (try_rules rules (op l r)) (first_none (within (λ x. op x r) (next rules l)) (first_some (within (λ x. op l x) (next rules r)) (try_rules rules (op l r))) h).1).1

  left_none : (l r : Tree) → next rules (op l r) ≡ None → next rules l ≡ None
  left_none l r h = within_none (λ x. op x r) (next rules l) (first_none (within (λ x. op x r) (next rules l)) (first_some (within (λ x. op l x) (next rules r)) (try_rules rules (op l r))) h).0

  right_none : (l r : Tree) → next rules (op l r) ≡ None → next rules r ≡ None
  right_none l r h = within_none (λ x. op l x) (next rules r) (first_none (within (λ x. op l x) (next rules r)) (try_rules rules (op l r)) (first_none (within (λ x. op x r) (next rules l)) (first_some (within (λ x. op l x) (next rules r)) (try_rules rules (op l r))) h).1).0

  pub next_none : {s t : Tree} → next rules s ≡ None → Step rules s t → ⊥
  next_none {s} h (at_root i e m g k k') = try_rules_none rules s (root_none s h) i e m g k
  next_none h (in_left {a = a} c d) = next_none (left_none a c h) d
  next_none h (in_right {a = a} c d) = next_none (right_none c a h) d
