-- Pairs of terms: taken off and put back, and how much is left of them.
use Rattle.std.proofs.Common.{◌≡◌, ◌≢◌, ℕ, ◌+◌, ◌<◌, ◌≤◌, ◌↔◌, List, [], ◌∷◌, ◌++◌, Some, refl, sym, ap, ap₂, ◌∙◌, subst, arith, length}
use Rattle.etp_theory.specs.Trees.{Tree, var, op}
use Rattle.etp_theory.specs.Substitutions.{apply, Partial}
use Rattle.etp_term.specs.Terms.{tree_of}
use Rattle.etp_match.specs.Bindings.{partial_of}
use Rattle.etp_match.specs.declared.subst.Binding.{Binding}
use Rattle.etp_unify.specs.Triangular.{IsTriangular}
use Rattle.etp_unify.specs.Values.{Leads, here, further, IsEnd}
use Rattle.etp_unify.specs.Solving.{Respects, Equates, IsDifference}
use Rattle.etp_unify.specs.declared.solving.Pair.{Pair}
use Rattle.etp_unify.proofs.Triangular.{weight, weight_op, weight_value}

-- one step further along the values
pub leads_further : (values : Partial) (s : Tree) (v : ℕ) (t : Tree) → Leads values s (var v) → values.value v ≡ Some t → Leads values s t
leads_further values s v t (here u) e = further v t t e (here t)
leads_further values s v t (further w u x h k) e = further w u t h (leads_further values u v t k e)

pub leads_equal : (values : Partial) (s t : Tree) → Leads values s t → (n : ℕ → Tree) → Respects n values → apply n s ≡ apply n t
leads_equal values s t (here u) n h = refl
leads_equal values s t (further v u x e k) n h = h v u e ∙ leads_equal values u x k n h

pub leads_lighter : (bindings : List Binding) → IsTriangular bindings → (s t : Tree) → Leads (partial_of bindings) s t → weight bindings t ≤ weight bindings s
leads_lighter bindings h s t (here u) = omega arith
leads_lighter bindings h s t (further v u x e k) = omega (arith, weight_value bindings h v u e, leads_lighter bindings h u x k)

-- pairs behind others

pub equates_both : (n : ℕ → Tree) (ps qs : List Pair) → Equates n ps → Equates n qs → Equates n (ps ++ qs)
equates_both n [] qs h k = k
equates_both n (p ∷ ps) qs h k = (h.0, equates_both n ps qs h.1 k)

pub equates_parts : (n : ℕ → Tree) (ps qs : List Pair) → Equates n (ps ++ qs) → Equates n ps × Equates n qs
equates_parts n [] qs h = (tt, h)
equates_parts n (p ∷ ps) qs h = let r = equates_parts n ps qs h.1 in ((h.0, r.0), r.1)

-- what is left

pub load : List Binding → List Pair → ℕ
load bindings [] = 0
load bindings (p ∷ ps) = weight bindings (tree_of p.left.now) + weight bindings (tree_of p.right.now) + 1 + load bindings ps

pub load_after : (bindings : List Binding) (ps qs : List Pair) → load bindings (ps ++ qs) ≡ load bindings ps + load bindings qs
unfolding load
load_after bindings [] qs = omega arith
load_after bindings (p ∷ ps) qs = omega (arith, load_after bindings ps qs)

pub load_one : (bindings : List Binding) (p : Pair) → load bindings (p ∷ []) ≡ weight bindings (tree_of p.left.now) + weight bindings (tree_of p.right.now) + 1
unfolding load
load_one bindings p = omega arith

-- one pair is taken off the end, and both its sides led to their ends
module _ (bindings : List Binding) (h : IsTriangular bindings) (before rest : List Pair) (p : Pair) (popped : before ≡ rest ++ p ∷ []) (l r : Tree) (left : IsEnd (partial_of bindings) (tree_of p.left.now) l) (right : IsEnd (partial_of bindings) (tree_of p.right.now) r) where
  abbrev Holds : (ℕ → Tree) → List Pair → Type 0
  Holds n ps = (apply n l ≡ apply n r) × Equates n ps

  ends_of : (n : ℕ → Tree) → Respects n (partial_of bindings) → Equates n before → Holds n rest
  ends_of n k e =
      let both = equates_parts n rest (p ∷ []) (subst (Equates n) popped e) in
      (sym (leads_equal (partial_of bindings) _ l left.leads n k) ∙ both.1.0 ∙ leads_equal (partial_of bindings) _ r right.leads n k, both.0)

  pair_of : (n : ℕ → Tree) → Respects n (partial_of bindings) → Holds n rest → Equates n before
  pair_of n k e =
      subst (Equates n) (sym popped)
      (equates_both n rest (p ∷ []) e.1 (leads_equal (partial_of bindings) _ l left.leads n k ∙ e.0 ∙ sym (leads_equal (partial_of bindings) _ r right.leads n k), tt))

  load_popped : weight bindings l + weight bindings r + 1 + load bindings rest ≤ load bindings before
  load_popped = subst (λ (ps : List Pair). weight bindings l + weight bindings r + 1 + load bindings rest ≤ load bindings ps) (sym popped)
      (omega (arith, load_after bindings rest (p ∷ []), load_one bindings p, leads_lighter bindings h _ l left.leads, leads_lighter bindings h _ r right.leads))

  -- both sides are operations: their parts are put back
  pub parts_lighter : (a b c d : Tree) (q o : Pair) (after : List Pair) → l ≡ op a b → r ≡ op c d → tree_of q.left.now ≡ b → tree_of q.right.now ≡ d → tree_of o.left.now ≡ a → tree_of o.right.now ≡ c → after ≡ (rest ++ q ∷ []) ++ o ∷ [] → load bindings after < load bindings before
  parts_lighter a b c d q o after el er qb qd oa oc e =
      let whole : weight bindings l ≡ weight bindings a + weight bindings b + 1 = ap (weight bindings) el ∙ weight_op bindings a b in
      let other : weight bindings r ≡ weight bindings c + weight bindings d + 1 = ap (weight bindings) er ∙ weight_op bindings c d in
      let put : load bindings after ≡ load bindings ((rest ++ q ∷ []) ++ o ∷ []) = ap (load bindings) e in
      omega (arith, load_popped, whole, other, put, load_after bindings (rest ++ q ∷ []) (o ∷ []), load_after bindings rest (q ∷ []), load_one bindings q, load_one bindings o, ap (weight bindings) qb, ap (weight bindings) qd, ap (weight bindings) oa, ap (weight bindings) oc)

  pub parts_same : (a b c d : Tree) (q o : Pair) (after : List Pair) → l ≡ op a b → r ≡ op c d → tree_of q.left.now ≡ b → tree_of q.right.now ≡ d → tree_of o.left.now ≡ a → tree_of o.right.now ≡ c → after ≡ (rest ++ q ∷ []) ++ o ∷ [] → (n : ℕ → Tree) → Respects n (partial_of bindings) → Equates n before ↔ Equates n after
  parts_same a b c d q o after el er qb qd oa oc e n k = (into, back)
    where
      into : Equates n before → Equates n after
      into g =
          let both = ends_of n k g in
          let f : op (apply n a) (apply n b) ≡ op (apply n c) (apply n d) = ap (apply n) (sym el) ∙ both.0 ∙ ap (apply n) er in
          let first : apply n a ≡ apply n c = cc in
          let second : apply n b ≡ apply n d = cc in
          subst (Equates n) (sym e)
          (equates_both n (rest ++ q ∷ []) (o ∷ [])
          (equates_both n rest (q ∷ []) both.1 (ap (apply n) qb ∙ second ∙ ap (apply n) (sym qd), tt))
          (ap (apply n) oa ∙ first ∙ ap (apply n) (sym oc), tt))

      back : Equates n after → Equates n before
      back g =
          let all = equates_parts n (rest ++ q ∷ []) (o ∷ []) (subst (Equates n) e g) in
          let some = equates_parts n rest (q ∷ []) all.0 in
          let first : apply n a ≡ apply n c = ap (apply n) (sym oa) ∙ all.1.0 ∙ ap (apply n) oc in
          let second : apply n b ≡ apply n d = ap (apply n) (sym qb) ∙ some.1.0 ∙ ap (apply n) qd in
          pair_of n k (ap (apply n) el ∙ ap₂ op first second ∙ ap (apply n) (sym er), some.0)

  -- both sides are one variable
  pub same_lighter : load bindings rest < load bindings before
  same_lighter = omega (arith, load_popped)

  pub same_same : l ≡ r → (n : ℕ → Tree) → Respects n (partial_of bindings) → Equates n before ↔ Equates n rest
  same_same e n k = (λ g. (ends_of n k g).1, λ g. pair_of n k (ap (apply n) e, g))

  -- a variable stands against another term
  pub left_difference : (v : ℕ) → l ≡ var v → r ≢ var v → (all : List Pair) → ((n : ℕ → Tree) → Respects n (partial_of bindings) → Equates n all ↔ Equates n before) → IsDifference (partial_of bindings) all rest v r
  left_difference v e other all same = record {
    free = left.last v e;
    other = other;
    last = right.last;
    same = λ n k. (
      λ g. let both = ends_of n k ((same n k).0 g) in (ap (apply n) (sym e) ∙ both.0, both.1),
      λ g. (same n k).1 (pair_of n k (ap (apply n) e ∙ g.0, g.1)),
    );
  }

  pub right_difference : (v : ℕ) → r ≡ var v → l ≢ var v → (all : List Pair) → ((n : ℕ → Tree) → Respects n (partial_of bindings) → Equates n all ↔ Equates n before) → IsDifference (partial_of bindings) all rest v l
  right_difference v e other all same = record {
    free = right.last v e;
    other = other;
    last = left.last;
    same = λ n k. (
      λ g. let both = ends_of n k ((same n k).0 g) in (ap (apply n) (sym e) ∙ sym both.0, both.1),
      λ g. (same n k).1 (pair_of n k (sym g.0 ∙ ap (apply n) (sym e), g.1)),
    );
  }

-- with no pair left
pub none_equal : (n : ℕ → Tree) (ps : List Pair) → length ps ≡ 0 → Equates n ps
none_equal n [] e = tt
none_equal n (p ∷ ps) e = absurd (omega (arith, e))
