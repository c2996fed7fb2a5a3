-- What unifying a part of the outer left side with the inner left side says of their overlap.
use Rattle.std.proofs.Common.{◌≡◌, ℕ, zero, suc, ◌+◌, ◌<◌, ◌≤◌, ◌⊎◌, inl, inr, List, [], ◌∷◌, length, Option, Some, None, slice_get, refl, sym, ap, ap₂, ◌∙◌, subst, subst₂, arith}
use Rattle.std.specs.Option.{option_map}
use Rattle.std.proofs.lemmas.Option.{slice_get-map, same_Some}
use Rattle.etp_theory.specs.Trees.{Tree, var, op, Occurs, leaves, ops, Equation}
use Rattle.etp_theory.specs.Substitutions.{apply, total, raise, value_or}
use Rattle.etp_theory.specs.Positions.{Side, to_left, to_right, sub_at, put_at}
use Rattle.etp_theory.specs.Weights.{IsDecreasing, Weight}
use Rattle.etp_theory.specs.Unifiers.{IsMostGeneral, NoUnifier}
use Rattle.etp_theory.specs.Overlaps.{Overlap, outer_part}
use Rattle.etp_theory.specs.FailingOverlaps.{IsCriticalPair}
use Rattle.etp_theory.proofs.Overlaps.{kept_variables}
use Rattle.etp_theory.proofs.Theorems.{term_theorems, unification_theorems}
use Rattle.etp_theory.proofs.General.{pair_renamed}
use Rattle.etp_theory.proofs.Unifiers.{instance_occurs}
use Rattle.etp_term.specs.Positions.{position_of}
use Rattle.etp_term.specs.declared.position.Side as Sides
use Rattle.etp_rules.specs.Rules.{rule_of, rules_of}
use Rattle.etp_rules.specs.Weighing.{weight_of}
use Rattle.etp_rules.specs.Systems.{IsSystem, rule_numbered}
use Rattle.etp_rules.specs.declared.rule.Rule.{Rule}
use Rattle.etp_rules.specs.declared.weighing.Weights.{Weights}
use Rattle.etp_unify.proofs.Singles.{in_instance}
use Rattle.etp_pairs.specs.Numbering.{HaveFewVariables, AreNumbered}
use Rattle.etp_pairs.specs.Pairs.{IsAt, IsPairOf, HasNoPair, AreResults}

-- a rule by its number, and in the list of equations

pub numbered_rule : (rules : List Rule) (n : ℕ) (x : Rule) → Some x ≡ rule_numbered rules n → (i : ℕ) × (i + 1 ≡ n) × (slice_get (rules_of rules) i ≡ Some (rule_of x))
numbered_rule rules zero x h = absurd (cc)
numbered_rule rules (suc n) x h = (n, omega arith, slice_get-map rule_of rules n ∙ ap (option_map rule_of) (sym h))

pub not_numbered : (rules : List Rule) (n i : ℕ) (e : Equation) → None ≡ rule_numbered rules n → i + 1 ≡ n → slice_get (rules_of rules) i ≡ Some e → ⊥
not_numbered rules zero i e h q l = omega (arith, q)
not_numbered rules (suc n) i e h q l =
    let same : i ≡ n = omega (arith, q) in
    let f : Some e ≡ None = sym l ∙ slice_get-map rule_of rules i ∙ ap (λ j. option_map rule_of (slice_get rules j)) same ∙ ap (option_map rule_of) (sym h) in
    cc

-- not the root where both are one rule

pub not_empty : (sides : List Sides.Side) → (length sides ≡ 0 → ⊥) → position_of sides ≡ [] → ⊥
not_empty [] h e = h refl
not_empty (d ∷ sides) h e = absurd (cc)

-- where there is no overlap, or one without a unifier

module _ (rules : List Equation) (outer inner : ℕ) (p : List Side) where
  pub none_at_own_root : outer ≡ inner → p ≡ [] → HasNoPair rules outer p inner
  none_at_own_root e q o at = absurd (o.apart (at.position_is ∙ q) (omega (arith, e, at.outer_is, at.inner_is)))

  module _ (i : ℕ) (e : Equation) (is : i + 1 ≡ outer) (listed : slice_get rules i ≡ Some e) where
    outer_rule_is : (o : Overlap rules) → IsAt outer p inner o → o.outer_rule ≡ e
    outer_rule_is o at =
        let same : o.outer ≡ i = omega (arith, is, at.outer_is) in
        let f : Some o.outer_rule ≡ Some e = sym o.outer_listed ∙ ap (slice_get rules) same ∙ listed in cc

    part_is : (o : Overlap rules) → IsAt outer p inner o → sub_at p e.left ≡ Some (outer_part o)
    part_is o at = ap₂ sub_at (sym at.position_is) (ap (λ (x : Equation). x.left) (sym (outer_rule_is o at))) ∙ o.part

    pub none_outside : sub_at p e.left ≡ None → HasNoPair rules outer p inner
    none_outside h o at = absurd (let f : None ≡ Some (outer_part o) = sym h ∙ part_is o at in cc)

    pub none_at_variable : (v : ℕ) (t : Tree) → sub_at p e.left ≡ Some t → t ≡ var v → HasNoPair rules outer p inner
    none_at_variable v t h q o at = absurd (let f : Some (var v) ≡ Some (outer_part o) = ap Some (sym q) ∙ sym h ∙ part_is o at in cc)

    module _ (j : ℕ) (f : Equation) (is_inner : j + 1 ≡ inner) (inner_listed : slice_get rules j ≡ Some f) (t : Tree) (part : sub_at p e.left ≡ Some t) where
      inner_rule_is : (o : Overlap rules) → IsAt outer p inner o → o.inner_rule ≡ f
      inner_rule_is o at =
          let same : o.inner ≡ j = omega (arith, is_inner, at.inner_is) in
          let g : Some o.inner_rule ≡ Some f = sym o.inner_listed ∙ ap (slice_get rules) same ∙ inner_listed in cc

      pub none_unifies : NoUnifier t (raise f.left) → HasNoPair rules outer p inner
      none_unifies h o at = subst₂ NoUnifier (same_Some _ _ (sym part ∙ part_is o at)) (ap (λ (x : Equation). raise x.left) (sym (inner_rule_is o at))) h

      -- where there is one with a unifier

      module _ (a b : Tree) (is_op : t ≡ op a b) (apart : p ≡ [] → outer ≡ inner → ⊥) where
        pub overlap_there : Overlap rules
        overlap_there = record {
          outer = i;
          inner = j;
          outer_rule = e;
          inner_rule = f;
          position = p;
          part_left = a;
          part_right = b;
          outer_listed = listed;
          inner_listed = inner_listed;
          part = part ∙ ap Some is_op;
          apart = λ q k. apart q (omega (arith, is, is_inner, k));
        }

        pub is_there : IsAt outer p inner overlap_there
        unfolding overlap_there
        is_there = record { outer_is = is; position_is = refl; inner_is = is_inner }

        critical : (s u : Tree) → AreResults e f p t s u → IsCriticalPair overlap_there s u
        unfolding overlap_there
        critical s u r = record {
          unifier = total r.by;
          general = subst (λ x. IsMostGeneral (total r.by) x (raise f.left)) is_op ((unification_theorems.finite r.by t (raise f.left)).0 r.most.general);
          left = r.left;
          right = r.right;
        }

        pub pair_there : (s u s' u' : Tree) → AreResults e f p t s u → AreNumbered s u s' u' → IsPairOf overlap_there s' u'
        pair_there s u s' u' r n = record {
          critical = subst₂ (IsCriticalPair overlap_there) (sym n.left) (sym n.right) (pair_renamed overlap_there s u n.by n.apart (critical s u r));
          numbered = n.numbered;
          left_small = n.left_small;
          right_small = n.right_small;
        }

-- the variables of both results are those of both left sides

leaves_raised : (t : Tree) → leaves (raise t) ≡ leaves t
leaves_raised (var v) = refl
leaves_raised (op a b) = ap₂ (λ m n. m + n) (leaves_raised a) (leaves_raised b)

of_part : (v : ℕ) (p : List Side) (t u : Tree) → sub_at p t ≡ Some u → Occurs v u → Occurs v t
of_part v [] t u h o = subst (Occurs v) (sym (same_Some _ _ h)) o
of_part v (to_left ∷ p) (var x) u h o = absurd (cc)
of_part v (to_left ∷ p) (op a b) u h o = inl (of_part v p a u h o)
of_part v (to_right ∷ p) (var x) u h o = absurd (cc)
of_part v (to_right ∷ p) (op a b) u h o = inr (of_part v p b u h o)

of_put : (v : ℕ) (p : List Side) (t u : Tree) → Occurs v (put_at p t u) → Occurs v t ⊎ Occurs v u
of_put v [] t u o = inr o
of_put v (to_left ∷ p) (var x) u o = inl o
of_put v (to_left ∷ p) (op a b) u (inl o) = elim (of_put v p a u o) [ inl x ↦ inl (inl x) | inr x ↦ inr x ]
of_put v (to_left ∷ p) (op a b) u (inr o) = inl (inr o)
of_put v (to_right ∷ p) (var x) u o = inl o
of_put v (to_right ∷ p) (op a b) u (inl o) = inl (inl o)
of_put v (to_right ∷ p) (op a b) u (inr o) = elim (of_put v p b u o) [ inl x ↦ inl (inr x) | inr x ↦ inr x ]

module _ (e f : Equation) (p : List Side) (t s u : Tree) (part : sub_at p e.left ≡ Some t) (r : AreResults e f p t s u) where
  whole : Tree
  whole = op e.left (raise f.left)

  in_value : (z v : ℕ) → Occurs z whole → Occurs v (total r.by z) → Occurs v whole
  unfolding whole
  in_value z v o k = go (r.by.value z) refl k
    where
      go : (x : Option Tree) → r.by.value z ≡ x → Occurs v (value_or x (var z)) → Occurs v whole
      go None h q = subst (λ y. Occurs y whole) q o
      go (Some y) h q = elim (r.most.variables z v y h q).1 [ inl a ↦ inl (of_part v p e.left t part a) | inr b ↦ inr b ]

  module _ (w : Weight) (left_counts : 0 < w.on_left) (right_counts : 0 < w.on_right) (falls : IsDecreasing w e) (inner_falls : IsDecreasing w f) where
    in_left : (v : ℕ) → Occurs v s → Occurs v whole
    unfolding whole
    in_left v o =
        let x = instance_occurs (total r.by) v e.right (subst (Occurs v) r.left o) in
        in_value x.0 v (inl (kept_variables w e left_counts right_counts falls x.0 x.1)) x.2

    in_right : (v : ℕ) → Occurs v u → Occurs v whole
    unfolding whole
    in_right v o = go (of_put v p (apply (total r.by) e.left) (apply (total r.by) (raise f.right)) (subst (Occurs v) r.right o))
      where
        go : Occurs v (apply (total r.by) e.left) ⊎ Occurs v (apply (total r.by) (raise f.right)) → Occurs v whole
        go (inl k) = let x = instance_occurs (total r.by) v e.left k in in_value x.0 v (inl x.1) x.2
        go (inr k) =
            let x = instance_occurs (total r.by) v (raise f.right) k in
            let y = instance_occurs (λ n. var (n + 64)) x.0 f.right x.1 in
            in_value x.0 v (inr (in_instance (λ n. var (n + 64)) x.0 y.0 f.left (kept_variables w f left_counts right_counts inner_falls y.0 y.1) y.2)) x.2

    pub few_variables : ops e.left ≤ 12 → ops f.left ≤ 12 → HaveFewVariables s u
    unfolding whole
    few_variables h k = record {
      whole = whole;
      few = omega (arith, h, k, term_theorems.leaves_ops e.left, term_theorems.leaves_ops f.left, leaves_raised f.left);
      first = in_left;
      second = in_right;
    }

pub few_in_system : (weights : Weights) (rules : List Rule) (i j : ℕ) (e f : Equation) (p : List Side) (t s u : Tree) → IsSystem weights rules → slice_get (rules_of rules) i ≡ Some e → slice_get (rules_of rules) j ≡ Some f → sub_at p e.left ≡ Some t → AreResults e f p t s u → HaveFewVariables s u
few_in_system weights rules i j e f p t s u system h k part r =
    let a = system.allowed i e h in
    let b = system.allowed j f k in
    few_variables e f p t s u part r (weight_of weights) (omega (arith, system.weight.left_low)) (omega (arith, system.weight.right_low)) a.decreasing b.decreasing a.left_small b.left_small
