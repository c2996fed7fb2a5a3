-- The first failing overlaps of the rule (x ◇ y) ◇ (y ◇ z) → y, alone and with x ◇ y → x after it.
use Rattle.std.proofs.Common.{◌≡◌, ℕ, zero, suc, ◌<◌, ◌≤◌, Bool, true, false, cond, eqb, eqb-true, List, [], ◌∷◌, Some, None, slice_get, refl, sym, ap, ◌∙◌, subst, arith}
use Rattle.etp_theory.specs.Trees.{Tree, var, op, leaves, Equation}
use Rattle.etp_theory.specs.Substitutions.{apply}
use Rattle.etp_theory.specs.Positions.{Side, to_left, to_right}
use Rattle.etp_theory.specs.Strategy.{next, walk}
use Rattle.etp_theory.specs.Forms.{IsFormOf}
use Rattle.etp_theory.specs.Unifiers.{IsMostGeneral}
use Rattle.etp_theory.specs.Overlaps.{Overlap, outer_part, inner_part, PairPasses}
use Rattle.etp_theory.specs.FailingOverlaps.{PositionBefore, place, PlaceBefore, by_outer, by_position, by_inner, two_forms, IsFirstFailing}
use Rattle.etp_theory.specs.Examples.{central, left_projection, product, long_product}
use Rattle.etp_theory.proofs.Convergent.{walk_stays}

abbrev system : List Equation
system = central ∷ []

listed : (i : ℕ) (e : Equation) → slice_get system i ≡ Some e → i ≡ 0
listed zero e h = refl
listed (suc i) e h = absurd (cc)

not_root : ◌≡◌ {A = List Side} (to_left ∷ []) [] → ◌≡◌ {A = ℕ} 0 0 → ⊥
not_root h e = absurd (cc)

abbrev own_overlap : Overlap system
own_overlap = record {
  outer = 0;
  inner = 0;
  outer_rule = central;
  inner_rule = central;
  position = to_left ∷ [];
  part_left = var 0;
  part_right = var 1;
  outer_listed = refl;
  inner_listed = refl;
  part = refl;
  apart = not_root;
}

-- x and y put to the two parts of the raised left side, with the names of the example
abbrev unifier : ℕ → Tree
unifier v = cond (eqb v 0) (op (var 64) (var 0)) (cond (eqb v 1) (op (var 0) (var 1)) (cond (eqb v 65) (var 0) (cond (eqb v 66) (var 1) (var v))))

module _ (n : ℕ → Tree) (e : apply n (op (var 0) (var 1)) ≡ apply n (op (op (var 64) (var 65)) (op (var 65) (var 66)))) where
  abbrev back : ℕ → Tree
  back v = cond (eqb v 0) (n 65) (cond (eqb v 1) (n 66) (n v))

  first : n 0 ≡ op (n 64) (n 65)
  first = cc

  second : n 1 ≡ op (n 65) (n 66)
  second = cc

  factored : (v : ℕ) → apply back (unifier v) ≡ n v
  factored v = at_0 (eqb v 0) refl
    where
      at_66 : eqb v 0 ≡ false → eqb v 1 ≡ false → (b : Bool) → eqb v 66 ≡ b → apply back (cond b (var 1) (var v)) ≡ n v
      at_66 h k true q = ap n (sym (eqb-true v 66 q))
      at_66 h k false q = ap (λ c. cond c (n 65) (cond (eqb v 1) (n 66) (n v))) h ∙ ap (λ c. cond c (n 66) (n v)) k

      at_65 : eqb v 0 ≡ false → eqb v 1 ≡ false → (b : Bool) → eqb v 65 ≡ b → apply back (cond b (var 0) (cond (eqb v 66) (var 1) (var v))) ≡ n v
      at_65 h k true q = ap n (sym (eqb-true v 65 q))
      at_65 h k false q = at_66 h k (eqb v 66) refl

      at_1 : eqb v 0 ≡ false → (b : Bool) → eqb v 1 ≡ b → apply back (cond b (op (var 0) (var 1)) (cond (eqb v 65) (var 0) (cond (eqb v 66) (var 1) (var v)))) ≡ n v
      at_1 h true q = sym second ∙ ap n (sym (eqb-true v 1 q))
      at_1 h false q = at_65 h q (eqb v 65) refl

      at_0 : (b : Bool) → eqb v 0 ≡ b → apply back (cond b (op (var 64) (var 0)) (cond (eqb v 1) (op (var 0) (var 1)) (cond (eqb v 65) (var 0) (cond (eqb v 66) (var 1) (var v))))) ≡ n v
      at_0 true q = sym first ∙ ap n (sym (eqb-true v 0 q))
      at_0 false q = at_1 q (eqb v 1) refl

general : IsMostGeneral unifier (outer_part own_overlap) (inner_part own_overlap)
general = record { unifies = refl; factors = λ n e. (back n e, factored n e) }

own_form : (rules : List Equation) (t : Tree) → next rules t ≡ None → leaves t ≤ 512 → IsFormOf rules t t
own_form rules t h l = record { steps = 0; few = omega arith; reached = refl; ended = h; narrow = λ k. subst (λ s. leaves s ≤ 512) (sym (walk_stays rules k t h)) l }

-- only the root is before the left part, and there the rule would overlap itself
none_earlier : (o : Overlap system) → PlaceBefore (place o) (place own_overlap) → PairPasses system o
none_earlier o (by_outer h) = absurd (omega (arith, h))
none_earlier o (by_position e h) = absurd (o.apart (at_root o.position h) (e ∙ sym (listed o.inner o.inner_rule o.inner_listed)))
  where
    at_root : (p : List Side) → PositionBefore p (to_left ∷ []) → p ≡ []
    at_root [] h = refl
    at_root (to_left ∷ []) h = absurd h
    at_root (to_left ∷ (d ∷ p)) h = absurd h
    at_root (to_right ∷ p) h = absurd h
none_earlier o (by_inner e q h) = absurd (omega (arith, h))

pub first_failing : (o : Overlap system) × (place o ≡ record { outer = 0; position = to_left ∷ []; inner = 0 }) × IsFirstFailing o product long_product (two_forms product long_product)
first_failing = (
  own_overlap,
  refl,
  record {
    fails = record {
      pair = record { unifier = unifier; general = general; left = refl; right = refl };
      found = (own_form system product refl (omega arith), own_form system long_product refl (omega arith), λ h. cc);
    };
    earlier = none_earlier;
  },
)

-- with a second rule

abbrev two_rules : List Equation
two_rules = central ∷ left_projection ∷ []

not_own : ◌≡◌ {A = List Side} [] [] → ◌≡◌ {A = ℕ} 0 1 → ⊥
not_own h e = absurd (cc)

abbrev root_overlap : Overlap two_rules
root_overlap = record {
  outer = 0;
  inner = 1;
  outer_rule = central;
  inner_rule = left_projection;
  position = [];
  part_left = op (var 0) (var 1);
  part_right = op (var 1) (var 2);
  outer_listed = refl;
  inner_listed = refl;
  part = refl;
  apart = not_own;
}

abbrev root_unifier : ℕ → Tree
root_unifier v = cond (eqb v 64) (op (var 0) (var 1)) (cond (eqb v 65) (op (var 1) (var 2)) (var v))

module _ (n : ℕ → Tree) (e : apply n (op (op (var 0) (var 1)) (op (var 1) (var 2))) ≡ apply n (op (var 64) (var 65))) where
  root_left : op (n 0) (n 1) ≡ n 64
  root_left = cc

  root_right : op (n 1) (n 2) ≡ n 65
  root_right = cc

  root_factored : (v : ℕ) → apply n (root_unifier v) ≡ n v
  root_factored v = at_64 (eqb v 64) refl
    where
      at_65 : (b : Bool) → eqb v 65 ≡ b → apply n (cond b (op (var 1) (var 2)) (var v)) ≡ n v
      at_65 true q = root_right ∙ ap n (sym (eqb-true v 65 q))
      at_65 false q = refl

      at_64 : (b : Bool) → eqb v 64 ≡ b → apply n (cond b (op (var 0) (var 1)) (cond (eqb v 65) (op (var 1) (var 2)) (var v))) ≡ n v
      at_64 true q = root_left ∙ ap n (sym (eqb-true v 64 q))
      at_64 false q = at_65 (eqb v 65) refl

root_general : IsMostGeneral root_unifier (outer_part root_overlap) (inner_part root_overlap)
root_general = record { unifies = refl; factors = λ n e. (n, root_factored n e) }

-- x ◇ y has the form x
one_step : IsFormOf two_rules product (var 0)
one_step = record { steps = 1; few = omega arith; reached = refl; ended = refl; narrow = narrow }
  where
    narrow : (k : ℕ) → leaves (walk two_rules k product) ≤ 512
    narrow zero = omega arith
    narrow (suc k) = subst (λ s. leaves s ≤ 512) (sym (walk_stays two_rules k (var 0) refl)) (omega arith)

below_one : (i : ℕ) → i < 1 → i ≡ 0
below_one i h = omega (arith, h)

root_earlier : (o : Overlap two_rules) → PlaceBefore (place o) (place root_overlap) → PairPasses two_rules o
root_earlier o (by_outer h) = absurd (omega (arith, h))
root_earlier o (by_position e h) = absurd (none o.position h)
  where
    none : (p : List Side) → PositionBefore p [] → ⊥
    none [] h = h
    none (d ∷ p) h = h
root_earlier o (by_inner e q h) = absurd (o.apart q (e ∙ sym (below_one o.inner h)))

pub root_failing : (o : Overlap two_rules) × (place o ≡ record { outer = 0; position = []; inner = 1 }) × IsFirstFailing o (var 1) product (two_forms (var 1) (var 0))
root_failing = (
  root_overlap,
  refl,
  record {
    fails = record {
      pair = record { unifier = root_unifier; general = root_general; left = refl; right = refl };
      found = (own_form two_rules (var 1) refl (omega arith), one_step, λ h. cc);
    };
    earlier = root_earlier;
  },
)
