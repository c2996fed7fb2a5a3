-- The examples, computed.
use Rattle.std.proofs.Common.{◌≡◌, ℕ, ◌⊎◌, inl, inr, zero, suc, ◌≤◌, List, [], ◌∷◌, Some, slice_get, refl, sym, ap, ◌∙◌, subst, arith}
use Rattle.etp_theory.specs.Trees.{Tree, var, op, bound, Equation, law_renamed, exchanged}
use Rattle.etp_theory.specs.Positions.{Side, to_left, to_right, sub_at}
use Rattle.etp_theory.specs.Derivations.{Derives}
use Rattle.etp_theory.specs.Weights.{IsDecreasing}
use Rattle.etp_theory.specs.Overlaps.{Overlap, IsConvergent}
use Rattle.etp_theory.specs.Sameness.{Same}
use Rattle.etp_theory.specs.Reach.{implies, refutes, dual_edge, dual_pair, Reach, itself, along, Covers}
use Rattle.etp_theory.specs.Examples.{idempotent, left_projection, plain_weight}
use Rattle.etp_theory.proofs.Convergent.{refuted}

abbrev pub system : List Equation
system = idempotent ∷ []

listed : (i : ℕ) (e : Equation) → slice_get system i ≡ Some e → (i ≡ 0) × (idempotent ≡ e)
listed zero e h = (refl, cc)
listed (suc i) e h = absurd (cc)

falls : IsDecreasing plain_weight idempotent
falls = record { coefficients = λ x. omega arith; constants = omega arith }

only_root : (p : List Side) (x y : Tree) → sub_at p (op (var 0) (var 0)) ≡ Some (op x y) → p ≡ []
only_root [] x y h = refl
only_root (to_left ∷ []) x y h = absurd (cc)
only_root (to_left ∷ (to_left ∷ p)) x y h = absurd (cc)
only_root (to_left ∷ (to_right ∷ p)) x y h = absurd (cc)
only_root (to_right ∷ []) x y h = absurd (cc)
only_root (to_right ∷ (to_left ∷ p)) x y h = absurd (cc)
only_root (to_right ∷ (to_right ∷ p)) x y h = absurd (cc)

pub no_overlap : (o : Overlap system) → ⊥
no_overlap o =
    let a = listed o.outer o.outer_rule o.outer_listed in
    let b = listed o.inner o.inner_rule o.inner_listed in
    let h = subst (λ (e : Equation). sub_at o.position e.left ≡ Some (op o.part_left o.part_right)) (sym a.1) o.part in
    o.apart (only_root o.position o.part_left o.part_right h) (a.0 ∙ sym b.0)

pub convergent : IsConvergent plain_weight system
convergent = record {
  decreasing = record { left_counts = omega arith; right_counts = omega arith; each = λ i e h. subst (IsDecreasing plain_weight) (listed i e h).1 falls };
  small = λ i e h. subst (λ (r : Equation). (bound r.left ≤ 64) × (bound r.right ≤ 64)) (listed i e h).1 (omega arith, omega arith);
  pairs = λ o m g. absurd (no_overlap o);
}

pub not_derived : Derives idempotent left_projection → ⊥
not_derived = refuted plain_weight system convergent idempotent left_projection refl (λ h. cc)

-- both variables would have to be renamed to one
pub not_same : Same left_projection idempotent → ⊥
not_same s = go s.2
  where
    first : (law_renamed s.0 left_projection ≡ idempotent) → s.0 0 ≡ s.0 1
    first e = let h : op (var (s.0 0)) (var (s.0 1)) ≡ op (var 0) (var 0) = ap (λ (z : Equation). z.left) e in cc

    go : (law_renamed s.0 left_projection ≡ idempotent) ⊎ (law_renamed s.0 left_projection ≡ exchanged idempotent) → ⊥
    go (inl e) = let h : ◌≡◌ {A = ℕ} 0 1 = s.1 0 1 (first e) in cc
    go (inr e) = let h : op (var (s.0 0)) (var (s.0 1)) ≡ var 0 = ap (λ (z : Equation). z.left) e in cc

pub dual_reached : Reach (1 ∷ 2 ∷ 3 ∷ 5 ∷ 4 ∷ []) (implies 4 3 ∷ []) 5 3
dual_reached = along (dual_edge 4 3 (0, omega arith, refl) refl refl) (itself 3)

pub dual_covered : Covers (1 ∷ 2 ∷ 3 ∷ 5 ∷ 4 ∷ []) (implies 5 3 ∷ refutes (5 ∷ []) (4 ∷ []) ∷ []) 3 5
dual_covered = record {
  holds = 4;
  fails = 5;
  pair = dual_pair (5 ∷ []) (4 ∷ []) 5 4 (1, omega arith, refl) (0, omega arith, refl) (0, omega arith, refl) refl refl;
  before = along (dual_edge 5 3 (0, omega arith, refl) refl refl) (itself 3);
  after = itself 5;
}
