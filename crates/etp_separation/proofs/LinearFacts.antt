-- Linear magmas with a modulus as finite magmas.
use Rattle.std.proofs.Common.{◌≡◌, ◌↔◌, ℕ, zero, suc, ℤ, pos, negsuc, nat_abs, ◌≤◌, false, IsTrue, List, refl, sym, ap, ap₂, ◌∙◌, subst, arith}
use Rattle.std.proofs.lemmas.List.Elements.{All-contains}
use Rattle.etp_theory.specs.Trees.{Tree, var, op, Equation}
use Rattle.etp_theory.specs.Magmas.{meaning, IsClosed, Holds}
use Rattle.etp_theory.specs.Reach.{refutes}
use Rattle.etp_theory.specs.Sound.{meaning_inside}
use Rattle.etp_theory.specs.Tables.{below}
use Rattle.etp_linear.specs.Magmas.{LinearMagma, inside, times, IsLinearMagma}
use Rattle.etp_linear.specs.Judgements.{LawHolds, LawFails, IsJudged}
use Rattle.etp_linear.specs.Sound.{closed_in}
use Rattle.etp_linear.specs.declared.parts.Ring.{Ring}
use Rattle.etp_linear.specs.declared.parts.Ring.TheVariants.{Modulo}
use Rattle.etp_cancel.specs.FiniteMagmas.{IsFiniteMagma, HoldsIn}
use Rattle.etp_cancel.specs.FiniteFacts.{IsRightFiniteFact}
use Rattle.etp_separation.specs.Residues.{residue_times}

-- the value of a term looks at the values of its variables
meaning_same : (ap_times : ℤ → ℤ → ℤ) (r s : ℕ → ℤ) → ((v : ℕ) → r v ≡ s v) → (t : Tree) → meaning ap_times r t ≡ meaning ap_times s t
meaning_same f r s h (var v) = h v
meaning_same f r s h (op a b) = ap₂ f (meaning_same f r s h a) (meaning_same f r s h b)

no_truth : IsTrue false → ⊥
no_truth h = cc

-- a residue is its own absolute value
as_natural : (m : ℕ) (z : ℤ) → IsTrue (inside (Modulo m) z) → z ≡ pos (nat_abs z)
as_natural m (pos n) h = refl
as_natural m (negsuc n) h = absurd (no_truth h)

natural_below : (m : ℕ) (z : ℤ) → IsTrue (inside (Modulo m) z) → IsTrue (below m (nat_abs z))
natural_below m (pos n) h = h
natural_below m (negsuc n) h = absurd (no_truth h)

same_natural : (x y : ℕ) → pos x ≡ pos y → x ≡ y
same_natural x y e = ap nat_abs e

module _ (m : ℕ) (l : LinearMagma) (e : l.ring ≡ Modulo m) (is : IsLinearMagma l) where
  ring_inside : (z : ℤ) → IsTrue (inside l.ring z) → IsTrue (inside (Modulo m) z)
  ring_inside z h = subst (λ (r : Ring). IsTrue (inside r z)) e h

  inside_ring : (z : ℤ) → IsTrue (inside (Modulo m) z) → IsTrue (inside l.ring z)
  inside_ring z h = subst (λ (r : Ring). IsTrue (inside r z)) (sym e) h

  product_inside : (x y : ℕ) → IsTrue (below m x) → IsTrue (below m y) → IsTrue (inside (Modulo m) (times l (pos x) (pos y)))
  product_inside x y h k = ring_inside (times l (pos x) (pos y)) (closed_in l is (pos x) (pos y) (inside_ring (pos x) h) (inside_ring (pos y) k))

  some_residue : (n : ℕ) → l.ring ≡ Modulo n → 1 ≤ n
  some_residue zero h = absurd (is.modulus h)
  some_residue (suc n) h = omega arith

  closed : IsClosed (below m) (residue_times l)
  closed x y h k = natural_below m (times l (pos x) (pos y)) (product_inside x y h k)

  pub linear_finite : IsFiniteMagma m (residue_times l)
  linear_finite = record { some = some_residue m e; closed = closed }

  -- terms have the same values
  same_value : (r : ℕ → ℕ) → ((v : ℕ) → IsTrue (below m (r v))) → (t : Tree) → meaning (times l) (λ v. pos (r v)) t ≡ pos (meaning (residue_times l) r t)
  same_value r h (var v) = refl
  same_value r h (op a b) =
      let x = meaning (residue_times l) r a in
      let y = meaning (residue_times l) r b in
      ap₂ (times l) (same_value r h a) (same_value r h b)
      ∙ as_natural m (times l (pos x) (pos y)) (product_inside x y (meaning_inside (below m) (residue_times l) closed r h a) (meaning_inside (below m) (residue_times l) closed r h b))

  holds_there : (p : Equation) → Holds (inside l.ring) (times l) p.left p.right → HoldsIn m (residue_times l) p
  holds_there p h r i =
      same_natural _ _ (sym (same_value r i p.left) ∙ h (λ v. pos (r v)) (λ v. inside_ring (pos (r v)) (i v)) ∙ same_value r i p.right)

  holds_back : (p : Equation) → HoldsIn m (residue_times l) p → Holds (inside l.ring) (times l) p.left p.right
  holds_back p h r i = value p.left ∙ ap pos (h (λ v. nat_abs (r v)) low) ∙ sym (value p.right)
    where
      low : (v : ℕ) → IsTrue (below m (nat_abs (r v)))
      low v = natural_below m (r v) (ring_inside (r v) (i v))

      value : (t : Tree) → meaning (times l) r t ≡ pos (meaning (residue_times l) (λ v. nat_abs (r v)) t)
      value t =
          meaning_same (times l) r (λ v. pos (nat_abs (r v))) (λ v. as_natural m (r v) (ring_inside (r v) (i v))) t
          ∙ same_value (λ v. nat_abs (r v)) low t

  pub same_laws : (p : Equation) → HoldsIn m (residue_times l) p ↔ Holds (inside l.ring) (times l) p.left p.right
  same_laws p = (holds_back p, holds_there p)

  pub linear_right : (laws : List Equation) (holds fails : List ℕ) → IsJudged laws l holds fails → IsRightFiniteFact laws (refutes holds fails)
  linear_right laws holds fails judged n k i j =
      let holding : LawHolds laws l n = All-contains (LawHolds laws l) holds n judged.holding i in
      let failing : LawFails laws l k = All-contains (LawFails laws l) fails k judged.failing j in
      record {
        holding = holding.law;
        failing = failing.law;
        holding_listed = holding.listed;
        failing_listed = failing.listed;
        apart = record {
          size = m;
          times = residue_times l;
          magma = linear_finite;
          holds = holds_there holding.law holding.holds;
          fails = λ h. failing.fails (holds_back failing.law h);
        };
      }
