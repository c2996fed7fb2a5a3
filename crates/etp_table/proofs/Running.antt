-- Registers after some instructions have run.
use Rattle.std.proofs.Common.{◌≡◌, ◌≢◌, ◌+◌, ◌<◌, inl, inr, ℕ, List, length, get_or, slice_get, Some, refl, sym, ap, ap₂, ◌∙◌, subst, arith, set, get_or-set_other, get_or-set_same, below_more}
use Rattle.std.proofs.lemmas.Bool.{cases_eq}
use Rattle.etp_table.specs.Tables.{Table, times}
use Rattle.etp_table.specs.Programs.{InOrder}
use Rattle.etp_table.specs.Compiled.{AreValues, SameBelow}
use Rattle.etp_table.specs.declared.instructions.Instruction.{Instruction}

-- the first n instructions have run
pub record Ran (t : Table) (first : ℕ) (is : List Instruction) (old new : List ℕ) (n : ℕ) : Type 0 where
  pub solved : (i : ℕ) → i < n → (x : Instruction) → slice_get is i ≡ Some x
      → get_or new (first + i) 0 ≡ times t (get_or new x.left 0) (get_or new x.right 0)
  pub same : SameBelow first old new
  pub values : AreValues t new

pub ran_none : (t : Table) (first : ℕ) (is : List Instruction) (old : List ℕ) → AreValues t old → Ran t first is old old 0
ran_none t first is old values = record {
  solved = λ i h x at. absurd (omega arith);
  same = λ r h. refl;
  values = values;
}

module _ (t : Table) (first : ℕ) (is : List Instruction) (old new : List ℕ) (n v : ℕ) (x : Instruction) (order : InOrder first is) (stands : slice_get is n ≡ Some x) (fits : first + n < length new) (value : v ≡ times t (get_or new x.left 0) (get_or new x.right 0)) (small : v < t.size) (before : Ran t first is old new n) where
  after : List ℕ
  after = set new (first + n) v

  stays : (r : ℕ) → r ≢ first + n → get_or after r 0 ≡ get_or new r 0
  unfolding after
  stays r h = get_or-set_other new (first + n) r v 0 h

  written : get_or after (first + n) 0 ≡ v
  unfolding after
  written = get_or-set_same new (first + n) v 0 fits

  operands : (l r : ℕ) → l < first + n → r < first + n → times t (get_or new l 0) (get_or new r 0) ≡ times t (get_or after l 0) (get_or after r 0)
  operands l r h k = ap₂ (times t) (sym (stays l (omega arith))) (sym (stays r (omega arith)))

  here : (y : Instruction) → slice_get is n ≡ Some y → get_or after (first + n) 0 ≡ times t (get_or after y.left 0) (get_or after y.right 0)
  here y at =
      let o = order n x stands in
      let same : y ≡ x = cc in
      subst (λ (z : Instruction). get_or after (first + n) 0 ≡ times t (get_or after z.left 0) (get_or after z.right 0)) (sym same)
      (written ∙ value ∙ operands x.left x.right o.0 o.1)

  there : (i : ℕ) → i < n → (y : Instruction) → slice_get is i ≡ Some y → get_or after (first + i) 0 ≡ times t (get_or after y.left 0) (get_or after y.right 0)
  there i h y at =
      let o = order i y at in
      stays (first + i) (omega arith) ∙ before.solved i h y at ∙ operands y.left y.right (omega (arith, o.0)) (omega (arith, o.1))

  valued : AreValues t after
  valued r h = elim (cases_eq r (first + n)) [
    | inl e ↦ subst (λ z. z < t.size) (sym (ap (λ i. get_or after i 0) e ∙ written)) small
    | inr e ↦ subst (λ z. z < t.size) (sym (stays r e)) (before.values r h)
  ]

  pub ran_more : Ran t first is old (set new (first + n) v) (n + 1)
  unfolding after
  ran_more = record {
    solved = below_more (λ i. (y : Instruction) → slice_get is i ≡ Some y → get_or after (first + i) 0 ≡ times t (get_or after y.left 0) (get_or after y.right 0)) n there here;
    same = λ r h. stays r (omega arith) ∙ before.same r h;
    values = valued;
  }
