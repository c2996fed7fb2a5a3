-- The values in the registers of a law's sides.
use Rattle.std.proofs.Common.{◌≡◌, ◌+◌, ◌<◌, ◌≤◌, inl, inr, ℕ, cond, List, [], ◌∷◌, ◌++◌, length, get_or, take, sym, ap, ap₂, ◌∙◌, arith, max}
use Rattle.std.proofs.Math.Seq.{get_or-append_seam}
use Rattle.std.proofs.lemmas.Bool.{cases_eq, eq-eqb, ne_eqb}
use Rattle.std.proofs.lemmas.List.{length-take-le, get_or_append_left, get_or-take}
use Rattle.std.proofs.lemmas.Option.{slice_get_within}
use Rattle.etp_theory.specs.Trees.{Tree, var, op, bound}
use Rattle.etp_theory.specs.Magmas.{meaning}
use Rattle.etp_theory.specs.Tables.{assigned}
use Rattle.etp_table.specs.Tables.{Table, times}
use Rattle.etp_table.specs.Programs.{InOrder, Solves, HasValue, register_of}
use Rattle.etp_table.specs.Compiled.{law_of, IsCompiled, SameBelow, assignment_at}
use Rattle.etp_table.specs.declared.instructions.Instruction.{Instruction}
use Rattle.etp_table.specs.declared.compiled.CompiledLaw.{CompiledLaw}

-- the value of a term looks at its variables alone
pub meaning_agree : (op₂ : ℕ → ℕ → ℕ) (r s : ℕ → ℕ) (k : ℕ) (t : Tree) → bound t ≤ k → ((v : ℕ) → v < k → r v ≡ s v) → meaning op₂ r t ≡ meaning op₂ s t
meaning_agree op₂ r s k (var v) b h = h v b
meaning_agree op₂ r s k (op l t) b h = ap₂ op₂ (meaning_agree op₂ r s k l (omega arith) h) (meaning_agree op₂ r s k t (omega arith) h)

-- registers that stay below 12 still hold the first list's results
pub solves_kept : (op₂ : ℕ → ℕ → ℕ) (is : List Instruction) (old new : List ℕ) → length is ≤ 5 → InOrder 7 is → SameBelow 12 old new → Solves op₂ 7 is (λ r. get_or old r 0) → Solves op₂ 7 is (λ r. get_or new r 0)
solves_kept op₂ is old new few order same s i x at =
    let inside = slice_get_within is i x at in
    let o = order i x at in
    same (7 + i) (omega arith) ∙ s i x at ∙ sym (ap₂ op₂ (same x.left (omega (arith, o.0))) (same x.right (omega (arith, o.1))))

module _ (last value : ℕ) (old new : List ℕ) (few : last ≤ 6) (long : 12 ≤ length old) (same : SameBelow 12 old new) (at_last : get_or new 12 0 ≡ value) where
  front : length (take last old) ≡ last
  front = length-take-le last old (omega arith)

  below_last : (v : ℕ) → v < last → get_or (assignment_at last old value) v 0 ≡ get_or old v 0
  below_last v h = get_or_append_left (take last old) (value ∷ []) 0 v (omega (arith, front)) ∙ get_or-take last old v 0 h

  the_last : get_or (assignment_at last old value) last 0 ≡ value
  the_last = ap (λ i. get_or (take last old ++ value ∷ []) i 0) (sym front) ∙ get_or-append_seam (take last old) value [] 0

  read : (v : ℕ) → v < last + 1 → get_or new (register_of last v) 0 ≡ assigned (assignment_at last old value) v
  read v h = elim (cases_eq v last) [
    | inl e ↦ ap (λ b. get_or new (cond b 12 v) 0) (eq-eqb v last e) ∙ at_last ∙ sym the_last ∙ ap (λ i. get_or (assignment_at last old value) i 0) (sym e)
    | inr e ↦ ap (λ b. get_or new (cond b 12 v) 0) (ne_eqb v last e) ∙ same v (omega arith) ∙ sym (below_last v (omega arith))
  ]

  pub value_is : (op₂ : ℕ → ℕ → ℕ) (kept looped : List Instruction) (register : ℕ) (t : Tree) → bound t ≤ last + 1 → HasValue last kept looped register t → Solves op₂ 7 kept (λ r. get_or new r 0) → Solves op₂ 13 looped (λ r. get_or new r 0) → get_or new register 0 ≡ meaning op₂ (assigned (assignment_at last old value)) t
  value_is op₂ kept looped register t b h sk sp =
      h.value op₂ (λ r. get_or new r 0) sk sp
      ∙ meaning_agree op₂ (λ v. get_or new (register_of last v) 0) (assigned (assignment_at last old value)) (last + 1) t b read

module _ (t : Table) (c : CompiledLaw) (old new : List ℕ) (value : ℕ) (compiled : IsCompiled c) (long : 12 ≤ length old) (same : SameBelow 12 old new) (at_last : get_or new 12 0 ≡ value) (kept : Solves (times t) 7 c.program.kept (λ r. get_or old r 0)) (looped : Solves (times t) 13 c.program.looped (λ r. get_or new r 0)) where
  still : Solves (times t) 7 c.program.kept (λ r. get_or new r 0)
  still = solves_kept (times t) c.program.kept old new (let few = compiled.order.few in omega arith) compiled.order.kept_order same kept

  pub left_value : get_or new c.left 0 ≡ meaning (times t) (assigned (assignment_at c.program.last old value)) (law_of c).left
  left_value =
      let v : max (bound (law_of c).left) (bound (law_of c).right) ≡ c.program.last + 1 = compiled.variables_are in
      value_is c.program.last value old new compiled.few long same at_last (times t) c.program.kept c.program.looped c.left (law_of c).left (omega (arith, v)) compiled.left still looped

  pub right_value : get_or new c.right 0 ≡ meaning (times t) (assigned (assignment_at c.program.last old value)) (law_of c).right
  right_value =
      let v : max (bound (law_of c).left) (bound (law_of c).right) ≡ c.program.last + 1 = compiled.variables_are in
      value_is c.program.last value old new compiled.few long same at_last (times t) c.program.kept c.program.looped c.right (law_of c).right (omega (arith, v)) compiled.right still looped
