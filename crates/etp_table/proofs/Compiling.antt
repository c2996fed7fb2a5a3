-- The register of an operation has its value.
use Rattle.std.proofs.Common.{◌≡◌, ◌+◌, inl, inr, ℕ, List, [], ◌∷◌, ◌++◌, length, slice_get, Some, sym, ap, ap₂, ◌∙◌, subst, arith, length-append}
use Rattle.etp_theory.specs.Trees.{Tree, op}
use Rattle.etp_table.specs.Programs.{Solves, HasValue, Extends, IsLast, in_kept, in_looped}
use Rattle.etp_table.specs.declared.instructions.Instruction.{Instruction}
use Rattle.etp_table.proofs.Lists.{slice_get-front, slice_get-last}

-- the results of a list are those of its beginning
pub solves_front : (times : ℕ → ℕ → ℕ) (first : ℕ) (xs ys more : List Instruction) (r : ℕ → ℕ) → ys ≡ xs ++ more → Solves times first ys r → Solves times first xs r
solves_front times first xs ys more r e s i x at =
    s i x (subst (λ (l : List Instruction). slice_get l i ≡ Some x) (sym e) (slice_get-front xs more i x at))

-- the last instruction's result
solves_last : (times : ℕ → ℕ → ℕ) (first register : ℕ) (xs ys : List Instruction) (x : Instruction) (r : ℕ → ℕ) → ys ≡ xs ++ x ∷ [] → register ≡ first + length xs → Solves times first ys r → r register ≡ times (r x.left) (r x.right)
solves_last times first register xs ys x r e k s =
    ap r k ∙ s (length xs) x (subst (λ (l : List Instruction). slice_get l (length xs) ≡ Some x) (sym e) (slice_get-last xs x))

longer : (xs ys : List Instruction) (x : Instruction) → ys ≡ xs ++ x ∷ [] → length ys ≡ length xs + 1
longer xs ys x e = let l = ap length e in let m = length-append xs (x ∷ []) in omega arith

module _ (last a b register : ℕ) (k1 p1 k2 p2 k3 p3 : List Instruction) (x : Instruction) (s t : Tree) (left : HasValue last k1 p1 a s) (kept : Extends k1 k2) (looped : Extends p1 p2) (right : HasValue last k2 p2 b t) (to_a : x.left ≡ a) (to_b : x.right ≡ b) where
  joined : (times : ℕ → ℕ → ℕ) (r : ℕ → ℕ) → Solves times 7 k2 r → Solves times 13 p2 r → r register ≡ times (r x.left) (r x.right) → r register ≡ times (r a) (r b)
  joined times r sk sp e = e ∙ ap₂ (λ i j. times (r i) (r j)) to_a to_b

  pub value_of_op : IsLast k2 p2 k3 p3 x register → HasValue last k3 p3 register (op s t)
  value_of_op (in_kept ek ep er) = record {
    written = let l = longer k2 k3 x ek in inl (omega arith);
    value = λ times r sk sp.
        let k = solves_front times 7 k2 k3 (x ∷ []) r ek sk in
        let p = subst (λ (l : List Instruction). Solves times 13 l r) ep sp in
        joined times r k p (solves_last times 7 register k2 k3 x r ek er sk)
        ∙ ap₂ times
        (left.value times r (solves_front times 7 k1 k2 kept.more r kept.is k) (solves_front times 13 p1 p2 looped.more r looped.is p))
        (right.value times r k p);
  }
  value_of_op (in_looped ek ep er) = record {
    written = let l = longer p2 p3 x ep in inr (omega arith, omega arith);
    value = λ times r sk sp.
        let k = subst (λ (l : List Instruction). Solves times 7 l r) ek sk in
        let p = solves_front times 13 p2 p3 (x ∷ []) r ep sp in
        joined times r k p (solves_last times 13 register p2 p3 x r ep er sp)
        ∙ ap₂ times
        (left.value times r (solves_front times 7 k1 k2 kept.more r kept.is k) (solves_front times 13 p1 p2 looped.more r looped.is p))
        (right.value times r k p);
  }

-- a value stays where the lists grow
pub value_kept : (last register : ℕ) (k1 p1 k2 p2 : List Instruction) (t : Tree) → HasValue last k1 p1 register t → Extends k1 k2 → Extends p1 p2 → HasValue last k2 p2 register t
value_kept last register k1 p1 k2 p2 t h kept looped = record {
  written = elim h.written [
    | inl l ↦ inl (omega (arith, l, ap length kept.is, length-append k1 kept.more))
    | inr l ↦ inr (l.0, omega (arith, l.1, ap length looped.is, length-append p1 looped.more))
  ];
  value = λ op₂ r sk sp. h.value op₂ r (solves_front op₂ 7 k1 k2 kept.more r kept.is sk) (solves_front op₂ 13 p1 p2 looped.more r looped.is sp);
}
