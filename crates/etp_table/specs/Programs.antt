-- A law as two lists of instructions on registers. Of the law's variables the last one runs fastest;
-- the first list has the operations on which it has no influence.
use Rattle.std.specs.Prelude.{◌≡◌, ◌⊎◌, ℕ, ◌+◌, ◌<◌, ◌≤◌, ◌==◌, ◌++◌, Some, List, [], ◌∷◌, length, slice_get, cond}
use Rattle.etp_theory.specs.Trees.{Tree}
use Rattle.etp_theory.specs.Magmas.{meaning}
use Rattle.etp_table.specs.declared.instructions.Instruction.{Instruction}

-- the operands of each instruction stand in earlier registers than its result
abbrev pub InOrder : ℕ → List Instruction → Type 0
InOrder first is = (i : ℕ) (x : Instruction) → slice_get is i ≡ Some x → (x.left < first + i) × (x.right < first + i)

-- the registers from `first` on hold the results of the instructions
abbrev pub Solves : (ℕ → ℕ → ℕ) → ℕ → List Instruction → (ℕ → ℕ) → Type 0
Solves times first is r =
    (i : ℕ) (x : Instruction) → slice_get is i ≡ Some x → r (first + i) ≡ times (r x.left) (r x.right)

-- the register of a variable
abbrev pub register_of : ℕ → ℕ → ℕ
register_of last v = cond (v == last) 12 v

-- the register is that of an earlier variable or of a result
abbrev pub IsWritten : List Instruction → List Instruction → ℕ → Type 0
IsWritten kept looped register =
    (register < 7 + length kept) ⊎ ((12 ≤ register) × (register < 13 + length looped))

-- where the registers hold the results of both lists, this one has the value of the term
pub record HasValue (last : ℕ) (kept looped : List Instruction) (register : ℕ) (t : Tree) : Type 0 where
  pub written : IsWritten kept looped register
  pub value : (times : ℕ → ℕ → ℕ) (r : ℕ → ℕ) → Solves times 7 kept r → Solves times 13 looped r
      → r register ≡ meaning times (λ v. r (register_of last v)) t

-- the second list begins with the first
pub record Extends (old new : List Instruction) : Type 0 where
  pub more : List Instruction
  pub is : new ≡ old ++ more

-- both lists are in order, the results of the first from register 7 on, those of the second from 13 on
pub record IsInOrder (kept looped : List Instruction) : Type 0 where
  pub kept_order : InOrder 7 kept
  pub looped_order : InOrder 13 looped
  pub few : length kept + length looped ≤ 5

-- the instruction stands last in one list, and its result in this register
pub data IsLast (kept looped kept' looped' : List Instruction) (x : Instruction) (register : ℕ) : Type 0 where
  in_kept : kept' ≡ kept ++ x ∷ [] → looped' ≡ looped → register ≡ 7 + length kept
      → IsLast kept looped kept' looped' x register
  in_looped : kept' ≡ kept → looped' ≡ looped ++ x ∷ [] → register ≡ 13 + length looped
      → IsLast kept looped kept' looped' x register
