-- Magmas: a test of which values belong to the carrier, and an operation that stays in it.
use Rattle.std.specs.Prelude.{◌≡◌, ℕ, Bool, IsTrue}
use Rattle.etp_theory.specs.Trees.{Tree, var, op}

-- the value of a term where each variable has a value
abbrev pub meaning : {A : Type 0} → (A → A → A) → (ℕ → A) → Tree → A
meaning times r (var v) = r v
meaning times r (op s t) = times (meaning times r s) (meaning times r t)

-- the operation stays in the carrier
abbrev pub IsClosed : {A : Type 0} → (A → Bool) → (A → A → A) → Type 0
IsClosed {A} inside times =
    (x y : A) → IsTrue (inside x) → IsTrue (inside y) → IsTrue (inside (times x y))

-- both sides have equal values under every assignment of carrier values
abbrev pub Holds : {A : Type 0} → (A → Bool) → (A → A → A) → Tree → Tree → Type 0
Holds {A} inside times p q =
    (r : ℕ → A) → ((v : ℕ) → IsTrue (inside (r v))) → meaning times r p ≡ meaning times r q
