-- Replies from the texts that are written.
use Rattle.std.proofs.Common.{◌≡◌, ℕ, List, Bool, true}
use Rattle.std.specs.Prelude.{IfOk, OnOk, IsTrue, ◌↔◌, Ok, Err, Result}
use Rattle.std.proofs.Common.{false, sym, ◌∙◌}
use Rattle.std.specs.declared.alloc.AllocError.{AllocError}
use Rattle.etp_print.specs.Texts.{Reply, refused, reply_text}
use Rattle.etp_print.specs.Given.{Gives}

pub IfOk-then : {A E : Type 0} (r : Result A E) (P Q : A → Type 0) → ((a : A) → P a → Q a) → IfOk r P → IfOk r Q
IfOk-then (Ok x) P Q f h = f x h
IfOk-then (Err e) P Q f h = tt

pub IfOk-both : {A : Type 0} (r : Result A AllocError) (P : A → Type 0) (Q : Type 0) → IfOk r P → OnOk r Q → IfOk r (λ a. P a × Q)
IfOk-both (Ok x) P Q h k = (h, k)
IfOk-both (Err e) P Q h k = tt

-- a test that failed
pub untrue : (b : Bool) (P : Type 0) → (IsTrue b ↔ P) → b ≡ false → P → ⊥
untrue b P h n p = let e : true ≡ false = sym (h.1 p) ∙ n in absurd (cc)

-- a reply that refuses
pub gives-refused : (n : ℕ) (text why : List ℕ) (flag : Bool) (P : Reply → Type 0) → P (refused why) → (text ≡ reply_text n (refused why)) × (flag ≡ true) → Gives n text flag P
gives-refused n text why flag P p h = record { reply = refused why; is = p; text_is = h.0; refused_is = h.1 }

-- the same reply says something else
pub gives-other : (n : ℕ) (text : List ℕ) (flag : Bool) (P Q : Reply → Type 0) → ((r : Reply) → P r → Q r) → Gives n text flag P → Gives n text flag Q
gives-other n text flag P Q f g = record { reply = g.reply; is = f g.reply g.is; text_is = g.text_is; refused_is = g.refused_is }
