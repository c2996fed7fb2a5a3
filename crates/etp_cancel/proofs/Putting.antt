-- What a line that cancels concludes holds in every finite magma of its equation.
use Rattle.std.proofs.Common.{◌≡◌, ℕ, ◌<◌, inl, inr, Bool, true, false, IsTrue, cond, eqb, refl, sym, ap, ap₂, ◌∙◌, subst, eq-eqb, eqb-true, lt-ltb, ltb-true}
use Rattle.etp_theory.specs.Trees.{Tree, var, op, Equation, exchanged}
use Rattle.etp_theory.specs.Magmas.{meaning}
use Rattle.etp_theory.specs.Tables.{below}
use Rattle.etp_theory.specs.Sound.{meaning_inside}
use Rattle.etp_cancel.specs.FiniteMagmas.{IsFiniteMagma, HoldsIn, FiniteImplies}
use Rattle.etp_cancel.specs.Cancelling.{put_for, Cancel, cancelled, cancel_conclusion, IsCancelledBy}
use Rattle.etp_cancel.proofs.Onto.{onto}

-- the assignment with the variable's value y
abbrev pub having : ℕ → ℕ → (ℕ → ℕ) → ℕ → ℕ
having v y r x = cond (eqb x v) y (r x)

-- the value of B put for V in A is that of A where V has the value of B
pub put_value : (times : ℕ → ℕ → ℕ) (v y : ℕ) (r : ℕ → ℕ) (b t : Tree) → meaning times (having v y r) (put_for v b t) ≡ meaning times (having v (meaning times (having v y r) b) r) t
put_value times v y r b (var x) = go (eqb x v) refl
  where
    go : (c : Bool) → eqb x v ≡ c → meaning times (having v y r) (cond c b (var x)) ≡ cond c (meaning times (having v y r) b) (r x)
    go true q = refl
    go false q = ap (λ c. cond c y (r x)) q
put_value times v y r b (op s t) = ap₂ times (put_value times v y r b s) (put_value times v y r b t)

pub having_own : (times : ℕ → ℕ → ℕ) (v : ℕ) (r : ℕ → ℕ) (t : Tree) → meaning times (having v (r v) r) t ≡ meaning times r t
having_own times v r (var x) = go (eqb x v) refl
  where
    go : (c : Bool) → eqb x v ≡ c → cond c (r v) (r x) ≡ r x
    go true q = ap r (sym (eqb-true x v q))
    go false q = refl
having_own times v r (op s t) = ap₂ times (having_own times v r s) (having_own times v r t)

having_at : (v y : ℕ) (r : ℕ → ℕ) → having v y r v ≡ y
having_at v y r = ap (λ c. cond c y (r v)) (eq-eqb v v refl)

having_below : (n v y : ℕ) (r : ℕ → ℕ) → ((x : ℕ) → IsTrue (below n (r x))) → IsTrue (below n y) → (x : ℕ) → IsTrue (below n (having v y r x))
having_below n v y r h k x = go (eqb x v)
  where
    go : (c : Bool) → IsTrue (below n (cond c y (r x)))
    go true = k
    go false = h x

pub cancelled_holds : (n : ℕ) (times : ℕ → ℕ → ℕ) → IsFiniteMagma n times → (c : Cancel) → HoldsIn n times (cancelled c) → HoldsIn n times (cancel_conclusion c)
cancelled_holds n times m c h r inside =
    sym (having_own times c.variable r (put_for c.variable c.outer c.inner))
    ∙ put_value times c.variable (r c.variable) r c.outer c.inner
    ∙ redone (onto n f g f_below undone (r c.variable) (ltb-true (r c.variable) n (inside c.variable)))
  where
    f : ℕ → ℕ
    f y = meaning times (having c.variable y r) c.inner

    g : ℕ → ℕ
    g y = meaning times (having c.variable y r) c.outer

    inside_with : (y : ℕ) → y < n → (x : ℕ) → IsTrue (below n (having c.variable y r x))
    inside_with y l = having_below n c.variable y r inside (lt-ltb y n l)

    f_below : (y : ℕ) → y < n → f y < n
    f_below y l = ltb-true (f y) n (meaning_inside (below n) times m.closed (having c.variable y r) (inside_with y l) c.inner)

    undone : (y : ℕ) → y < n → g (f y) ≡ y
    undone y l = sym (put_value times c.variable y r c.inner c.outer) ∙ h (having c.variable y r) (inside_with y l) ∙ having_at c.variable y r

    redone : (x : ℕ) × (x < n) × (f x ≡ r c.variable) → f (g (r c.variable)) ≡ r c.variable
    redone t = ap (λ z. f (g z)) (sym t.2) ∙ ap f (undone t.0 t.1) ∙ t.2

pub cancels : (c : Cancel) (e : Equation) → IsCancelledBy c e → FiniteImplies e (cancel_conclusion c)
cancels c e (inl q) n times m h = cancelled_holds n times m c (subst (HoldsIn n times) q h)
cancels c e (inr q) n times m h =
    let back : HoldsIn n times (exchanged (cancelled c)) = subst (HoldsIn n times) q h in
    cancelled_holds n times m c (λ r i. sym (back r i))
