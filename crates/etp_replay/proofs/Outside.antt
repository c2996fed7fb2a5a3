-- Terms that agree outside a position, side by side.
use Rattle.std.proofs.Common.{◌≡◌, ◌↔◌, Bool, IsTrue, IsSome, Option, Some, List, ◌∷◌, ap₂, refl, sym, subst}
use Rattle.etp_theory.specs.Trees.{Tree, op}
use Rattle.etp_theory.specs.Positions.{Side, to_left, to_right, sub_at, put_at}
use Rattle.etp_theory.specs.Proofs.{AgreeOutside}
use Rattle.etp_term.specs.Positions.{position_of}
use Rattle.etp_term.specs.declared.position.Side as Program

agree_left : (p : List Side) (a b c d : Tree) → AgreeOutside p a c → b ≡ d → AgreeOutside (to_left ∷ p) (op a b) (op c d)
agree_left p a b c d h k u = ap₂ op (h u) k

agree_right : (p : List Side) (a b c d : Tree) → AgreeOutside p b d → a ≡ c → AgreeOutside (to_right ∷ p) (op a b) (op c d)
agree_right p a b c d h k u = ap₂ op k (h u)

inside_left : (p : List Side) (a b c d : Tree) → AgreeOutside (to_left ∷ p) (op a b) (op c d) → AgreeOutside p a c × (b ≡ d)
inside_left p a b c d h =
    (λ u. let f : op (put_at p a u) b ≡ op (put_at p c u) d = h u in cc, let f : op (put_at p a a) b ≡ op (put_at p c a) d = h a in cc)

inside_right : (p : List Side) (a b c d : Tree) → AgreeOutside (to_right ∷ p) (op a b) (op c d) → AgreeOutside p b d × (a ≡ c)
inside_right p a b c d h =
    (λ u. let f : op a (put_at p b u) ≡ op c (put_at p d u) = h u in cc, let f : op a (put_at p b a) ≡ op c (put_at p d a) = h a in cc)

-- what a walk answers: where the position is in both terms, whether they agree outside it
abbrev pub Found : List Side → Tree → Tree → Bool → Type 0
Found p s t r = IsSome (sub_at p s) → IsSome (sub_at p t) → IsTrue r ↔ AgreeOutside p s t

moved : (p q : List Side) (s t a c : Tree) (r : Bool) → p ≡ q → s ≡ a → t ≡ c → Found q a c r → Found p s t r
moved p q s t a c r e h k f =
    subst (λ x. Found x s t r) (sym e) (subst (λ x. Found q x t r) (sym h) (subst (λ x. Found q a x r) (sym k) f))

module _ (p q : List Side) (s t a b c d : Tree) (here : s ≡ op a b) (there : t ≡ op c d) where
  pub same_left : p ≡ to_left ∷ q → (r : Bool) → Found q a c r → IsTrue r → (result : Bool) → IsTrue result ↔ (b ≡ d) → Found p s t result
  same_left e r f holds result k = moved p (to_left ∷ q) s t (op a b) (op c d) result e here there
      (λ x y. (λ h. agree_left q a b c d ((f x y).0 holds) (k.0 h), λ h. k.1 (inside_left q a b c d h).1))

  pub other_left : p ≡ to_left ∷ q → (r : Bool) → Found q a c r → (IsTrue r → ⊥) → Found p s t r
  other_left e r f fails = moved p (to_left ∷ q) s t (op a b) (op c d) r e here there
      (λ x y. (λ h. absurd (fails h), λ h. (f x y).1 (inside_left q a b c d h).0))

  pub same_right : p ≡ to_right ∷ q → (r : Bool) → Found q b d r → IsTrue r → (result : Bool) → IsTrue result ↔ (a ≡ c) → Found p s t result
  same_right e r f holds result k = moved p (to_right ∷ q) s t (op a b) (op c d) result e here there
      (λ x y. (λ h. agree_right q a b c d ((f x y).0 holds) (k.0 h), λ h. k.1 (inside_right q a b c d h).1))

  pub other_right : p ≡ to_right ∷ q → (r : Bool) → Found q b d r → (IsTrue r → ⊥) → Found p s t r
  other_right e r f fails = moved p (to_right ∷ q) s t (op a b) (op c d) r e here there
      (λ x y. (λ h. absurd (fails h), λ h. (f x y).1 (inside_right q a b c d h).0))

pub agreed : (xs ys : List Program.Side) (s t u v : Tree) (r : Bool) → xs ≡ ys → Found (position_of xs) s t r → IsTrue r → sub_at (position_of ys) s ≡ Some u → sub_at (position_of ys) t ≡ Some v → AgreeOutside (position_of ys) s t
agreed xs ys s t u v r e f holds h k =
    let g : Found (position_of ys) s t r = subst (λ (zs : List Program.Side). Found (position_of zs) s t r) e f in
    (g (subst (λ (z : Option Tree). IsSome z) (sym h) refl) (subst (λ (z : Option Tree). IsSome z) (sym k) refl)).0 holds
