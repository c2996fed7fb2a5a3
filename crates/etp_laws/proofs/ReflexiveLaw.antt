use Rattle.std.proofs.Common.{◌≡◌, ◌≢◌, ℕ, ◌⊎◌, inl, inr, refl, sym, ◌∙◌, ap, arith}
use Rattle.std.proofs.lemmas.Bool.Decides.{nat_tests}
use Rattle.etp_theory.specs.Sameness.{Same}
use Rattle.etp_theory.specs.Trees.{Tree, var, op, Equation, renamed, exchanged}
use Rattle.etp_laws.specs.Listing.{Listed, reflexive_law}
use Rattle.etp_laws.proofs.Occurrences.{moved, moved-injective}
use Rattle.etp_laws.proofs.Canonical.{listed_from_canonical}
use Rattle.etp_laws.proofs.TheList.{canonical_from_test}

pub Listed-reflexive_law : Listed reflexive_law
Listed-reflexive_law = listed_from_canonical reflexive_law (canonical_from_test reflexive_law refl refl)

-- a law of a lone variable on both sides is the same as `x = x`
pub lone_same : (v : ℕ) (p : Equation) → p.left ≡ var v → p.right ≡ var v → Same p reflexive_law
lone_same v p l r = (moved v 0, moved-injective v 0, inl (λ i. record { left = (ap (renamed (moved v 0)) l ∙ ap var here) i; right = (ap (renamed (moved v 0)) r ∙ ap var here) i }))
  where
    here : moved v 0 v ≡ 0
    here = grind (arith, nat_tests)

renamed-var : (f : ℕ → ℕ) (t : Tree) → renamed f t ≡ var 0 → (v : ℕ) × (t ≡ var v)
renamed-var f (var v) e = (v, refl)
renamed-var f (op l r) e = cc

-- a law whose sides are equal and are no lone variable is the same as no listed law
pub none_same : (p : Equation) → p.left ≡ p.right → ((v : ℕ) → p.left ≢ var v) → (e : Equation) → Listed e → ¬ Same p e
none_same p s lone e l (f, inj, inl h) = one l.sides
  where
    one : ((e.left ≢ e.right) ⊎ (e ≡ reflexive_law)) → ⊥
    one (inl n) = n (ap (λ (q : Equation). q.left) (sym h) ∙ ap (renamed f) s ∙ ap (λ (q : Equation). q.right) h)
    one (inr t) = let v = renamed-var f p.left (ap (λ (q : Equation). q.left) (h ∙ t)) in lone v.0 v.1
none_same p s lone e l (f, inj, inr h) = one l.sides
  where
    one : ((e.left ≢ e.right) ⊎ (e ≡ reflexive_law)) → ⊥
    one (inl n) = n (ap (λ (q : Equation). q.right) (sym h) ∙ ap (renamed f) (sym s) ∙ ap (λ (q : Equation). q.left) h)
    one (inr t) = let v = renamed-var f p.left (ap (λ (q : Equation). q.left) (h ∙ ap exchanged t)) in lone v.0 v.1
