use Rattle.std.proofs.Common.{◌≡◌, ◌+◌, refl, subst, arith}
use Rattle.etp_theory.specs.Sameness.{Same}
use Rattle.etp_theory.specs.Trees.{Tree, var, op, Equation, ops, law_ops, dual, law_dual}
use Rattle.etp_theory.proofs.Trees.{law_dual_dual}
use Rattle.etp_theory.proofs.Sameness.{symmetric, dualised}
use Rattle.etp_laws.specs.Listing.{Listed}
use Rattle.etp_laws.proofs.Readings.{Listed-unique}

ops-dual : (t : Tree) → ops (dual t) ≡ ops t
ops-dual (var v) = refl
ops-dual (op l r) = let a = ops-dual l in let b = ops-dual r in omega arith

pub law_ops-dual : (p : Equation) → law_ops (law_dual p) ≡ law_ops p
law_ops-dual p = λ i. ops-dual p.left i + ops-dual p.right i

-- duality between entries is its own inverse
pub dual_back : (e e' : Equation) → Same (law_dual e) e' → Same (law_dual e') e
dual_back e e' s = subst (Same (law_dual e')) (law_dual_dual e) (dualised e' (law_dual e) (symmetric (law_dual e) e' s))

pub dual_of_dual : (e e' e'' : Equation) → Listed e → Listed e'' → Same (law_dual e) e' → Same (law_dual e') e'' → e'' ≡ e
dual_of_dual e e' e'' l l'' s s' = Listed-unique (law_dual e') e'' e l'' l s' (dual_back e e' s)
