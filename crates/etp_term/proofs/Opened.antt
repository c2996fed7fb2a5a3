-- What `tree_of` gives at each variant.
use Rattle.std.proofs.Common.{◌≡◌, ℕ, sym, ◌∙◌, ap}
use Rattle.etp_theory.specs.Trees.{Tree, var, op}
use Rattle.etp_term.specs.Terms.{tree_of, tree_step}
use Rattle.etp_term.specs.declared.term.Term.{Term, fold-roll-Term}
use Rattle.etp_term.specs.declared.term.Term.TheVariants.{Var, Op, rolls-Var, rolls-Op}
use Rattle.etp_term.specs.declared.term.Term.TheOpen.{Var as VarLayer, Op as OpLayer}

pub tree_of-var : (v : ℕ) → tree_of (Var v) ≡ var v
tree_of-var v = ap tree_of (sym (rolls-Var v)) ∙ fold-roll-Term Tree tree_step (VarLayer v)

pub tree_of-op : (l r : Term) → tree_of (Op l r) ≡ op (tree_of l) (tree_of r)
tree_of-op l r = ap tree_of (sym (rolls-Op l r)) ∙ fold-roll-Term Tree tree_step (OpLayer l r)
