use Rattle.std.proofs.Common.{◌≡◌, ◌<◌, ℕ, true≢false, inl, inr, sym, ap, ◌∙◌, subst, arith, refl}
use Rattle.std.proofs.lemmas.Bool.{ltb-true, lt-ltb}
use Rattle.etp_theory.specs.Trees.{Tree, var, op, Occurs}
use Rattle.etp_term.specs.Terms.{tree_of}
use Rattle.etp_term.proofs.Opened.{tree_of-var, tree_of-op}
use Rattle.etp_search.specs.Plugging.{IsBelow}
use Rattle.etp_search.proofs.space.+is_below.Goals as goal

both : (n : ℕ) (s a b : Tree) → s ≡ op a b → IsBelow n a → IsBelow n b → IsBelow n s
both n s a b e left right v h = go (subst (Occurs v) e h)
  where
    go : Occurs v (op a b) → v < n
    go (inl k) = left v k
    go (inr k) = right v k

pub returns-in-Var : goal.returns-in-Var
returns-in-Var t c =
    let is : tree_of c.args.term.now ≡ var c.in-Var.v = ap tree_of c.in-Var.is ∙ tree_of-var _ in (
      (λ h v k. let e : c.in-Var.v ≡ v = subst (Occurs v) is k in let l = ltb-true c.in-Var.v c.args.number h in omega (arith, e, l)),
      λ h. lt-ltb c.in-Var.v c.args.number (h c.in-Var.v (subst (Occurs c.in-Var.v) (sym is) refl)),
    )

pub returns-then-is_below : goal.returns-then-is_below
returns-then-is_below t c =
    let is : tree_of c.args.term.now ≡ op (tree_of c.get.result.now) (tree_of c.get-then-is_below.result.now) =
    ap tree_of c.in-Op.is ∙ tree_of-op _ _ ∙ (λ i. op (tree_of (sym c.get.ensures i)) (tree_of (sym c.get-then-is_below.ensures i))) in (
      (λ h. both c.args.number _ _ _ is (c.is_below.ensures.0 c.if-is_below.true) (c.is_below-then-is_below.ensures.0 h)),
      λ h. c.is_below-then-is_below.ensures.1 (λ v k. h v (subst (Occurs v) (sym is) (inr k))),
    )

pub returns-else-is_below : goal.returns-else-is_below
returns-else-is_below t c =
    let is : tree_of c.args.term.now ≡ op (tree_of c.get.result.now) (tree_of c.in-Op.r) =
    ap tree_of c.in-Op.is ∙ tree_of-op _ _ ∙ ap (λ z. op (tree_of z) (tree_of c.in-Op.r)) (sym c.get.ensures) in (
      (λ h. absurd (true≢false (sym h ∙ c.if-is_below.false))),
      λ h. c.is_below.ensures.1 (λ v k. h v (subst (Occurs v) (sym is) (inl k))),
    )
