use Rattle.std.proofs.Common.{◌≡◌, ◌∷◌, [], List, sym, ap, ◌∙◌, subst, append-nil}
use Rattle.etp_theory.specs.Trees.{var, op}
use Rattle.etp_theory.specs.Positions.{to_left, to_right}
use Rattle.etp_term.specs.Terms.{tree_of}
use Rattle.etp_term.specs.Positions.{position_of}
use Rattle.etp_term.specs.declared.position.Side.TheVariants.{L, R}
use Rattle.etp_term.proofs.Opened.{tree_of-var, tree_of-op}
use Rattle.etp_match.specs.Bindings.{partial_of}
use Rattle.etp_match.specs.Matching.{NoneMatches, IsFirstMisfit}
use Rattle.etp_match.specs.declared.subst.Binding.{Binding}
use Rattle.etp_match.proofs.Misfits.{first_value, first_operation, down_left, down_right, none_after, further}
use Rattle.etp_match.proofs.matching.first_misfit.Goals as goal

pub returns-in_default : goal.returns-in_default
returns-in_default c =
    let variable : tree_of c.loop-inner.inner.now ≡ var c.in_default.field-0 = ap tree_of c.in_default.is ∙ tree_of-var c.in_default.field-0 in
    subst (IsFirstMisfit (partial_of c.args.bindings.now) (tree_of c.args.pattern.now) (tree_of c.args.term.now)) (append-nil (position_of c.loop-inner.position))
    (c.loop-inner.invariant.found [] (first_value (partial_of c.loop-inner.bindings) (tree_of c.loop-inner.inner.now) (tree_of c.loop-inner.subterm.now) c.in_default.field-0 variable c.loop-inner.invariant.none))

pub returns-in_default-subterm : goal.returns-in_default-subterm
returns-in_default-subterm c =
    let here : tree_of c.loop-inner.inner.now ≡ op (tree_of c.in-Op.a) (tree_of c.in-Op.b) = ap tree_of c.in-Op.is ∙ tree_of-op _ _ in
    let there : tree_of c.loop-inner.subterm.now ≡ var c.in_default-subterm.field-0 = ap tree_of c.in_default-subterm.is ∙ tree_of-var c.in_default-subterm.field-0 in
    subst (IsFirstMisfit (partial_of c.args.bindings.now) (tree_of c.args.pattern.now) (tree_of c.args.term.now)) (append-nil (position_of c.loop-inner.position))
    (c.loop-inner.invariant.found [] (first_operation (partial_of c.loop-inner.bindings) (tree_of c.loop-inner.inner.now) (tree_of c.loop-inner.subterm.now) _ _ c.in_default-subterm.field-0 here there))

pub loop-inner-preserved-then-matches : goal.loop-inner-preserved-then-matches
loop-inner-preserved-then-matches c =
    let here : tree_of c.loop-inner.inner.now ≡ op (tree_of c.get-left.result.now) (tree_of c.get-inner.result.now) = ap tree_of c.in-Op.is ∙ tree_of-op _ _ ∙ (λ i. op (tree_of (sym c.get-left.ensures i)) (tree_of (sym c.get-inner.ensures i))) in
    let there : tree_of c.loop-inner.subterm.now ≡ op (tree_of c.get-there.result.now) (tree_of c.get-subterm.result.now) = ap tree_of c.in-Op-subterm.is ∙ tree_of-op _ _ ∙ (λ i. op (tree_of (sym c.get-there.ensures i)) (tree_of (sym c.get-subterm.ensures i))) in
    record {
      none = none_after (partial_of c.loop-inner.bindings) (tree_of c.loop-inner.inner.now) (tree_of c.loop-inner.subterm.now) _ _ _ _ here there (partial_of c.matches.new.self) c.loop-inner.invariant.none (c.matches.ensures.yes c.if-matches.true);
      found = λ q x.
          subst (IsFirstMisfit (partial_of c.args.bindings.now) (tree_of c.args.pattern.now) (tree_of c.args.term.now)) (further c.loop-inner.position c.push.new.self R q c.in_ok-push.ensures.ok)
          (c.loop-inner.invariant.found (to_right ∷ q) (down_right (partial_of c.loop-inner.bindings) (tree_of c.loop-inner.inner.now) (tree_of c.loop-inner.subterm.now) _ _ _ _ here there (partial_of c.matches.new.self) q (c.matches.ensures.yes c.if-matches.true) x));
    }

pub loop-inner-preserved : goal.loop-inner-preserved
loop-inner-preserved c =
    let here : tree_of c.loop-inner.inner.now ≡ op (tree_of c.get-left.result.now) (tree_of c.in-Op.b) = ap tree_of c.in-Op.is ∙ tree_of-op _ _ ∙ (λ i. op (tree_of (sym c.get-left.ensures i)) (tree_of c.in-Op.b)) in
    let there : tree_of c.loop-inner.subterm.now ≡ op (tree_of c.get-there.result.now) (tree_of c.in-Op-subterm.d) = ap tree_of c.in-Op-subterm.is ∙ tree_of-op _ _ ∙ (λ i. op (tree_of (sym c.get-there.ensures i)) (tree_of c.in-Op-subterm.d)) in
    let unchanged : c.matches.new.self ≡ c.loop-inner.bindings = c.matches.ensures.unchanged c.if-matches.false in
    record {
      none = subst (λ (xs : List Binding). NoneMatches (tree_of c.get-left.result.now) (tree_of c.get-there.result.now) (partial_of xs)) (sym unchanged) (c.matches.ensures.no c.if-matches.false);
      found = λ q x.
          subst (IsFirstMisfit (partial_of c.args.bindings.now) (tree_of c.args.pattern.now) (tree_of c.args.term.now)) (further c.loop-inner.position c.push-else-matches.new.self L q c.in_ok-push-2.ensures.ok)
          (c.loop-inner.invariant.found (to_left ∷ q) (down_left (partial_of c.loop-inner.bindings) (tree_of c.loop-inner.inner.now) (tree_of c.loop-inner.subterm.now) _ _ _ _ here there q
          (subst (λ (xs : List Binding). IsFirstMisfit (partial_of xs) (tree_of c.get-left.result.now) (tree_of c.get-there.result.now) q) unchanged x)));
    }
