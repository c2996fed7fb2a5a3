use Rattle.std.proofs.Common.{◌≡◌, Option, Some, None, sym, ap, ap₂, ◌∙◌, subst}
use Rattle.etp_theory.specs.Substitutions.{apply, total}
use Rattle.etp_theory.specs.Positions.{sub_at, put_at}
use Rattle.etp_theory.proofs.Theorems.{position_theorems}
use Rattle.etp_term.specs.Terms.{tree_of}
use Rattle.etp_term.specs.Positions.{position_of}
use Rattle.etp_term.specs.declared.term.Term.{Term}
use Rattle.etp_match.specs.Bindings.{partial_of}
use Rattle.etp_match.specs.Replacing.{IsReplaced}
use Rattle.etp_unify.specs.Unifying.{IsMost, IsUnified}
use Rattle.etp_pairs.proofs.pairing.results_of.Goals as goal

pub returns-in-None : goal.returns-in-None
returns-in-None c =
    let m = total (partial_of c.in-Most.subst) in
    let there = position_theorems.sub_at_applied (position_of c.args.position.now) m (tree_of c.args.outer.now.left) (tree_of c.args.part.now) c.requires.part in
    let outside : sub_at (position_of c.args.position.now) (tree_of c.in_ok-whole-in-Most.whole) ≡ None =
    subst (λ (o : Option Term). IsReplaced (position_of c.args.position.now) (tree_of c.in_ok-whole-in-Most.whole) (tree_of c.in_ok-put-in-Most.put) o) c.in-None.is c.in_ok-replace_at-in-Most.ensures in
    let f : None ≡ Some (apply m (tree_of c.args.part.now)) = sym outside ∙ ap (sub_at (position_of c.args.position.now)) c.in_ok-whole-in-Most.ensures ∙ there in
    absurd (cc)

pub returns : goal.returns
returns c =
    let m = partial_of c.in-Most.subst in
    let unified = subst (IsUnified (tree_of c.args.part.now) (tree_of c.in_ok-inner_left.inner_left)) c.in-Most.is c.in_ok-unify.ensures in
    let replaced = subst (λ (o : Option Term). IsReplaced (position_of c.args.position.now) (tree_of c.in_ok-whole-in-Most.whole) (tree_of c.in_ok-put-in-Most.put) o) c.in-Some.is c.in_ok-replace_at-in-Most.ensures in
    record {
      by = m;
      most = subst (IsMost m (tree_of c.args.part.now)) c.in_ok-inner_left.ensures unified;
      left = c.in_ok-left-in-Most.ensures;
      right = replaced.1 ∙ ap₂ (put_at (position_of c.args.position.now)) c.in_ok-whole-in-Most.ensures (c.in_ok-put-in-Most.ensures ∙ ap (apply (total m)) c.in_ok-inner_right-in-Most.ensures);
    }
