use Rattle.std.proofs.Common.{◌≡◌, sym, ap, ◌∙◌, subst, true, false}
use Rattle.etp_theory.specs.Trees.{var, op}
use Rattle.etp_term.specs.Terms.{tree_of}
use Rattle.etp_term.proofs.Opened.{tree_of-var, tree_of-op}
use Rattle.etp_text.specs.Written.{variable_name, written_term}
use Rattle.etp_lines.specs.Sides.{SpellsSide}
use Rattle.etp_finite_lines.proofs.OneFiniteLine.{name_spells, one_variable, no_name, spelled_small}
use Rattle.etp_finite_lines.proofs.sides.variable_word.Goals as goal

true_false : true ≡ false → ⊥
true_false e = cc

pub returns-in_default : goal.returns-in_default
returns-in_default c v n = (rw c.in_default.is at c.in_ok-term.ensures) (var v) (name_spells c.args.word.now v n)

pub returns-in_default-term : goal.returns-in_default-term
returns-in_default-term c v n =
    let t : tree_of c.in-Some.term ≡ op _ _ = ap tree_of c.in_default-term.is ∙ tree_of-op c.in_default-term.field-0 c.in_default-term.field-1 in
    no_name c.args.word.now _ _ (subst (SpellsSide c.args.word.now) t (rw c.in-Some.is at c.in_ok-term.ensures)) v n

pub returns-then-are_same : goal.returns-then-are_same
returns-then-are_same c =
    let t : tree_of c.in-Some.term ≡ var c.in-Var.variable = ap tree_of c.in-Var.is ∙ tree_of-var c.in-Var.variable in
    let e : c.as_slice.result.now ≡ c.args.word.now = c.are_same.ensures.0 c.if-are_same.true in
    record {
      small = spelled_small c.args.word.now c.in-Var.variable (subst (SpellsSide c.args.word.now) t (rw c.in-Some.is at c.in_ok-term.ensures));
      named = sym e ∙ c.as_slice.ensures ∙ c.in_ok-name.ensures.written ∙ ap written_term t;
    }

pub returns : goal.returns
returns c v n =
    let t : tree_of c.in-Some.term ≡ var c.in-Var.variable = ap tree_of c.in-Var.is ∙ tree_of-var c.in-Var.variable in
    let u : c.in-Var.variable ≡ v = one_variable c.args.word.now c.in-Var.variable v (subst (SpellsSide c.args.word.now) t (rw c.in-Some.is at c.in_ok-term.ensures)) n in
    let name : c.as_slice.result.now ≡ c.args.word.now = c.as_slice.ensures ∙ c.in_ok-name.ensures.written ∙ ap written_term t ∙ ap variable_name u ∙ sym n.named in
    true_false (sym (c.are_same.ensures.1 name) ∙ c.if-are_same.false)
