use Rattle.std.proofs.Common.{◌≡◌, List, ◌++◌, map, take, drop, sym, ap, ◌∙◌, subst}
use Rattle.std.proofs.lemmas.List.{take-append-drop}
use Rattle.etp_term.specs.Terms.{tree_of}
use Rattle.etp_term.specs.Positions.{position_of}
use Rattle.etp_match.specs.Bindings.{value_of, entry_of, partial_of}
use Rattle.etp_match.specs.Matching.{NoneMatches, IsFirstMisfit}
use Rattle.etp_match.specs.declared.subst.Binding.{Binding}
use Rattle.etp_match.proofs.Same.{extended_same, none_same, first_same, same_after}
use Rattle.etp_match.proofs.matching.outcome_of.Goals as goal

pub returns-then-matches : goal.returns-then-matches
returns-then-matches c =
    let joined : c.matches.new.self ≡ c.in_ok-bindings.bindings ++ c.in_ok-values.values.items =
    sym (take-append-drop c.len-known.result c.matches.new.self)
    ∙ ap (λ (xs : List Binding). xs ++ drop c.len-known.result c.matches.new.self) (ap (λ n. take n c.matches.new.self) c.len-known.ensures ∙ c.matches.ensures.order c.if-matches.true)
    ∙ ap (λ (xs : List Binding). c.in_ok-bindings.bindings ++ xs) (sym c.in_ok-values.ensures) in
    extended_same (tree_of c.args.pattern.now) (tree_of c.args.term.now) (partial_of c.in_ok-bindings.bindings) (partial_of c.args.subst.now) c.in_ok-bindings.ensures
    (partial_of c.matches.new.self) (partial_of (c.args.subst.now ++ c.in_ok-values.values.items))
    (λ v. ap (λ (xs : List Binding). value_of (map entry_of xs) v) joined ∙ same_after c.in_ok-bindings.bindings c.args.subst.now c.in_ok-values.values.items c.in_ok-bindings.ensures v)
    (c.matches.ensures.yes c.if-matches.true)

pub first_misfit-requires : goal.first_misfit-requires
first_misfit-requires c =
    subst (λ (xs : List Binding). NoneMatches (tree_of c.args.pattern.now) (tree_of c.args.term.now) (partial_of xs)) (sym (c.matches.ensures.unchanged c.if-matches.false)) (c.matches.ensures.no c.if-matches.false)

pub returns : goal.returns
returns c = (
  none_same (tree_of c.args.pattern.now) (tree_of c.args.term.now) (partial_of c.in_ok-bindings.bindings) (partial_of c.args.subst.now) c.in_ok-bindings.ensures (c.matches.ensures.no c.if-matches.false),
  first_same (tree_of c.args.pattern.now) (tree_of c.args.term.now) (partial_of c.in_ok-bindings.bindings) (partial_of c.args.subst.now) c.in_ok-bindings.ensures (position_of c.in_ok-position.position)
      (subst (λ (xs : List Binding). IsFirstMisfit (partial_of xs) (tree_of c.args.pattern.now) (tree_of c.args.term.now) (position_of c.in_ok-position.position)) (c.matches.ensures.unchanged c.if-matches.false) c.in_ok-position.ensures),
)
