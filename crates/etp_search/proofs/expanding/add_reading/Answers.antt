use Rattle.std.proofs.Common.{◌≡◌, List, false, sym, ap, ◌∙◌, subst}
use Rattle.etp_theory.specs.Substitutions.{apply}
use Rattle.etp_term.specs.Terms.{tree_of}
use Rattle.etp_match.specs.Bindings.{partial_of}
use Rattle.etp_match.specs.declared.subst.Binding.{Binding}
use Rattle.etp_search.specs.Sets.{IsJoined}
use Rattle.etp_search.specs.Programs.{space_of}
use Rattle.etp_search.specs.Filling.{IsFilled, IsOpen}
use Rattle.etp_search.specs.Plugging.{reading_of, plugged, value_or_slot, IsReplacedBy}
use Rattle.etp_search.proofs.Joining.{joined_none, joined_same}
use Rattle.etp_search.proofs.Plugging.{unmatched, filled_replaced, replaced_filled, plugged_open}
use Rattle.etp_search.proofs.expanding.add_reading.Goals as goal

pub returns-then-not-matches : goal.returns-then-not-matches
returns-then-not-matches c =
    let no : c.matches.result ≡ false = c.if-not-matches.true in
    joined_none (IsReplacedBy (space_of c.args.space) (reading_of c.args.reading) (tree_of c.args.context.now) (tree_of c.args.term.now)) c.args.most c.args.found.now
    (unmatched (space_of c.args.space) (reading_of c.args.reading) (tree_of c.args.term.now) (tree_of c.args.context.now) c.in_ok-bindings.bindings c.in_ok-bindings.ensures (c.matches.ensures.no no))

pub fill-requires-clause-slots : goal.fill-requires-clause-slots
fill-requires-clause-slots c =
    let yes = c.matches.ensures.yes c.if-not-matches.false in
    let later = partial_of c.matches.new.self in
    let is : tree_of c.in_ok-slotted.slotted ≡ plugged (tree_of c.args.context.now) (apply (value_or_slot later) (tree_of c.args.reading.right.now)) =
    c.in_ok-slotted.ensures ∙ ap (plugged (tree_of c.args.context.now)) c.in_ok-inner.ensures in
    subst (IsOpen c.args.space.variables 128) (sym is)
    (plugged_open (reading_of c.args.reading) (tree_of c.args.term.now) (partial_of c.in_ok-bindings.bindings) later (λ v. ap (λ (bs : List Binding). (partial_of bs).value v) c.in_ok-bindings.ensures) yes (space_of c.args.space) c.requires.variables c.requires.term (tree_of c.args.context.now) c.requires.context c.requires.right)

pub returns : goal.returns
returns c =
    let yes = c.matches.ensures.yes c.if-not-matches.false in
    let later = partial_of c.matches.new.self in
    let is : tree_of c.in_ok-slotted.slotted ≡ plugged (tree_of c.args.context.now) (apply (value_or_slot later) (tree_of c.args.reading.right.now)) =
    c.in_ok-slotted.ensures ∙ ap (plugged (tree_of c.args.context.now)) c.in_ok-inner.ensures in
    joined_same (IsFilled (space_of c.args.space) (plugged (tree_of c.args.context.now) (apply (value_or_slot later) (tree_of c.args.reading.right.now)))) (IsReplacedBy (space_of c.args.space) (reading_of c.args.reading) (tree_of c.args.context.now) (tree_of c.args.term.now)) c.args.most c.args.found.now c.fill.new.found
    (subst (λ r. IsJoined (IsFilled (space_of c.args.space) r) c.args.most c.args.found.now c.fill.new.found) is c.in_ok-fill.ensures)
    (filled_replaced (reading_of c.args.reading) (tree_of c.args.term.now) (partial_of c.in_ok-bindings.bindings) later (λ v. ap (λ (bs : List Binding). (partial_of bs).value v) c.in_ok-bindings.ensures) yes (space_of c.args.space) c.requires.variables c.requires.term (tree_of c.args.context.now) c.requires.context)
    (replaced_filled (reading_of c.args.reading) (tree_of c.args.term.now) (partial_of c.in_ok-bindings.bindings) later (λ v. ap (λ (bs : List Binding). (partial_of bs).value v) c.in_ok-bindings.ensures) yes (space_of c.args.space) c.requires.variables c.requires.term (tree_of c.args.context.now) c.requires.context)
