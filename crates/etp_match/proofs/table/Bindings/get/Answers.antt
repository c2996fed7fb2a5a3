use Rattle.std.proofs.Common.{◌≡◌, map, List, Some, None, slice_get, sym, ap, ◌∙◌, subst}
use Rattle.std.proofs.lemmas.Option.{slice_get_read}
use Rattle.etp_term.specs.Terms.{tree_of}
use Rattle.etp_match.specs.Bindings.{value_of, entry_of}
use Rattle.etp_match.specs.declared.subst.Binding.{Binding}
use Rattle.etp_match.specs.declared.table.Bound.{Bound}
use Rattle.etp_match.proofs.Tables.{value_there, other_there, none_there}
use Rattle.etp_match.proofs.table.Bindings.get.Goals as goal

pub returns-then-bound-variable : goal.returns-then-bound-variable
returns-then-bound-variable c =
    let place : slice_get c.self.inside.places.items c.args.variable ≡ Some c.index-place.result.now =
    slice_get_read c.self.inside.places.items 256 c.args.variable c.index-place.result.now (sym c.self.invariant.0.size) c.ranges.variable.fits c.index-place.ensures in
    let there : slice_get c.self.inside.bound.items c.index-place.result.now ≡ Some c.in-Some.bound.now =
    ap (λ (xs : List Bound). slice_get xs c.index-place.result.now) (sym c.as_slice.ensures.value) ∙ sym c.in-Some.ensures in
    sym (subst (λ (xs : List Binding). value_of (map entry_of xs) c.args.variable ≡ Some (tree_of c.in-Some.bound.now.value.now)) c.self.view_is
    (value_there c.self.inside.bound.items c.self.inside.places.items c.self.invariant.0 c.args.variable c.index-place.result.now place c.in-Some.bound.now there c.if-bound-variable.true))

pub returns-else-bound-variable : goal.returns-else-bound-variable
returns-else-bound-variable c =
    let place : slice_get c.self.inside.places.items c.args.variable ≡ Some c.index-place.result.now =
    slice_get_read c.self.inside.places.items 256 c.args.variable c.index-place.result.now (sym c.self.invariant.0.size) c.ranges.variable.fits c.index-place.ensures in
    let there : slice_get c.self.inside.bound.items c.index-place.result.now ≡ Some c.in-Some.bound.now =
    ap (λ (xs : List Bound). slice_get xs c.index-place.result.now) (sym c.as_slice.ensures.value) ∙ sym c.in-Some.ensures in
    sym (subst (λ (xs : List Binding). value_of (map entry_of xs) c.args.variable ≡ None) c.self.view_is
    (other_there c.self.inside.bound.items c.self.inside.places.items c.self.invariant.0 c.args.variable c.index-place.result.now place c.in-Some.bound.now there c.if-bound-variable.false))

pub returns-in-None : goal.returns-in-None
returns-in-None c =
    let place : slice_get c.self.inside.places.items c.args.variable ≡ Some c.index-place.result.now =
    slice_get_read c.self.inside.places.items 256 c.args.variable c.index-place.result.now (sym c.self.invariant.0.size) c.ranges.variable.fits c.index-place.ensures in
    let there : slice_get c.self.inside.bound.items c.index-place.result.now ≡ None =
    ap (λ (xs : List Bound). slice_get xs c.index-place.result.now) (sym c.as_slice.ensures.value) ∙ sym c.in-None.ensures in
    sym (subst (λ (xs : List Binding). value_of (map entry_of xs) c.args.variable ≡ None) c.self.view_is
    (none_there c.self.inside.bound.items c.self.inside.places.items c.self.invariant.0 c.args.variable c.index-place.result.now place there))
