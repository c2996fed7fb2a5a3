use Rattle.std.proofs.Common.{◌≡◌, ◌<◌, length, map, List, ◌∷◌, [], ◌++◌, None, sym, subst, arith}
use Rattle.std.proofs.Math.ListN.{set}
use Rattle.etp_match.specs.Bindings.{value_of, entry_of}
use Rattle.etp_match.specs.Indexes.{IsIndex}
use Rattle.etp_match.specs.declared.subst.Binding.{Binding}
use Rattle.etp_match.specs.declared.table.Bound.{Bound}
use Rattle.etp_match.proofs.Tables.{bound_more, room_left}
use Rattle.etp_match.proofs.table.Bindings.bind.Goals as goal

pub overflow_cast-len : goal.overflow_cast-len
overflow_cast-len c =
    let few : length c.self.inside.bound.items < 256 =
    room_left c.self.inside.bound.items c.self.inside.places.items (record { variable = c.args.variable; value = c.args.value }) c.self.invariant.0 c.ranges.variable.fits
    (subst (λ (xs : List Binding). value_of (map entry_of xs) c.args.variable ≡ None) (sym c.self.view_is) c.requires) in
    record { fits = omega (arith, c.self.inside.bound.ok.0, c.len.ensures) }

pub push_reserved-requires : goal.push_reserved-requires
push_reserved-requires c =
    let few : length c.self.inside.bound.items < 256 =
    room_left c.self.inside.bound.items c.self.inside.places.items (record { variable = c.args.variable; value = c.args.value }) c.self.invariant.0 c.ranges.variable.fits
    (subst (λ (xs : List Binding). value_of (map entry_of xs) c.args.variable ≡ None) (sym c.self.view_is) c.requires) in
    omega (arith, c.self.inside.bound.ok.0, c.self.invariant.1)

pub invariant_of-self : goal.invariant_of-self
invariant_of-self c =
    let more : IsIndex (c.self.inside.bound.items ++ record { variable = c.args.variable; value = c.args.value } ∷ []) (set c.self.inside.places.items c.args.variable (length c.self.inside.bound.items)) =
    bound_more c.self.inside.bound.items c.self.inside.places.items (record { variable = c.args.variable; value = c.args.value }) c.self.invariant.0 c.ranges.variable.fits
    (subst (λ (xs : List Binding). value_of (map entry_of xs) c.args.variable ≡ None) (sym c.self.view_is) c.requires) in
    let number : length c.self.inside.bound.items ≡ c.len.result = omega (arith, c.self.inside.bound.ok.0, c.len.ensures) in (
      subst (λ (ys : List Bound). IsIndex ys (set c.self.inside.places.items c.args.variable c.len.result)) (sym c.push_reserved.ensures.items)
          (subst (λ n. IsIndex (c.self.inside.bound.items ++ record { variable = c.args.variable; value = c.args.value } ∷ []) (set c.self.inside.places.items c.args.variable n)) number more),
      omega (arith, c.push_reserved.ensures.capacity, c.self.invariant.1),
    )
