use Rattle.std.proofs.Common.{take, map, List, sym, ap, ◌∙◌}
use Rattle.std.proofs.lemmas.List.{take-map}
use Rattle.etp_match.specs.Indexes.{binding_of}
use Rattle.etp_match.specs.declared.table.Bound.{Bound}
use Rattle.etp_match.specs.declared.subst.Binding.{Binding}
use Rattle.etp_match.proofs.table.Bindings.truncate.Goals as goal

pub returns : goal.returns
returns c =
    ap (λ (xs : List Bound). map binding_of xs) c.truncate.ensures.items
    ∙ sym (take-map binding_of c.args.len c.self.inside.bound.items)
    ∙ ap (λ (xs : List Binding). take c.args.len xs) c.self.view_is
