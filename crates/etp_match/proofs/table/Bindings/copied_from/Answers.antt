use Rattle.std.proofs.Common.{◌≡◌, ◌-◌, List, map, take, drop, length, sym, ap, ◌∙◌, arith, length-drop}
use Rattle.std.proofs.lemmas.List.{take_all, drop-map}
use Rattle.etp_match.specs.Indexes.{binding_of}
use Rattle.etp_match.specs.declared.subst.Binding.{Binding}
use Rattle.etp_match.specs.declared.table.Bound.{Bound}
use Rattle.etp_match.proofs.table.Bindings.copied_from.Goals as goal

pub returns : goal.returns
returns c =
    let all : take (length c.as_slice.result.now - c.args.start) (drop c.args.start c.as_slice.result.now) ≡ drop c.args.start c.as_slice.result.now =
    take_all (length c.as_slice.result.now - c.args.start) (drop c.args.start c.as_slice.result.now) (omega (arith, length-drop c.args.start c.as_slice.result.now)) in
    c.loop-bound.invariant
    ∙ ap (λ (xs : List Bound). map binding_of xs) (take_all c.loop-bound.bound-index (take (length c.as_slice.result.now - c.args.start) (drop c.args.start c.as_slice.result.now)) c.loop-bound-test.false ∙ all)
    ∙ sym (drop-map binding_of c.args.start c.as_slice.result.now)
    ∙ ap (λ (xs : List Bound). drop c.args.start (map binding_of xs)) c.as_slice.ensures.value
    ∙ ap (λ (xs : List Binding). drop c.args.start xs) c.self.view_is
