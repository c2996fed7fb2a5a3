use Rattle.std.proofs.Common.{◌≡◌, ◌+◌, List, ◌∷◌, [], ◌++◌, take, add-one, sym, ap, ◌∙◌, subst}
use Rattle.std.proofs.Math.Seq.{take-suc}
use Rattle.etp_match.specs.Bindings.{HaveSameValues}
use Rattle.etp_match.specs.declared.subst.Binding.{Binding}
use Rattle.etp_match.proofs.Same.{same_next}
use Rattle.etp_match.proofs.table.Bindings.of.Goals as goal

pub loop-binding-preserved : goal.loop-binding-preserved
loop-binding-preserved c =
    let more : take (c.loop-binding.binding-index + 1) c.as_slice-binding-items.result.now ≡ take c.loop-binding.binding-index c.as_slice-binding-items.result.now ++ c.binding-item.result ∷ [] =
    ap (λ n. take n c.as_slice-binding-items.result.now) (add-one c.loop-binding.binding-index)
    ∙ take-suc c.as_slice-binding-items.result.now c.loop-binding.binding-index c.binding-item.result c.loop-binding-test.true
    ∙ ap (λ (x : Binding). take c.loop-binding.binding-index c.as_slice-binding-items.result.now ++ x ∷ []) (sym c.binding-item.is) in
    subst (λ (zs : List Binding). HaveSameValues c.bind_first.new.self zs) (sym more)
    (same_next c.loop-binding.bindings (take c.loop-binding.binding-index c.as_slice-binding-items.result.now) c.bind_first.new.self c.binding-item.result c.loop-binding.invariant c.bind_first.ensures)
