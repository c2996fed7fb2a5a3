use Rattle.std.proofs.Common.{◌≡◌, ◌++◌, List, ℕ, sym, ap, ◌∙◌, subst, arith}
use Rattle.etp_proof.specs.Names.{IsName}
use Rattle.etp_gen.specs.Scripts.{file_name}
use Rattle.etp_gen.proofs.Names.{is_name}
use Rattle.etp_demo.proofs.Naming.{none_named}
use Rattle.etp_demo.proofs.filling.name_of.Goals as goal

pub unreachable-requires : goal.unreachable-requires
unreachable-requires c =
    let text : c.as_slice.result.now ≡ file_name c.args.k =
    c.as_slice.ensures ∙ c.in_ok-append_file_name.ensures ∙ ap (λ (t : List ℕ). t ++ file_name c.args.k) c.empty-text.ensures in
    none_named _ _ c.in_ok-name.field-0 c.in_ok-name.ensures c.in-None.is (subst IsName (sym text) (is_name c.args.k (omega (arith, c.ranges.k.fits))))
