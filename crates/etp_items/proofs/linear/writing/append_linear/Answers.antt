use Rattle.std.proofs.Common.{◌∷◌, ◌++◌, ◌∙◌, ap, rules, FitsSigned, w64}
use Rattle.std.proofs.lemmas.Int.{to_z-of_z}
use Rattle.etp_items.specs.Bodies.{linear_in}
use Rattle.std.specs.Fmt.{signed_decimal}
use Rattle.etp_items.proofs.LinearLemmas.{linear_written}
use Rattle.etp_items.proofs.linear.writing.append_linear.Goals as goal

pub returns : goal.returns
returns c =
    let l = linear_in c.args.body.now in
    let af : FitsSigned w64 c.args.body.now.a = search rules in
    let bf : FitsSigned w64 c.args.body.now.b = search rules in
    let cf : FitsSigned w64 c.args.body.now.c = search rules in
    linear_written c.append.result l c.args.text.now c.append_ring.new.text c.append_integer.new.text c.append_integer-2.new.text c.append_integer-3.new.text c.append.new.self
    c.in_ok-append_ring.ensures
    (c.in_ok-append_integer.ensures ∙ ap (λ z. c.append_ring.new.text ++ 32 ∷ signed_decimal z) (to_z-of_z w64 l.a af))
    (c.in_ok-append_integer-2.ensures ∙ ap (λ z. c.append_integer.new.text ++ 32 ∷ signed_decimal z) (to_z-of_z w64 l.b bf))
    (c.in_ok-append_integer-3.ensures ∙ ap (λ z. c.append_integer-2.new.text ++ 32 ∷ signed_decimal z) (to_z-of_z w64 l.c cf))
    c.append.ensures.ok
