use Rattle.std.proofs.Common.{◌≡◌, ◌-◌, ◌∷◌, List, ℕ, length, take, Some, ap, ap₂, ◌∙◌, sym, arith}
use Rattle.etp_text.specs.Machine.{name_at, named, token_at}
use Rattle.etp_text.proofs.Lexing.{name_read, name_taken, behind_length}
use Rattle.etp_text.proofs.token.token_at.Goals as goal

pub name_before-requires : goal.name_before-requires
name_before-requires c =
    omega (arith, behind_length c.in_ok-byte.rest.now, ap length c.behind_name-behind.ensures, ap length c.in_ok-byte.ensures.cases.0)

pub returns-in_default : goal.returns-in_default
returns-in_default c =
    let b = c.in_ok-byte.byte.now in
    let bs = c.in_ok-byte.rest.now in
    let whole : c.args.bytes.now ≡ b ∷ bs = c.in_ok-byte.ensures.cases.0 in
    let behind = c.behind_name-behind.ensures in
    let name : c.name_before.result.now ≡ b ∷ name_at bs = c.name_before.ensures ∙ (ap₂ (λ x (y : List ℕ). take (length x - length y) x) whole behind ∙ name_taken b bs) in
    ap₂ (λ t r. Some (t, r)) (c.named.ensures ∙ ap named name) behind
    ∙ sym (ap token_at whole ∙ name_read b bs (sym c.is_ascii_alphabetic.ensures.value ∙ c.if-is_ascii_alphabetic.true))
