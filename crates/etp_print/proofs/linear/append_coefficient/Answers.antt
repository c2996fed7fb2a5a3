use Rattle.std.proofs.Common.{◌≡◌, ◌++◌, ◌∙◌, List, ℕ, ap, append_assoc, codes, rules, subst, sym, FitsSigned, OnOk, Result, Ok, Err}
use Rattle.std.specs.Fmt.{signed_decimal}
use Rattle.std.specs.Int.{w128}
use Rattle.std.proofs.lemmas.Int.{to_z-of_z}
use Rattle.etp_print.specs.RefusalTexts.{which_word}
use Rattle.etp_print.proofs.linear.append_coefficient.Goals as goal

-- pieces, one after another
pieces : {T E : Type 0} (r : Result T E) (s t u v p q w d : List ℕ) → t ≡ s ++ p → u ≡ t ++ q → OnOk r (v ≡ u ++ (w ++ d)) → OnOk r (v ≡ s ++ (((p ++ q) ++ w) ++ d))
pieces (Err e) s t u v p q w d h k m = tt
pieces (Ok x) s t u v p q w d h k m =
    m ∙ ap (λ z. z ++ (w ++ d)) (k ∙ ap (λ z. z ++ q) h ∙ append_assoc s p q) ∙ append_assoc s (p ++ q) (w ++ d)
    ∙ ap (λ z. s ++ z) (sym (append_assoc (p ++ q) w d))

pub returns : goal.returns
returns c =
    let fits : FitsSigned w128 c.args.value = search rules in
    pieces c.append_signed.result c.args.text.now c.append.new.self c.append_which.new.text c.append_signed.new.text (codes "coefficient ") (which_word c.args.which) (codes " value ") (signed_decimal c.args.value)
    c.in_ok-append.ensures.ok c.in_ok-append_which.ensures
    (subst (λ z. OnOk c.append_signed.result (c.append_signed.new.text ≡ c.append_which.new.text ++ (codes " value " ++ signed_decimal z))) (to_z-of_z w128 c.args.value fits) c.append_signed.ensures)
