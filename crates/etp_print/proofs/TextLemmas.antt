-- Texts that are appended part by part.
use Rattle.std.proofs.Common.{◌≡◌, ℕ, List, ◌++◌, sym, ◌∙◌, ap, append_assoc}

-- two pairs of parts
pub four-parts : (old middle new a b c d : List ℕ) → middle ≡ old ++ (a ++ b) → new ≡ middle ++ (c ++ d) → new ≡ old ++ (((a ++ b) ++ c) ++ d)
four-parts old middle new a b c d e f =
    f ∙ ap (λ (t : List ℕ). t ++ (c ++ d)) e ∙ append_assoc old (a ++ b) (c ++ d) ∙ ap (λ (t : List ℕ). old ++ t) (sym (append_assoc (a ++ b) c d))
