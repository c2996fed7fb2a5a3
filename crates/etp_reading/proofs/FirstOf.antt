-- The first of some numbers that isn't listed.
use Rattle.std.proofs.Common.{ℕ, ◌+◌, ◌<◌, suc, add-one, List, ◌++◌, length, take, drop, get_or, All, sym, ap, subst, ◌∙◌}
use Rattle.std.proofs.Math.Seq.{take-suc, drop-cons}
use Rattle.std.proofs.lemmas.List.{take-append-drop}
use Rattle.std.proofs.lemmas.List.Elements.{All-push}
use Rattle.etp_theory.specs.LawNumbers.{IsLaw}
use Rattle.etp_reading.specs.Tallies.{IsFirstOf}

pub one_more : (P : ℕ → Type 0) (xs : List ℕ) (i : ℕ) → i < length xs → All P (take i xs) → P (get_or xs i 0) → All P (take (i + 1) xs)
one_more P xs i h known p =
    subst (All P) (sym (ap (λ n. take n xs) (add-one i) ∙ take-suc xs i 0 h)) (All-push P (take i xs) (get_or xs i 0) known p)

pub first_at : (count : ℕ) (xs : List ℕ) (i : ℕ) → i < length xs → All (IsLaw count) (take i xs) → (IsLaw count (get_or xs i 0) → ⊥) → IsFirstOf count xs (get_or xs i 0)
first_at count xs i h known n = record {
  known = take i xs;
  more = drop (suc i) xs;
  whole = sym (take-append-drop i xs) ∙ ap (λ z. take i xs ++ z) (drop-cons xs i 0 h);
  listed = known;
  unlisted = n;
}
