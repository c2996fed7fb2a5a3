use Rattle.std.proofs.Common.{◌≡◌, ℕ, zero, suc, ◌+◌, ◌<◌, List, ◌∷◌, [], ◌++◌, length, take, Some, None, slice_get, sym, ap, ◌∙◌, arith, add-one}
use Rattle.std.proofs.Math.Seq.{take-suc}
use Rattle.std.proofs.lemmas.Option.{slice_get_within, get_or_from_slice_get}
use Rattle.etp_term.specs.declared.position.Side.{Side}
use Rattle.etp_pairs.proofs.pairing.copied.Goals.{in-Some+in_ok-push, in_default}
use Rattle.etp_pairs.proofs.pairing.copied.Goals as goal

take_one : (xs : List Side) (k : ℕ) (x : Side) → Some x ≡ slice_get xs k → take k xs ++ x ∷ [] ≡ take (k + 1) xs
take_one xs k x h =
    ap (λ y. take k xs ++ y ∷ []) (sym (get_or_from_slice_get xs k x x (sym h)))
    ∙ sym (take-suc xs k x (slice_get_within xs k x (sym h)))
    ∙ ap (λ n. take n xs) (sym (add-one k))

not_inside : (xs : List Side) (k : ℕ) → k < length xs → None ≡ slice_get xs k → ⊥
not_inside [] k h e = omega (arith, h)
not_inside (x ∷ xs) zero h e = cc
not_inside (x ∷ xs) (suc k) h e = not_inside xs k (omega arith) e

pub loop-at-preserved : goal.loop-at-preserved
loop-at-preserved c = elim c.match-get.branch [
  | in-Some+in_ok-push w ↦ w.copy-is ∙ w.in_ok-push.ensures.ok ∙ ap (λ (xs : List Side). xs ++ w.in-Some.side.now ∷ []) c.loop-at.invariant ∙ take_one c.args.position.now c.loop-at.at w.in-Some.side.now w.in-Some.ensures
  | in_default w ↦ absurd (not_inside c.args.position.now c.loop-at.at (omega (arith, c.loop-at-test.true, c.len-at-end.ensures)) w.in_default.ensures)
]
