use Rattle.std.proofs.Common.{◌≡◌, ◌∙◌, sym, ap, ℕ, ◌+◌, ◌<◌, ◌≤◌, List, [], ◌∷◌, ◌++◌, length, take, drop, set, get_or, arith}
use Rattle.std.proofs.lemmas.List.{append_assoc, drop_more, length-take-le, set_at, take_more}
use Rattle.etp_matrix.proofs.making.fill.Goals as goal

one_more : (to from before : List ℕ) (n : ℕ) → n < length from → length from ≤ length before → to ≡ take n from ++ drop n before → set to n (get_or from n 0) ≡ take (n + 1) from ++ drop (n + 1) before
one_more to from before n h long e =
    ap (λ l. set l n (get_or from n 0)) (e ∙ ap (λ l. take n from ++ l) (drop_more before n 0 (omega arith)))
    ∙ set_at (take n from) (get_or before n 0) (drop (n + 1) before) (get_or from n 0) n (length-take-le n from (omega arith))
    ∙ sym (append_assoc (take n from) (get_or from n 0 ∷ []) (drop (n + 1) before))
    ∙ ap (λ l. l ++ drop (n + 1) before) (sym (take_more from n 0 h))

pub loop-n-preserved : goal.loop-n-preserved
loop-n-preserved c = one_more c.loop-n.to c.args.from.now c.args.to.now c.loop-n.n (omega arith) c.requires c.loop-n.invariant
