-- Draws one after the other.
use Rattle.std.proofs.Common.{◌≡◌, ◌≢◌, ℕ, zero, suc, ◌+◌, ◌%◌, ◌<◌, List, length, get_or, set, refl, sym, ap, ◌∙◌, add-one, arith, below_more, get_or-set_same, get_or-set_other}
use Rattle.etp_gen.specs.Draws.{next_draw, draw}

pub one_more : (i : ℕ) → suc i ≡ 1 + i
one_more i = omega arith

pub two_more : (i : ℕ) → suc (1 + i) ≡ 2 + i
two_more i = omega arith

-- the draws from the state after the first one
pub draw-later : (s k : ℕ) → draw (next_draw s) k ≡ draw s (suc k)
draw-later s zero = refl
draw-later s (suc k) = ap next_draw (draw-later s k)

-- one draw more
pub draw-more : (s i state next : ℕ) → state ≡ draw s i → next ≡ next_draw state → next ≡ draw s (i + 1)
draw-more s i state next e f = f ∙ ap next_draw e ∙ ap (draw s) (sym (add-one i))

pub values-more : (s n i state next value : ℕ) (values : List ℕ) → i < length values → state ≡ draw s i → next ≡ next_draw state → value ≡ next % n
    → ((k : ℕ) → k < i → get_or values k 0 ≡ draw s (1 + k) % n) → (k : ℕ) → k < i + 1 → get_or (set values i value) k 0 ≡ draw s (1 + k) % n
values-more s n i state next value values within e f g drawn =
    below_more (λ k. get_or (set values i value) k 0 ≡ draw s (1 + k) % n) i
    (λ k h. let apart : k ≢ i = omega (arith, h) in get_or-set_other values i k value 0 apart ∙ drawn k h)
    (get_or-set_same values i value 0 within ∙ g ∙ ap (λ d. d % n) (f ∙ ap next_draw e ∙ ap (draw s) (one_more i)))
