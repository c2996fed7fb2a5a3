-- Numbers drawn from a seed, by a linear congruence.
use Rattle.std.specs.Prelude.{ℕ, zero, suc, ◌+◌, ◌*◌, ◌%◌}

-- the state that a seed gives
abbrev pub start : ℕ → ℕ
start seed = seed % 65536

-- the draw from a state, which is the state after it
abbrev pub next_draw : ℕ → ℕ
next_draw s = (75 * s + 74) % 65537

-- the k-th draw from a state; the state itself for k = 0
abbrev pub draw : ℕ → ℕ → ℕ
draw s zero = s
draw s (suc k) = next_draw (draw s k)
