-- The limits of a walk.
use Rattle.std.specs.Prelude.{ℕ}

-- the steps that a walk may take
abbrev pub step_limit : ℕ
step_limit = 100000

-- the leaves that a term of a walk may have
abbrev pub leaf_limit : ℕ
leaf_limit = 512
