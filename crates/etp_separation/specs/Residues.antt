-- Linear magmas with a modulus, on natural numbers.
use Rattle.std.specs.Prelude.{ℕ, pos, nat_abs}
use Rattle.etp_linear.specs.Magmas as Linears
use Rattle.etp_linear.specs.Magmas.{LinearMagma}

-- the operation on 0 to m - 1
abbrev pub residue_times : LinearMagma → ℕ → ℕ → ℕ
residue_times l x y = nat_abs (Linears.times l (pos x) (pos y))
