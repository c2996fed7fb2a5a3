-- A linear magma's operation stays in the carrier, and what is derived from a law that holds holds too.
use Rattle.etp_theory.specs.Trees.{Equation}
use Rattle.etp_theory.specs.Derivations.{Derives}
use Rattle.etp_theory.specs.Magmas.{IsClosed, Holds}
use Rattle.etp_theory.specs.Sound.{sound}
use Rattle.std.specs.Prelude.{◌+ℤ◌, ◌*ℤ◌}
use Rattle.etp_linear.specs.Magmas.{LinearMagma, IsLinearMagma, inside, times}
use Rattle.etp_linear.specs.Linears.{magma_of}
use Rattle.etp_linear.specs.declared.linear.Linear.{Linear}
use Rattle.etp_linear.specs.Remainders.{reduced_inside}

pub closed_in : (l : LinearMagma) → IsLinearMagma l → IsClosed (inside l.ring) (times l)
closed_in l ok x y i j = reduced_inside l.ring ok.modulus (l.a *ℤ x +ℤ l.b *ℤ y +ℤ l.c)

pub keeps : (m : Linear) (e f : Equation)
    → Holds (inside (magma_of m).ring) (times (magma_of m)) e.left e.right → Derives e f
    → Holds (inside (magma_of m).ring) (times (magma_of m)) f.left f.right
keeps m e f h d = sound (inside (magma_of m).ring) (times (magma_of m)) (closed_in (magma_of m) m.in_range) e h d

pub stays : (m : Linear) → IsClosed (inside (magma_of m).ring) (times (magma_of m))
stays m = closed_in (magma_of m) m.in_range
