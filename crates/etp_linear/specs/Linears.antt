-- Which magma a value of the program stands for.
use Rattle.etp_linear.specs.Magmas.{LinearMagma}
use Rattle.etp_linear.specs.declared.linear.Linear.{Linear}

-- the magma that a value of the program stands for
abbrev pub magma_of : Linear → LinearMagma
magma_of l = record { ring = l.ring; a = l.a; b = l.b; c = l.c }
