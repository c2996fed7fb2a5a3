-- Which magma a value of the program stands for.
use Rattle.std.specs.Prelude.{◌*◌, take}
use Rattle.etp_matrix.specs.Magmas.{MatrixMagma}
use Rattle.etp_matrix.specs.declared.matrix_linear.MatrixLinear.{MatrixLinear}

-- the magma that a value of the program stands for
abbrev pub magma_of : MatrixLinear → MatrixMagma
magma_of l = record {
  modulus = l.modulus;
  size = l.size;
  a = take (l.size * l.size) l.a;
  b = take (l.size * l.size) l.b;
  c = take l.size l.c;
}
