use Rattle.std.proofs.Common.{◌∙◌, sym, subst, ap}
use Rattle.etp_matrix.specs.Walks.{IsVector, applied}
use Rattle.etp_matrix.proofs.matrix_linear.MatrixLinear.extended.Goals as goal

pub product-requires-clause-q : goal.product-requires-clause-q
product-requires-clause-q c = λ k h. subst (IsVector c.args.self.now.modulus 4) (sym (c.columns_of_rows.ensures k h)) (c.requires.matrix k)

pub returns : goal.returns
returns c = λ k h. c.product.ensures k h ∙ ap (applied c.args.self.now.modulus c.args.factor.now) (c.columns_of_rows.ensures k h)
