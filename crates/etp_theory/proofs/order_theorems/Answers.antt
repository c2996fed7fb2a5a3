use Rattle.etp_theory.proofs.Orders.{shape_order, shape_equal, law_order, law_equal}
use Rattle.etp_theory.proofs.order_theorems.Goals as goal

pub returns : goal.returns
returns c = record { shape_order = shape_order; shape_equal = shape_equal; law_order = law_order; law_equal = law_equal }
