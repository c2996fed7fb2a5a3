use Rattle.std.proofs.Common.{refl}
use Rattle.etp_theory.proofs.Examples.{not_same, no_overlap, convergent, not_derived, dual_reached, dual_covered}
use Rattle.etp_theory.proofs.FirstExample.{first_failing, root_failing}
use Rattle.etp_theory.proofs.worked_examples.Goals as goal

pub returns : goal.returns
returns c = record {
  not_same = not_same;
  ordered = refl;
  inner_first = refl;
  inner_position = refl;
  lowest_rule = refl;
  computed = refl;
  no_overlap = no_overlap;
  convergent = convergent;
  first_failing = first_failing;
  root_failing = root_failing;
  not_derived = not_derived;
  dual_reached = dual_reached;
  dual_covered = dual_covered;
}
