use Rattle.etp_theory.proofs.Places.{irreflexive, transitive, total, position_inside}
use Rattle.etp_theory.proofs.Ends.{looked_at, not_both, one_finding}
use Rattle.etp_theory.proofs.General.{pair_renamed}
use Rattle.etp_theory.proofs.Failing.{one_pair_tells, all_pairs_tell, found, not_convergent, only_first}
use Rattle.etp_theory.proofs.overlap_theorems.Goals as goal

pub returns : goal.returns
returns c = record {
  irreflexive = irreflexive;
  transitive = transitive;
  total = total;
  inside = position_inside;
  looked_at = looked_at;
  not_both = not_both;
  one_finding = one_finding;
  renamed_pair = λ rules. pair_renamed;
  one_pair_tells = λ w rules. one_pair_tells rules w;
  all_pairs_tell = λ w rules. all_pairs_tell rules w;
  found = λ w rules. found rules w;
  not_convergent = λ w rules. not_convergent rules w;
  only_first = λ w rules. only_first rules w;
}
