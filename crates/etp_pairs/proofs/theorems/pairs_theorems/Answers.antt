use Rattle.etp_pairs.proofs.Unique.{one_pair, passes, one_refusal}
use Rattle.etp_pairs.proofs.theorems.pairs_theorems.Goals as goal

pub returns : goal.returns
returns c = record {
  one_pair = one_pair;
  not_both = passes;
  one_refusal = λ w rules r s all. one_refusal w rules all r s;
}
