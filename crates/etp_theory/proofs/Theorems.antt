-- Theorems as values, which the proofs of other crates cite: they rest on the statements of
-- `specs/Theorems.antt` alone.
use Rattle.etp_theory.specs.Theorems.{TermTheorems, PositionTheorems, ProofTheorems, UnificationTheorems, ReachTheorems}
use Rattle.etp_theory.proofs.Orders as Orders
use Rattle.etp_theory.proofs.Trees as Trees
use Rattle.etp_theory.proofs.Proofs as Proofs
use Rattle.etp_theory.proofs.General as General
use Rattle.etp_theory.proofs.Reaching as Reaching

pub term_theorems : TermTheorems
term_theorems = record {
  leaves_ops = Orders.leaves_ops;
  shape_counts = Orders.shape_counts;
  word_length = Orders.word_length;
  shape_and_word = Orders.shape_and_word;
}

pub position_theorems : PositionTheorems
position_theorems = record {
  sub_at_applied = Trees.sub_at_applied;
  put_at_applied = Trees.put_at_applied;
  sub_at_put = Trees.sub_at_put;
  put_at_sub = Trees.put_at_sub;
  put_at_put = Trees.put_at_put;
}

pub proof_theorems : ProofTheorems
proof_theorems = record {
  partial = Proofs.step_partial;
  replaced = λ e p s t. (Proofs.step_replaces e p s t, Proofs.replaced_step e p s t);
  concluded = λ e cites ls h r k l q. Proofs.concluded e cites h ls r k l q;
  proved = λ e f cites ls h v. Proofs.proved e cites h f ls v;
}

pub unification_theorems : UnificationTheorems
unification_theorems = General.laws_of_unifiers

pub reach_theorems : ReachTheorems
reach_theorems = record {
  derived = λ laws duals facts right e f p q h k r. Reaching.reach_derives laws duals facts right r p q h k;
  apart = λ laws duals facts right e f p q h k v. Reaching.covered_apart laws duals facts right v p q h k;
  never_both = λ laws duals facts right e f r v. Reaching.never_both laws duals facts right r v;
}
