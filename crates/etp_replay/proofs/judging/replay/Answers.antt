use Rattle.std.proofs.Common.{◌≡◌, inl, inr, map, Err, rules, ap, ◌∙◌}
use Rattle.etp_theory.specs.Proofs.{IsValidProof}
use Rattle.etp_theory.proofs.Theorems.{proof_theorems}
use Rattle.etp_term.specs.Laws.{equation_of}
use Rattle.etp_proof.specs.Lemmas.{lemma_of}
use Rattle.etp_replay.specs.Lines.{cites_of}
use Rattle.etp_replay.specs.Validity.{law_at, IsRefused}
use Rattle.etp_replay.proofs.Judged.{is_valid, other_goal}
use Rattle.etp_replay.proofs.judging.replay.Goals as goal

pub returns-clause-valid : goal.returns-clause-valid
returns-clause-valid c =
    record {
      hypothesis_listed = c.requires.hypothesis;
      goal_listed = c.requires.goal;
      as_many = c.requires.cites;
      cited_listed = c.requires.cited;
      right = is_valid (law_at c.args.laws.now.equations c.args.proof.now.hypothesis) (equation_of c.listed-hypothesis.result.now) (law_at c.args.laws.now.equations c.args.proof.now.goal) (map (law_at c.args.laws.now.equations) c.args.cited.now) (cites_of c.as_slice.result.now) c.args.proof.now.lemmas c.as_slice-lemmas.result.now c.listed-hypothesis.ensures.law (ap cites_of c.as_slice.ensures.value ∙ c.in_ok-cites.ensures) c.as_slice-lemmas.ensures.value c.requires.lemmas c.in_ok-replay_lemmas.ensures.ok c.index-lemmas-lemmas.result c.index-lemmas-lemmas.is c.in_ok-compare_goal.ensures.ok;
    }

pub returns-clause-derived : goal.returns-clause-derived
returns-clause-derived c = λ derived.
    let valid : IsValidProof (law_at c.args.laws.now.equations c.args.proof.now.hypothesis) (law_at c.args.laws.now.equations c.args.proof.now.goal) (map (law_at c.args.laws.now.equations) c.args.cited.now) (map lemma_of c.args.proof.now.lemmas) =
    is_valid (law_at c.args.laws.now.equations c.args.proof.now.hypothesis) (equation_of c.listed-hypothesis.result.now) (law_at c.args.laws.now.equations c.args.proof.now.goal) (map (law_at c.args.laws.now.equations) c.args.cited.now) (cites_of c.as_slice.result.now) c.args.proof.now.lemmas c.as_slice-lemmas.result.now c.listed-hypothesis.ensures.law (ap cites_of c.as_slice.ensures.value ∙ c.in_ok-cites.ensures) c.as_slice-lemmas.ensures.value c.requires.lemmas c.in_ok-replay_lemmas.ensures.ok c.index-lemmas-lemmas.result c.index-lemmas-lemmas.is c.in_ok-compare_goal.ensures.ok in
    proof_theorems.proved (law_at c.args.laws.now.equations c.args.proof.now.hypothesis) (law_at c.args.laws.now.equations c.args.proof.now.goal) (map (law_at c.args.laws.now.equations) c.args.cited.now) (map lemma_of c.args.proof.now.lemmas) derived valid

pub returns-in_err-compare_goal-clause-err : goal.returns-in_err-compare_goal-clause-err
returns-in_err-compare_goal-clause-err c =
    let k : c.from_residual-in_err-compare_goal.result ≡ Err c.in_err-compare_goal.field-0.0 = search rules in
    let found = c.in_err-compare_goal.ensures.err in
    let cause : IsRefused c.args.laws.now c.args.proof.now c.args.cited.now c.in_err-compare_goal.field-0.0 =
    elim found [ inl e ↦ inl e | inr o ↦ inr (inr (other_goal (law_at c.args.laws.now.equations c.args.proof.now.hypothesis) (equation_of c.listed-hypothesis.result.now) (law_at c.args.laws.now.equations c.args.proof.now.goal) (map (law_at c.args.laws.now.equations) c.args.cited.now) (cites_of c.as_slice.result.now) c.args.proof.now.lemmas c.as_slice-lemmas.result.now c.listed-hypothesis.ensures.law (ap cites_of c.as_slice.ensures.value ∙ c.in_ok-cites.ensures) c.as_slice-lemmas.ensures.value c.requires.lemmas c.in_ok-replay_lemmas.ensures.ok c.index-lemmas-lemmas.result c.index-lemmas-lemmas.is c.args.laws.now c.in_err-compare_goal.field-0.0 o)) ] in
    rw k cause
