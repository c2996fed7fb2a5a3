use Rattle.std.proofs.Common.{◌≡◌, ap, ◌∙◌, map, slice_get, length, Some, ◌-◌, List, Err, subst, sym, rules}
use Rattle.etp_term.specs.Laws.{equation_of}
use Rattle.etp_term.specs.declared.law.Law.{Law}
use Rattle.etp_replay.specs.Validity.{law_at}
use Rattle.etp_finite_replay.proofs.Judged.{valid_by, implied_by, refused_by, wrong_moved}
use Rattle.etp_finite_replay.proofs.judging.replay_finite.Goals as goal

pub returns-clause-valid : goal.returns-clause-valid
returns-clause-valid c =
    let laws = c.args.laws.now.equations in
    let last : slice_get c.in_ok-found.found.items (length c.in_ok-found.found.items - 1) ≡ Some c.last_of.result.now = subst (λ (z : List Law). slice_get z (length z - 1) ≡ Some c.last_of.result.now) c.as_slice-2.ensures.value c.last_of.ensures in
    valid_by (law_at laws c.args.proof.now.hypothesis) (equation_of c.listed-hypothesis.result.now) (law_at laws c.args.proof.now.goal) c.args.proof.now.lemmas c.as_slice.result.now c.listed-hypothesis.ensures.law c.as_slice.ensures.value c.in_ok-found.found.items c.last_of.result.now c.in_ok-found.ensures.right c.in_ok-found.ensures.found last c.compare_goal.result c.compare_goal.ensures.ok

pub returns-clause-implied : goal.returns-clause-implied
returns-clause-implied c =
    let laws = c.args.laws.now.equations in
    let last : slice_get c.in_ok-found.found.items (length c.in_ok-found.found.items - 1) ≡ Some c.last_of.result.now = subst (λ (z : List Law). slice_get z (length z - 1) ≡ Some c.last_of.result.now) c.as_slice-2.ensures.value c.last_of.ensures in
    implied_by (law_at laws c.args.proof.now.hypothesis) (equation_of c.listed-hypothesis.result.now) (law_at laws c.args.proof.now.goal) c.args.proof.now.lemmas c.as_slice.result.now c.listed-hypothesis.ensures.law c.as_slice.ensures.value c.in_ok-found.found.items c.last_of.result.now c.in_ok-found.ensures.right c.in_ok-found.ensures.found last c.compare_goal.result c.compare_goal.ensures.ok

pub returns-clause-err : goal.returns-clause-err
returns-clause-err c =
    let laws = c.args.laws.now.equations in
    let last : slice_get c.in_ok-found.found.items (length c.in_ok-found.found.items - 1) ≡ Some c.last_of.result.now = subst (λ (z : List Law). slice_get z (length z - 1) ≡ Some c.last_of.result.now) c.as_slice-2.ensures.value c.last_of.ensures in
    refused_by (law_at laws c.args.proof.now.hypothesis) (equation_of c.listed-hypothesis.result.now) (law_at laws c.args.proof.now.goal) c.args.proof.now.lemmas c.as_slice.result.now c.listed-hypothesis.ensures.law c.as_slice.ensures.value c.in_ok-found.found.items c.last_of.result.now c.in_ok-found.ensures.right c.in_ok-found.ensures.found last c.args.laws.now c.compare_goal.result c.compare_goal.ensures.err

pub returns-in_err-found-clause-err : goal.returns-in_err-found-clause-err
returns-in_err-found-clause-err c =
    let k : c.from_residual.result ≡ Err c.in_err-found.field-0.0 = search rules in
    let laws = c.args.laws.now.equations in
    rw k (wrong_moved (law_at laws c.args.proof.now.hypothesis) (equation_of c.listed-hypothesis.result.now) (law_at laws c.args.proof.now.goal) c.args.proof.now.lemmas c.as_slice.result.now c.listed-hypothesis.ensures.law c.as_slice.ensures.value c.args.laws.now c.in_err-found.field-0.0 c.in_err-found.ensures.err)
