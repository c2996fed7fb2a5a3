use Rattle.etp_term.specs.Laws.{equation_of}
use Rattle.etp_proof.specs.Lemmas.{lemma_of}
use Rattle.etp_replay.specs.Validity.{law_at}
use Rattle.etp_search.specs.Programs.{space_of}
use Rattle.etp_search.specs.Searched.{space_for}
use Rattle.etp_search.specs.declared.levels.Outcome.TheVariants.{Reached, Nothing}
use Rattle.etp_search.proofs.ProofsOver.{all_longer}
use Rattle.etp_search.proofs.Answering.{moved, is_valid, is_fewest}
use Rattle.etp_search.proofs.answer.shortest.Goals as goal

pub returns-in_ok-proof-in-Reached-clause-valid : goal.returns-in_ok-proof-in-Reached-clause-valid
returns-in_ok-proof-in-Reached-clause-valid c =
    is_valid c.args.laws.now.equations c.args.hypothesis c.args.goal c.args.leaves c.args.steps c.in_ok-proof-in-Reached.proof (lemma_of c.in-Reached.lemma) c.requires.hypothesis c.requires.goal c.in_ok-proof-in-Reached.ensures.named c.in_ok-proof-in-Reached.ensures.lemmas
    (moved (space_of c.space_between-space.result) (space_for c.args.laws.now.equations c.args.hypothesis c.args.goal c.args.leaves) (equation_of c.listed-goal_law.result.now) (law_at c.args.laws.now.equations c.args.goal) c.args.steps _ (Reached c.in-Reached.lemma) c.space_between-space.ensures.space c.listed-goal_law.ensures.law c.in-Reached.is c.in_ok-lemma.ensures)

pub returns-in_ok-proof-in-Reached-clause-fewest : goal.returns-in_ok-proof-in-Reached-clause-fewest
returns-in_ok-proof-in-Reached-clause-fewest c =
    is_fewest (space_for c.args.laws.now.equations c.args.hypothesis c.args.goal c.args.leaves) (law_at c.args.laws.now.equations c.args.goal) c.args.steps c.in_ok-proof-in-Reached.proof (lemma_of c.in-Reached.lemma) c.in_ok-proof-in-Reached.ensures.lemmas
    (moved (space_of c.space_between-space.result) (space_for c.args.laws.now.equations c.args.hypothesis c.args.goal c.args.leaves) (equation_of c.listed-goal_law.result.now) (law_at c.args.laws.now.equations c.args.goal) c.args.steps _ (Reached c.in-Reached.lemma) c.space_between-space.ensures.space c.listed-goal_law.ensures.law c.in-Reached.is c.in_ok-lemma.ensures)

pub returns-in-Nothing-clause-none : goal.returns-in-Nothing-clause-none
returns-in-Nothing-clause-none c = λ l over.
    all_longer (space_for c.args.laws.now.equations c.args.hypothesis c.args.goal c.args.leaves) (law_at c.args.laws.now.equations c.args.goal) c.args.steps l
    (moved (space_of c.space_between-space.result) (space_for c.args.laws.now.equations c.args.hypothesis c.args.goal c.args.leaves) (equation_of c.listed-goal_law.result.now) (law_at c.args.laws.now.equations c.args.goal) c.args.steps _ Nothing c.space_between-space.ensures.space c.listed-goal_law.ensures.law c.in-Nothing.is c.in_ok-lemma.ensures) over
