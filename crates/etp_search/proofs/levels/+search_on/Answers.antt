use Rattle.std.proofs.Common.{◌≡◌, ◌<◌, ◌≤◌, ◌+◌, ◌-◌, ℕ, suc, None, MatchOption, length, sym, ap, ◌∙◌, subst, arith}
use Rattle.etp_term.specs.Terms.{tree_of}
use Rattle.etp_term.specs.Laws.{equation_of}
use Rattle.etp_proof.specs.Lemmas.{step_of, lemma_of}
use Rattle.etp_search.specs.Spaces.{AreNeighbours}
use Rattle.etp_search.specs.Programs.{space_of}
use Rattle.etp_search.specs.Levels.{StandsIn, IsLevel, IsLeastIn, IsNearestStep}
use Rattle.etp_search.specs.Outcomes.{IsLedTo, pushed}
use Rattle.etp_search.proofs.Standing.{grown_twice, stands_back}
use Rattle.etp_search.proofs.LevelByLevel.{level_terms, led_here, spent_next, level_next, undecided_next, some_step, led_on}
use Rattle.etp_search.specs.declared.levels.Outcome.{Outcome}
use Rattle.etp_search.specs.declared.levels.Outcome.TheVariants.{Reached}
use Rattle.etp_search.specs.Outcomes.{IsOutcomeFrom}
use Rattle.etp_search.specs.Spaces.{Space}
use Rattle.etp_theory.specs.Trees.{Equation}
use Rattle.etp_theory.specs.Proofs.{last_term}
use Rattle.etp_proof.specs.declared.proof.Lemma.{Lemma}
use Rattle.etp_search.specs.Levels.{IsGrown}
use Rattle.etp_search.proofs.levels.+search_on.Goals as goal

-- the steps that the next level led to
led_from : (space : Space) (law : Equation) (steps n k : ℕ) (o : Outcome) (l : Lemma) → o ≡ Reached l → n ≡ suc k → IsOutcomeFrom space law steps n o → IsLedTo space law steps (suc k) (lemma_of l)
led_from space law steps n k o l same is h = subst (λ m. IsLedTo space law steps m (lemma_of l)) is (subst (IsOutcomeFrom space law steps n) same h)

pub nearest_step-requires-clause-terms : goal.nearest_step-requires-clause-terms
nearest_step-requires-clause-terms t c = λ u h.
    level_terms (space_of c.args.quest.space) (tree_of c.args.quest.goal.now.right) c.args.level c.args.start c.args.seen.now c.requires.level u
    (subst (λ n. StandsIn c.args.seen.now 0 n u) c.len-stop.ensures.count h)

pub returns-in-Some-clause-outcome : goal.returns-in-Some-clause-outcome
returns-in-Some-clause-outcome t c =
    let space = space_of c.args.quest.space in
    let law = equation_of c.args.quest.goal.now in
    let near = subst (λ o. MatchOption o (IsLeastIn (AreNeighbours space law.left) c.args.seen.now c.args.start c.len-stop.result None) (λ x. IsNearestStep space c.args.seen.now c.args.start c.len-stop.result law.left (step_of x))) c.in-Some.is c.in_ok-step.ensures in
    let less : c.args.level < c.args.quest.steps = (let a = c.requires.steps in let b = c.if-level-quest.false in omega (arith, a, b)) in
    subst (IsLedTo space law c.args.quest.steps c.args.level) (sym (c.in_ok-lemma.ensures ∙ ap (λ l. pushed l (step_of c.in-Some.step)) c.in_ok-nowhere.ensures))
    (led_here space law c.args.level c.requires.undecided c.args.quest.steps c.args.start less c.args.seen.now c.requires.level (step_of c.in-Some.step)
    (subst (λ n. IsNearestStep space c.args.seen.now c.args.start n law.left (step_of c.in-Some.step)) c.len-stop.ensures.count near))

pub grow-requires-clause-terms : goal.grow-requires-clause-terms
grow-requires-clause-terms t c = level_terms (space_of c.args.quest.space) (tree_of c.args.quest.goal.now.right) c.args.level c.args.start c.args.seen.now c.requires.level

pub returns-then-len-gt-MOST-clause-outcome : goal.returns-then-len-gt-MOST-clause-outcome
returns-then-len-gt-MOST-clause-outcome t c =
    let space = space_of c.args.quest.space in
    let law = equation_of c.args.quest.goal.now in
    let less : c.args.level < c.args.quest.steps = (let a = c.requires.steps in let b = c.if-level-quest.false in omega (arith, a, b)) in
    let none : IsLeastIn (AreNeighbours space law.left) c.args.seen.now c.args.start (length c.args.seen.now) None =
    subst (λ n. IsLeastIn (AreNeighbours space law.left) c.args.seen.now c.args.start n None) c.len-stop.ensures.count
    (subst (λ o. MatchOption o (IsLeastIn (AreNeighbours space law.left) c.args.seen.now c.args.start c.len-stop.result None) (λ x. IsNearestStep space c.args.seen.now c.args.start c.len-stop.result law.left (step_of x))) c.in_default.is c.in_ok-step.ensures) in
    let many : 200000 < length c.grow.new.seen = (let a = c.if-len-gt-MOST.true in let b = c.len.ensures.count in omega (arith, a, b)) in
    spent_next space law c.args.level c.requires.undecided c.args.quest.steps c.args.start less c.args.seen.now c.requires.level none c.grow.new.seen c.in_ok-grow.ensures (c.args.level + 1) (omega arith) c.len.ensures.different many

pub search_on-requires : goal.search_on-requires
search_on-requires t c =
    let space = space_of c.args.quest.space in
    let law = equation_of c.args.quest.goal.now in
    let less : c.args.level < c.args.quest.steps = (let a = c.requires.steps in let b = c.if-level-quest.false in omega (arith, a, b)) in
    let none : IsLeastIn (AreNeighbours space law.left) c.args.seen.now c.args.start (length c.args.seen.now) None =
    subst (λ n. IsLeastIn (AreNeighbours space law.left) c.args.seen.now c.args.start n None) c.len-stop.ensures.count
    (subst (λ o. MatchOption o (IsLeastIn (AreNeighbours space law.left) c.args.seen.now c.args.start c.len-stop.result None) (λ x. IsNearestStep space c.args.seen.now c.args.start c.len-stop.result law.left (step_of x))) c.in_default.is c.in_ok-step.ensures) in
    let size : c.args.quest.steps - c.args.level ≡ t = c.decreases in
    let small : length c.grow.new.seen ≤ 200000 = (let a = c.if-len-gt-MOST.false in let b = c.len.ensures.count in omega (arith, a, b)) in (
      omega (arith, size, less),
      (
        c.requires.space,
        (
          subst (λ n. IsLevel space law.right (c.args.level + 1) n (length c.grow.new.seen) c.grow.new.seen) (sym c.len-stop.ensures.count)
              (level_next space law c.args.level c.requires.undecided c.args.quest.steps c.args.start less c.args.seen.now c.requires.level none c.grow.new.seen c.in_ok-grow.ensures (c.args.level + 1) (omega arith) small),
          (
            undecided_next space law c.args.level c.requires.undecided c.args.quest.steps c.args.start less c.args.seen.now c.requires.level none c.grow.new.seen c.in_ok-grow.ensures (c.args.level + 1) (omega arith) small,
            omega (arith, less),
          ),
        ),
      ),
    )

pub stepped_on-requires-clause-terms : goal.stepped_on-requires-clause-terms
stepped_on-requires-clause-terms t c = λ u h.
    let grown : IsGrown c.args.seen.now c.search_on.new.seen = grown_twice c.args.seen.now c.grow.new.seen c.search_on.new.seen (c.in_ok-grow.ensures.added, c.in_ok-grow.ensures.behind) c.in_ok-lemma-2.ensures.grown in
    level_terms (space_of c.args.quest.space) (tree_of c.args.quest.goal.now.right) c.args.level c.args.start c.args.seen.now c.requires.level u
    (stands_back c.args.seen.now c.search_on.new.seen 0 (length c.args.seen.now) u grown (omega arith) (subst (λ n. StandsIn c.search_on.new.seen 0 n u) c.len-stop.ensures.count h))

pub stepped_on-requires-clause-some : goal.stepped_on-requires-clause-some
stepped_on-requires-clause-some t c = λ none.
    let space = space_of c.args.quest.space in
    let law = equation_of c.args.quest.goal.now in
    let grown : IsGrown c.args.seen.now c.search_on.new.seen = grown_twice c.args.seen.now c.grow.new.seen c.search_on.new.seen (c.in_ok-grow.ensures.added, c.in_ok-grow.ensures.behind) c.in_ok-lemma-2.ensures.grown in
    let led = led_from space law c.args.quest.steps (c.args.level + 1) c.args.level _ c.in-Reached.lemma c.in-Reached.is (omega arith) c.in_ok-lemma-2.ensures.outcome in
    some_step space law c.args.quest.steps c.args.level c.args.start c.args.seen.now c.search_on.new.seen c.requires.level grown (lemma_of c.in-Reached.lemma) led
    (subst (λ n. IsLeastIn (AreNeighbours space (last_term (lemma_of c.in-Reached.lemma).start (lemma_of c.in-Reached.lemma).steps)) c.search_on.new.seen c.args.start n None) c.len-stop.ensures.count none)

pub returns-in_ok-lemma-in-Reached-clause-outcome : goal.returns-in_ok-lemma-in-Reached-clause-outcome
returns-in_ok-lemma-in-Reached-clause-outcome t c =
    let space = space_of c.args.quest.space in
    let law = equation_of c.args.quest.goal.now in
    let grown : IsGrown c.args.seen.now c.search_on.new.seen = grown_twice c.args.seen.now c.grow.new.seen c.search_on.new.seen (c.in_ok-grow.ensures.added, c.in_ok-grow.ensures.behind) c.in_ok-lemma-2.ensures.grown in
    let led = led_from space law c.args.quest.steps (c.args.level + 1) c.args.level _ c.in-Reached.lemma c.in-Reached.is (omega arith) c.in_ok-lemma-2.ensures.outcome in
    let stepped = c.in_ok-lemma-in-Reached.ensures in
    let l = lemma_of c.in-Reached.lemma in
    subst (IsLedTo space law c.args.quest.steps c.args.level) (sym stepped.longer)
    (led_on space law c.args.quest.steps c.args.level c.args.start c.args.seen.now c.search_on.new.seen c.requires.level grown l led stepped.step
    (subst (λ n. IsNearestStep space c.search_on.new.seen c.args.start n (last_term l.start l.steps) stepped.step) c.len-stop.ensures.count stepped.nearest))
