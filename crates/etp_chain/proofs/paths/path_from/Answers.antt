use Rattle.std.proofs.Common.{◌≡◌, ◌∙◌, ◌<◌, ◌++◌, ◌∷◌, [], ℕ, List, get_or, length, Some, slice_get, subst, subst₂, sym, ap, refl, arith}
use Rattle.std.proofs.lemmas.Grind.{get_or_default_zero}
use Rattle.std.proofs.lemmas.Option.{slice_get_read}
use Rattle.etp_chain.specs.Searches.{IsFound}
use Rattle.etp_chain.specs.declared.evidence.Edge.{Edge as Step}
use Rattle.etp_chain.proofs.Distances.{Going, goes_once, goes_none, gone, next_step, is_end}
use Rattle.etp_chain.proofs.paths.path_from.Goals as goal
use Rattle.etp_chain.proofs.paths.path_from.Goals.{In_ok-push}

pub steps-init : goal.steps-init
steps-init c =
    record {
      law_in = c.requires.first_in;
      is_found = c.requires.is_found;
      going = λ duals facts end h s.
          let P : List Step → Type 0 = λ path. Going duals facts end c.args.first c.args.first path in
          subst P (sym c.empty-path.ensures) (goes_none duals facts end c.args.first);
    }

goal_is : (c : In_ok-push) → c.index-goal.result.now ≡ get_or c.args.graph.now.goals.laws.items c.in-Some.place 0
goal_is c =
    c.index-goal.ensures ∙ get_or_default_zero c.args.graph.now.goals.laws.items c.in-Some.place c.index-goal.result.now (omega (arith, c.in-Some.ensures.within, c.requires.ready.same_length))

pub index-goal-requires : goal.index-goal-requires
index-goal-requires c = omega (arith, c.in-Some.ensures.within, c.requires.ready.same_length, c.args.graph.now.goals.laws.ok.0)

pub index-source-requires : goal.index-source-requires
index-source-requires c = omega (arith, c.in-Some.ensures.within, c.requires.ready.same_sources, c.args.graph.now.sources.ok.0)

pub steps-smaller : goal.steps-smaller
steps-smaller c =
    let found = c.args.found.now in
    let same : get_or found c.index-goal.result.now 0 ≡ get_or found (get_or c.args.graph.now.goals.laws.items c.in-Some.place 0) 0 = ap (λ x. get_or found x 0) (goal_is c) in
    omega (arith, same, c.in-Some.ensures.nearer.one_less)

pub steps-preserved : goal.steps-preserved
steps-preserved c =
    let found = c.args.found.now in
    let graph = c.args.graph.now in
    let inv = c.steps.invariant in
    let best = c.in-Some.ensures in
    let place = c.in-Some.place in
    let to = graph.goals.laws.items in
    let is = goal_is c in
    let within : place < length to = omega (arith, best.within, c.requires.ready.same_length) in
    let ready = c.requires.ready.goals in
    let law_in = ready.threaded.laws_in place within in
    let source = c.index-source.result.now in
    let source_is : slice_get graph.sources.items place ≡ Some source =
    slice_get_read graph.sources.items (length graph.sources.items) place source refl (omega (arith, best.within, c.requires.ready.same_sources)) c.index-source.ensures in
    let F : ℕ → Type 0 = IsFound found in
    record {
      law_in = omega (arith, is, law_in, ready.sized);
      is_found = subst F (sym is) best.nearer.is_found;
      going = λ duals facts end h s.
          let P : ℕ → List Step → Type 0 = λ x path. Going duals facts end c.args.first x path in
          let step : Step = record { hypothesis = c.steps.law; goal = get_or to place 0; file = source.file; dual = source.dual } in
          let step_now : Step = record { hypothesis = c.steps.law; goal = c.index-goal.result.now; file = source.file; dual = source.dual } in
          let same : step_now ≡ step = ap (λ (x : ℕ). let r : Step = record { hypothesis = c.steps.law; goal = x; file = source.file; dual = source.dual } in r) is in
          let pushed : c.push.new.self ≡ c.steps.path ++ step_now ∷ [] = c.in_ok-push.ensures.ok in
          let next = next_step duals facts graph.hypotheses.laws.items to graph.sources.items h end found s c.steps.law place source best source_is in
          let once = goes_once duals facts end c.args.first c.steps.law c.steps.path step (inv.going duals facts end h s) next in
          subst₂ P (sym is) (sym (pushed ∙ ap (λ (x : Step). c.steps.path ++ x ∷ []) same)) once;
    }

pub returns : goal.returns
returns c = λ duals facts end h s.
    let graph = c.args.graph.now in
    let inv = c.steps.invariant in
    gone duals facts end c.args.first c.steps.law c.steps.path (inv.going duals facts end h s)
    (is_end duals facts graph.hypotheses.laws.items graph.goals.laws.items graph.sources.items h end c.args.found.now s c.steps.law inv.is_found c.in_default.ensures)
