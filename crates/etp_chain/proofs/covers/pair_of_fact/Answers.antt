use Rattle.std.proofs.Common.{◌≡◌, ◌∙◌, true, false, ap, Some}
use Rattle.etp_theory.specs.Reach.{refutes}
use Rattle.etp_closure.specs.declared.facts.Fact.{Fact}
use Rattle.etp_closure.specs.Facts.{fact_of}
use Rattle.etp_chain.proofs.Pairs.{none_plain, none_dual, none_implied}
use Rattle.etp_chain.proofs.covers.pair_of_fact.Goals as goal

pub returns-in-Implies : goal.returns-in-Implies
returns-in-Implies c = λ facts said h.
    let duals = c.args.duals.now in
    let before = c.args.before.now in
    let after = c.args.after.now in
    let none = none_implied duals facts before after c.args.file c.in-Implies.hypothesis c.in-Implies.goal (said ∙ ap (λ (x : Fact). Some (fact_of x)) c.in-Implies.is) in
    none_dual duals facts before after c.args.file (none_plain duals facts before after c.args.file h (none false)) (none true)

pub returns-in-Some-least_pair : goal.returns-in-Some-least_pair
returns-in-Some-least_pair c = λ facts said h.
    let holds = c.as_slice-holds.ensures in
    let fails = c.as_slice-fails.ensures in
    let is = said ∙ ap (λ (x : Fact). Some (fact_of x)) c.in-Refutes.is in
    let lists : refutes c.in-Refutes.holds c.in-Refutes.fails ≡ refutes c.as_slice-holds.result.now c.as_slice-fails.result.now = cc in
    let there = is ∙ ap Some lists in
    record {
      least = c.in-Some-least_pair.ensures facts c.args.file there;
      earliest = none_plain c.args.duals.now facts c.args.before.now c.args.after.now c.args.file h (c.in-None.ensures facts c.args.file there);
    }

pub returns-in-None-least_pair : goal.returns-in-None-least_pair
returns-in-None-least_pair c = λ facts said h.
    let duals = c.args.duals.now in
    let before = c.args.before.now in
    let after = c.args.after.now in
    let holds = c.as_slice-holds.ensures in
    let fails = c.as_slice-fails.ensures in
    let is = said ∙ ap (λ (x : Fact). Some (fact_of x)) c.in-Refutes.is in
    let lists : refutes c.in-Refutes.holds c.in-Refutes.fails ≡ refutes c.as_slice-holds.result.now c.as_slice-fails.result.now = cc in
    let there = is ∙ ap Some lists in
    none_dual duals facts before after c.args.file
    (none_plain duals facts before after c.args.file h (c.in-None.ensures facts c.args.file there)) (c.in-None-least_pair.ensures facts c.args.file there)
