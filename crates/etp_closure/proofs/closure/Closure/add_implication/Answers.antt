use Rattle.std.proofs.Common.{◌∙◌, ap, subst, ℕ, List}
use Rattle.etp_theory.specs.LawNumbers.{dual_number}
use Rattle.etp_closure.specs.Closures.{is_reached, is_covered}
use Rattle.etp_closure.specs.Tables.{Links}
use Rattle.etp_closure.proofs.Standing.{stands_implied}
use Rattle.etp_closure.proofs.closure.Closure.add_implication.Goals as goal

pub returns-clause-stands : goal.returns-clause-stands
returns-clause-stands c = λ facts stands.
    let old = c.args.self.now in
    let mid = c.add_edge.new.self in
    let new = c.add_edge-2.new.self in
    let dual_a = c.dual_of-dual_hypothesis.ensures.value ∙ ap (λ (ds : List ℕ). dual_number ds c.args.hypothesis) c.add_edge.ensures.duals in
    let dual_b = c.dual_of-dual_goal.ensures.value ∙ ap (λ (ds : List ℕ). dual_number ds c.args.goal) c.add_edge.ensures.duals in
    let second = subst (λ n. Links (is_reached mid) (is_covered mid) (is_reached new) (is_covered new) (dual_number old.duals c.args.hypothesis) n) dual_b
    (subst (λ n. Links (is_reached mid) (is_covered mid) (is_reached new) (is_covered new) n c.dual_of-dual_goal.result) dual_a c.add_edge-2.ensures.links) in
    stands_implied old new facts c.args.hypothesis c.args.goal (is_reached mid) (is_covered mid) (c.add_edge-2.ensures.duals ∙ c.add_edge.ensures.duals) (c.add_edge-2.ensures.slots ∙ c.add_edge.ensures.slots) c.requires.hypothesis_kept c.requires.goal_kept c.add_edge.ensures.links second stands
